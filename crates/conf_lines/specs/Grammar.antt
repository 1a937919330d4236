-- The statements as what may stand where: from a place, a word leads to another place, or it is the first fault of the
-- statement.
use Rattle.std.specs.Prelude.{◌≡◌, ℕ, ◌&&◌, ◌||◌, Bool, true, false, List, [], ◌∷◌, nat_lt, if◌then◌else◌, Option, Some, None, Result, Ok, Err, codes}
use Rattle.conf_lines.specs.declared.fault.ConfKind.{ConfKind}
use Rattle.conf_lines.specs.declared.grammar.Next.{Next}
use Rattle.conf_lines.specs.declared.grammar.Next.TheVariants as next
use Rattle.conf_lines.specs.declared.grammar.Place as code_place
use Rattle.conf_lines.specs.declared.grammar.Refusal.{Refusal}
use Rattle.conf_lines.specs.declared.grammar.Refusal.TheVariants.{Kind, NoMemory}
use Rattle.conf_lines.specs.declared.grammar.Step as code_step
use Rattle.conf_lines.specs.declared.item.What.{What}
use Rattle.conf_lines.specs.declared.item.What.TheVariants as what
use Rattle.conf_lines.specs.declared.options.Key.{Key}
use Rattle.conf_lines.specs.declared.options.Slots.{Slots}
use Rattle.conf_lines.specs.declared.options.Slots.TheVariants as slots
use Rattle.conf_lines.specs.declared.part.Part.{Part}
use Rattle.conf_lines.specs.declared.part.Part.TheVariants.{Must, Either, May, Behind}
use Rattle.conf_lines.specs.declared.part.Slot.{Slot}
use Rattle.conf_lines.specs.declared.part.Slot.TheVariants as slot
use Rattle.conf_lines.specs.declared.statement.Form.{Form}
use Rattle.conf_lines.specs.declared.statement.Form.TheVariants as form
use Rattle.conf_lines.specs.Options.{most_rate, most_bend, most_port, most_burst, most_af, slots_of, completes, one_of, option_of}
use Rattle.conf_lines.specs.Parts.{parts_of, reach, may_end}
use Rattle.conf_lines.specs.Slots.{is_text, are_plain, rate_in, whole_in, skipped_in, name_in, protocol_in, mask_in, address_in, address6_in}
use Rattle.conf_lines.specs.declared.fault.ConfKind.TheVariants.{UnknownWord, MissingWord, BadByte, ConvexFirst, NoShare}

-- a place, which is a state of the parser: which statement it is, what the next word is, the parts that may still come, whether
-- the part before stands and is not the address `0`, and whether the statement has what it must have besides its parts
pub record Place : Type 0 where
  pub form : Form
  pub next : Next
  pub parts : List Part
  pub stands : Bool
  pub completed : Bool

-- the item of a word, if it says more than which statement it is, and the place behind it
pub record Step : Type 0 where
  pub what : Option What
  pub after : Place

-- a word that says something, and then another is next
abbrev pub stands_by : What → Bool
stands_by what.Any = false
stands_by _ = true

abbrev pub says : What → Place → Next → Result Step ConfKind
says what place next = Ok (record { what = Some what; after = record place { next = next; stands = stands_by what } })

-- a read word, and what is next behind it: a part, or another
abbrev pub leads : Result What ConfKind → Place → Next → Result Step ConfKind
leads (Ok what) place next = says what place next
leads (Err kind) place next = Err kind

abbrev pub reads : Result What ConfKind → Place → Result Step ConfKind
reads read place = leads read place next.Part

-- a read number as what it says
abbrev pub as_read : (ℕ → What) → Result ℕ ConfKind → Result What ConfKind
as_read as_what (Ok n) = Ok (as_what n)
as_read as_what (Err kind) = Err kind

-- a word that no statement has at its place
abbrev pub refused : List ℕ → Result Step ConfKind
refused word = if are_plain word then Err UnknownWord else Err BadByte

-- a word of this form only says which statement it is; a filter and a conditioner have nothing to have besides their parts
abbrev pub has_parts_alone : Form → Bool
has_parts_alone form.Filter = true
has_parts_alone form.Filter6 = true
has_parts_alone form.Conditioner = true
has_parts_alone _ = false

abbrev pub begins : Form → Next → Result Step ConfKind
begins form next =
    Ok (record { what = None; after = record { form = form; next = next; parts = parts_of form; stands = true; completed = has_parts_alone form } })

-- the first word: interface, class, filter, filter6 or conditioner
unfoldable pub at_statement : List ℕ → Result Step ConfKind
at_statement word =
    if is_text (codes "interface") word then begins form.Interface next.Part
    else if is_text (codes "class") word then begins form.Unread next.Discipline
    else if is_text (codes "filter") word then begins form.Filter next.Part
    else if is_text (codes "filter6") word then begins form.Filter6 next.Part
    else if is_text (codes "conditioner") word then begins form.Conditioner next.Part
    else refused word

-- behind class: hfsc or cbq
unfoldable pub at_discipline : List ℕ → Result Step ConfKind
at_discipline word =
    if is_text (codes "hfsc") word then begins form.ClassHfsc next.Part
    else if is_text (codes "cbq") word then begins form.ClassCbq next.Part
    else refused word

-- a class with the parent NULL is the root, which has what it must have
unfoldable pub at_parent : Place → List ℕ → Result Step ConfKind
at_parent place word = reads (name_in word) (record place { completed = place.completed || is_text (codes "NULL") word })

-- a word that must be there
abbrev pub filled : Slot → Place → List ℕ → Result Step ConfKind
filled slot.Name place word = reads (name_in word) place
filled slot.Parent place word = at_parent place word
filled slot.Address place word = reads (address_in word) place
filled slot.Address6 place word = reads (address6_in word) place
filled slot.Port place word = reads (as_read what.Whole (whole_in 0 most_port word)) place
filled slot.Protocol place word = reads (as_read what.Whole (protocol_in word)) place
filled slot.Af place word = reads (as_read what.Whole (whole_in 1 most_af word)) place

-- the word of an option, and what is next behind it
abbrev pub behind_option : Slots → Next
behind_option slots.Nothing = next.Part
behind_option slots.Word = next.Skipped
behind_option (slots.Rate low high) = next.Rate low high
behind_option (slots.Whole low high) = next.Whole low high
behind_option (slots.Curve low least) = next.Slope low least
behind_option slots.Mask = next.Mask
behind_option slots.Single = next.Cir
behind_option slots.Two = next.Pir

abbrev pub took : Key → Place → Result Step ConfKind
took key place = says (what.Key key) (record place { completed = place.completed || completes key }) (behind_option (slots_of key))

-- an option, or a word that the statement does not have
abbrev pub chosen : Place → List ℕ → Option Key → Result Step ConfKind
chosen place word None = refused word
chosen place word (Some key) = took key place

-- the first of these parts, or behind the parts an option
abbrev pub at_part : List Part → Place → List ℕ → Result Step ConfKind
at_part [] place word = chosen (record place { parts = [] }) word (option_of place.form word)
at_part (Must slot ∷ parts) place word = filled slot (record place { parts = parts }) word
at_part (Either first second ∷ parts) place word = chosen (record place { parts = parts }) word (one_of (first ∷ second ∷ []) word)
at_part (May key ∷ parts) place word = took key (record place { parts = parts })
at_part (Behind key ∷ parts) place word = took key (record place { parts = parts })

-- a curve: RATE WHOLE RATE are its first slope m1, the time d of its bend in milliseconds, and its second slope m2. A curve
-- that bends upwards from m1 > 0 is ConvexFirst, at m2.
abbrev pub is_convex : ℕ → ℕ → ℕ → Bool
is_convex m1 d m2 = nat_lt 0 d && nat_lt 0 m1 && nat_lt m1 m2

abbrev pub at_bend : ℕ → Result ℕ ConfKind → Place → ℕ → Result Step ConfKind
at_bend least (Ok d) place m1 = says (what.Whole d) place (next.LastSlope least m1 d)
at_bend least (Err kind) place m1 = Err kind

abbrev pub at_slope : ℕ → Result ℕ ConfKind → Place → Result Step ConfKind
at_slope least (Ok m1) place = says (what.Rate m1) place (next.Bend least m1)
at_slope least (Err kind) place = Err kind

abbrev pub at_last_slope : ℕ → ℕ → Result ℕ ConfKind → Place → Result Step ConfKind
at_last_slope m1 d (Ok m2) place = if is_convex m1 d m2 then Err ConvexFirst else says (what.Rate m2) place next.Part
at_last_slope m1 d (Err kind) place = Err kind

-- A meter of one rate: RATE WHOLE WHOLE are its rate, its burst and its excess burst. One of two rates: RATE WHOLE RATE WHOLE are its
-- peak rate, the burst of that, its committed rate, which is at most the peak rate, and the burst of this.
abbrev pub at_pir : Result ℕ ConfKind → Place → Result Step ConfKind
at_pir (Ok pir) place = says (what.Rate pir) place (next.Pbs pir)
at_pir (Err kind) place = Err kind

-- what a word leads to from a place
abbrev pub step_from : Next → Place → List ℕ → Result Step ConfKind
step_from next.Statement place word = at_statement word
step_from next.Discipline place word = at_discipline word
step_from next.Part place word = at_part (reach place.stands place.parts word) place word
step_from next.Skipped place word = reads (skipped_in word) place
step_from (next.Rate low high) place word = reads (as_read what.Rate (rate_in low high word)) place
step_from (next.Whole low high) place word = reads (as_read what.Whole (whole_in low high word)) place
step_from next.Mask place word = reads (mask_in word) place
step_from (next.Slope low least) place word = at_slope least (rate_in low most_rate word) place
step_from (next.Bend least m1) place word = at_bend least (whole_in 0 most_bend word) place m1
step_from (next.LastSlope least m1 d) place word = at_last_slope m1 d (rate_in least most_rate word) place
step_from next.Cir place word = leads (as_read what.Rate (rate_in 1000 most_rate word)) place next.Cbs
step_from next.Cbs place word = leads (as_read what.Whole (whole_in 1 most_burst word)) place (next.Whole 0 most_burst)
step_from next.Pir place word = at_pir (rate_in 1000 most_rate word) place
step_from (next.Pbs pir) place word = leads (as_read what.Whole (whole_in 1 most_burst word)) place (next.CirBelow pir)
step_from (next.CirBelow pir) place word = leads (as_read what.Rate (rate_in 1000 pir word)) place (next.Whole 1 most_burst)

unfoldable pub step : Place → List ℕ → Result Step ConfKind
step place word = step_from place.next place word

-- the fault of a statement that ends at a place, if it may not end there
abbrev pub uncompleted : Form → ConfKind
uncompleted form.ClassHfsc = NoShare
uncompleted _ = MissingWord

abbrev pub end_from : Next → Place → Option ConfKind
end_from next.Part place = if may_end place.parts then if place.completed then None else Some (uncompleted place.form) else Some MissingWord
end_from _ place = Some MissingWord

unfoldable pub end : Place → Option ConfKind
end place = end_from place.next place

-- the place before the first word
abbrev pub start : Place
start = record { form = form.Unread; next = next.Statement; parts = []; stands = true; completed = false }

-- the code's place, and what it returns: exactly this reading, or `NoMemory`
abbrev pub seen : code_place.Place → Place
seen place = record { form = place.form; next = place.next; parts = place.parts.now; stands = place.stands; completed = place.completed }

abbrev pub Fails : Refusal → Result Step ConfKind → Type 0
Fails NoMemory read = Unit {0}
Fails (Kind kind) read = read ≡ Err kind

abbrev pub Gives : Result code_step.Step Refusal → Result Step ConfKind → Type 0
Gives (Ok step) read = read ≡ Ok (record { what = step.what; after = seen step.after })
Gives (Err refusal) read = Fails refusal read
