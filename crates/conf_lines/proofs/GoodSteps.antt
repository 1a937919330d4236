-- A word of a statement whose form is known says a sound item, and leads to a place of the same form; what must stand from there on
-- makes what must stand from the word on. So the statements of a text are good: what their items say is sound, and without a fault
-- their options, their names and their parts are whole.
use Rattle.std.proofs.Common.{◌≡◌, inl, inr, ℕ, ◌≤◌, ◌||◌, Bool, true, false, cond, List, [], ◌∷◌, drop, find, Option, Some, None, Result, Ok, Err, IfOk, refl, codes, ◌+◌, sym, subst, ◌∙◌}
use Rattle.std.proofs.lemmas.Bool.{cond_both}
use Rattle.conf_lines.specs.declared.fault.ConfKind.{ConfKind}
use Rattle.conf_lines.specs.declared.fault.ConfKind.TheVariants.{MissingWord, ConvexFirst}
use Rattle.conf_lines.specs.declared.grammar.Next.{Next}
use Rattle.conf_lines.specs.declared.grammar.Next.TheVariants as next
use Rattle.conf_lines.specs.declared.item.Item.{Item}
use Rattle.conf_lines.specs.declared.item.What.{What}
use Rattle.conf_lines.specs.declared.item.What.TheVariants as what
use Rattle.conf_lines.specs.declared.options.Key.{Key}
use Rattle.conf_lines.specs.declared.options.Slots.{Slots}
use Rattle.conf_lines.specs.declared.options.Slots.TheVariants as slots
use Rattle.conf_lines.specs.declared.part.Part.{Part}
use Rattle.conf_lines.specs.declared.part.Part.TheVariants.{Must, Either, May, Behind}
use Rattle.conf_lines.specs.declared.part.Slot.{Slot}
use Rattle.conf_lines.specs.declared.part.Slot.TheVariants as slot
use Rattle.conf_lines.specs.declared.statement.Form.{Form}
use Rattle.conf_lines.specs.Grammar.{Place, Step, stands_by, says, leads, reads, as_read, at_parent, filled, behind_option, took, chosen, at_part, is_convex, at_bend, at_slope, at_last_slope, at_pir, uncompleted, step_from, step, end_from, end, start}
use Rattle.conf_lines.specs.Laws.{says_at, HasNumber, HasCurve, HasMask, HasSingle, HasTwo, HasSlots, IsSound, IsWhole, slot_count, Fills, Ends, Has, AreSound, AreAllSound, AreWhole, HasParts, AreAllWhole}
use Rattle.conf_lines.specs.Options.{most_rate, most_bend, most_port, most_burst, most_af, word_of_key, slots_of, completes, one_of, options_of}
use Rattle.conf_lines.specs.Parts.{reach, may_end}
use Rattle.conf_lines.specs.Slots.{is_text, rate_in, whole_in, skipped_in, name_in, protocol_in, mask_in, address_in, address6_in}
use Rattle.conf_lines.specs.declared.statement.Form.TheVariants as form
use Rattle.conf_lines.specs.declared.statement.Statement.{Statement}
use Rattle.conf_lines.specs.Texts.{Reading, fault_at, item_of, behind, read_from, statements_of}
use Rattle.conf_lines.proofs.ReadWords.{pick, IsFrom, name_says, skipped_says, mask_says, address_says, address6_says, rate_says, whole_says, protocol_says, refused_cases, statement_cases, discipline_cases}
use Rattle.conf_lines.proofs.EachStatement.{of_text}
use Rattle.conf_lines.proofs.GrammarPlaces.{at_interface_name, at_discipline_word}
use Rattle.conf_lines.proofs.Readings.{past}

-- A PLACE WHOSE FORM IS KNOWN, and what must stand from it on: the rest of an option, and then the parts that are left
abbrev pub IsFormed : Next → Type 0
IsFormed next.Statement = ⊥
IsFormed next.Discipline = ⊥
IsFormed _ = Unit {0}

abbrev pub Owed : Next → List Item → Type 0
Owed next.Skipped items = says_at 0 items ≡ Some what.Skipped
Owed (next.Rate low high) items = HasNumber what.Rate low high items
Owed (next.Whole low high) items = HasNumber what.Whole low high items
Owed next.Mask items = HasMask items
Owed (next.Slope low least) items = HasCurve low least items
Owed (next.Bend least m1) items =
    (low at : ℕ) → low ≤ m1 → m1 ≤ most_rate → HasCurve low least (record { word = at; what = what.Rate m1 } ∷ items)
Owed (next.LastSlope least m1 d) items =
    (low at bend : ℕ) → low ≤ m1 → m1 ≤ most_rate → d ≤ most_bend
    → HasCurve low least (record { word = at; what = what.Rate m1 } ∷ record { word = bend; what = what.Whole d } ∷ items)
Owed next.Cir items = HasSingle items
Owed next.Cbs items = (cir at : ℕ) → 1000 ≤ cir → cir ≤ most_rate → HasSingle (record { word = at; what = what.Rate cir } ∷ items)
Owed next.Pir items = HasTwo items
Owed (next.Pbs pir) items = (at : ℕ) → pir ≤ most_rate → HasTwo (record { word = at; what = what.Rate pir } ∷ items)
Owed (next.CirBelow pir) items =
    (pbs at second : ℕ) → pir ≤ most_rate → 1 ≤ pbs → pbs ≤ most_burst
    → HasTwo (record { word = at; what = what.Rate pir } ∷ record { word = second; what = what.Whole pbs } ∷ items)
Owed _ items = Unit {0}

abbrev pub count : Next → ℕ
count (next.Slope low least) = 3
count (next.Bend least m1) = 2
count next.Cir = 3
count next.Cbs = 2
count next.Pir = 4
count (next.Pbs pir) = 3
count (next.CirBelow pir) = 2
count _ = 1

abbrev pub Owes : Next → Place → List Item → Type 0
Owes next.Part place items = Has place.form place.stands place.parts items
Owes at place items = Owed at items × Has place.form true place.parts (drop (count at) items)

-- A STEP from where this is owed
pub record Goes (form : Form) (owed : List Item → Type 0) (says : What) (after : Place) : Type 0 where
  pub of : after.form ≡ form
  pub formed : IsFormed after.next
  pub sound : IsSound says
  pub whole : (items : List Item) → Owes after.next after items → IsWhole says items
  pub owes : (word : ℕ) (items : List Item) → Owes after.next after items → owed (record { word = word; what = says } ∷ items)

abbrev pub GoesBy : Form → (List Item → Type 0) → Option What → Place → Type 0
GoesBy form owed None after = ⊥
GoesBy form owed (Some says) after = Goes form owed says after

abbrev pub GoesIfOk : Form → (List Item → Type 0) → Result Step ConfKind → Type 0
GoesIfOk form owed (Ok taken) = GoesBy form owed taken.what taken.after
GoesIfOk form owed (Err kind) = Unit {0}

-- a word that was read, of which this holds
abbrev Good : (List Item → Type 0) → Place → What → Type 0
Good owed place says =
    IsSound says × ((items : List Item) → IsWhole says items)
    × ((at : ℕ) (items : List Item) → Has place.form (stands_by says) place.parts items → owed (record { word = at; what = says } ∷ items))

reads_go : (owed : List Item → Type 0) (place : Place) (r : Result What ConfKind) → IfOk r (Good owed place) → GoesIfOk place.form owed (reads r place)
reads_go owed place (Ok says) good = record { of = refl; formed = tt; sound = good.0; whole = λ items h. good.1 items; owes = good.2 }
reads_go owed place (Err kind) good = tt

number_goes : (owed : List Item → Type 0) (place : Place) (as_what : ℕ → What) (low high : ℕ) (r : Result ℕ ConfKind) → IfOk r (IsFrom low high)
    → ((n : ℕ) → IsFrom low high n → Good owed place (as_what n)) → GoesIfOk place.form owed (reads (as_read as_what r) place)
number_goes owed place as_what low high (Ok n) is good = reads_go owed place (Ok (as_what n)) (good n is)
number_goes owed place as_what low high (Err kind) is good = tt

-- a word that must be there
filled_goes : (slot : Slot) (place : Place) (word : List ℕ) (owed : List Item → Type 0)
    → ((at : ℕ) (says : What) (items : List Item) → Fills slot says → Has place.form (stands_by says) place.parts items
    → owed (record { word = at; what = says } ∷ items)) → GoesIfOk place.form owed (filled slot place word)
unfolding at_parent
filled_goes slot.Name place word owed k =
    reads_go owed place (name_in word) (name_says (Good owed place) word (λ e. (e, λ items. tt, λ at items. k at _ items tt)))
filled_goes slot.Parent place word owed k =
    let rooted : Place = record place { completed = place.completed || is_text (codes "NULL") word } in
    reads_go owed rooted (name_in word) (name_says (Good owed rooted) word (λ e. (e, λ items. tt, λ at items. k at _ items tt)))
filled_goes slot.Address place word owed k =
    reads_go owed place (address_in word)
    (address_says (Good owed place) word (tt, λ items. tt, λ at items. k at _ items tt) (λ address bytes. (bytes, λ items. tt, λ at items. k at _ items tt)))
filled_goes slot.Address6 place word owed k =
    reads_go owed place (address6_in word)
    (address6_says (Good owed place) word (tt, λ items. tt, λ at items. k at _ items tt)
    (λ address bits bytes few. ((bytes, few), λ items. tt, λ at items. k at _ items tt)))
filled_goes slot.Port place word owed k =
    number_goes owed place what.Whole 0 most_port (whole_in 0 most_port word) (whole_says 0 most_port word)
    (λ n is. (tt, λ items. tt, λ at items. k at _ items is.1))
filled_goes slot.Protocol place word owed k =
    number_goes owed place what.Whole 0 255 (protocol_in word) (protocol_says word) (λ n is. (tt, λ items. tt, λ at items. k at _ items is.1))
filled_goes slot.Af place word owed k =
    number_goes owed place what.Whole 1 most_af (whole_in 1 most_af word) (whole_says 1 most_af word)
    (λ n is. (tt, λ items. tt, λ at items. k at _ items is))

-- the word of an option
option_formed : (s : Slots) → IsFormed (behind_option s)
option_formed slots.Nothing = tt
option_formed _ = tt

by_slots : (s : Slots) (place : Place) (items : List Item) → Owes (behind_option s) (record place { stands = true }) items
    → HasSlots s items × Has place.form true place.parts (drop (slot_count s) items)
by_slots slots.Nothing place items h = (tt, h)
by_slots _ place items h = h

took_goes : (owed : List Item → Type 0) (key : Key) (place : Place)
    → ((at : ℕ) (items : List Item) → HasSlots (slots_of key) items × Has place.form true place.parts (drop (slot_count (slots_of key)) items)
    → owed (record { word = at; what = what.Key key } ∷ items)) → GoesIfOk place.form owed (took key place)
took_goes owed key place owes =
    let after : Place = record place { next = behind_option (slots_of key); stands = true; completed = place.completed || completes key } in
    record {
      of = refl;
      formed = option_formed (slots_of key);
      sound = tt;
      whole = λ items h. (by_slots (slots_of key) after items h).0;
      owes = λ at items h. owes at items (by_slots (slots_of key) after items h);
    }

-- an option behind the parts
choice_goes : (keys : List Key) (place : Place) (word : List ℕ) (owed : List Item → Type 0) → ((items : List Item) → Ends keys items → owed items)
    → GoesIfOk place.form owed (chosen place word (find (λ key. is_text (word_of_key key) word) keys))
choice_goes [] place word owed k = refused_cases (GoesIfOk place.form owed) word (λ kind. tt)
choice_goes (key ∷ keys) place word owed k = by (find (λ key. is_text (word_of_key key) word) (key ∷ keys))
  where
    by : (o : Option Key) → GoesIfOk place.form owed (chosen place word o)
    by None = refused_cases (GoesIfOk place.form owed) word (λ kind. tt)
    by (Some key) = took_goes owed key place (λ at items has. k _ tt)

-- one of two options
either_goes : (first second : Key) (place : Place) (word : List ℕ) (owed : List Item → Type 0)
    → ((at : ℕ) (items : List Item) → HasSlots (slots_of first) items × Has place.form true place.parts (drop (slot_count (slots_of first)) items)
    → owed (record { word = at; what = what.Key first } ∷ items))
    → ((at : ℕ) (items : List Item) → HasSlots (slots_of second) items × Has place.form true place.parts (drop (slot_count (slots_of second)) items)
    → owed (record { word = at; what = what.Key second } ∷ items))
    → GoesIfOk place.form owed (chosen place word (one_of (first ∷ second ∷ []) word))
either_goes first second place word owed j k =
    let Named : Option Key → Type 0 = λ o. GoesIfOk place.form owed (chosen place word o) in
    pick Named (is_text (word_of_key first) word) _ _ (took_goes owed first place j)
    (pick Named (is_text (word_of_key second) word) _ _ (took_goes owed second place k)
    (refused_cases (GoesIfOk place.form owed) word (λ kind. tt)))

-- the parts: what is owed behind an option is owed at it
parts_go : (word : List ℕ) (place : Place) (stands : Bool) (parts : List Part) (owed : List Item → Type 0)
    → ((items : List Item) → Has place.form stands parts items → owed items) → GoesIfOk place.form owed (at_part (reach stands parts word) place word)
parts_go word place stands [] owed k = choice_goes (options_of place.form) (record place { parts = [] }) word owed k
parts_go word place stands (Must slot ∷ parts) owed k =
    filled_goes slot (record place { parts = parts }) word owed (λ at says items fills has. k (record { word = at; what = says } ∷ items) (fills, has))
parts_go word place stands (Either first second ∷ parts) owed k =
    either_goes first second (record place { parts = parts }) word owed
    (λ at items has. k _ (inl (refl, has.0, has.1))) (λ at items has. k _ (inr (refl, has.0, has.1)))
parts_go word place stands (May key ∷ parts) owed k =
    pick (λ left. GoesIfOk place.form owed (at_part left place word)) (is_text (word_of_key key) word) _ _
    (took_goes owed key (record place { parts = parts }) (λ at items has. k _ (inl (refl, has.0, has.1))))
    (parts_go word place false parts owed (λ items h. k items (inr h)))
parts_go word place true (Behind key ∷ parts) owed k =
    pick (λ left. GoesIfOk place.form owed (at_part left place word)) (is_text (word_of_key key) word) _ _
    (took_goes owed key (record place { parts = parts }) (λ at items has. k _ (inl (refl, has.0, has.1))))
    (parts_go word place false parts owed (λ items h. k items (inr h)))
parts_go word place false (Behind key ∷ parts) owed k = parts_go word place false parts owed k

-- a curve
slope_goes : (low least : ℕ) (place : Place) (r : Result ℕ ConfKind) → IfOk r (IsFrom low most_rate)
    → GoesIfOk place.form (Owes (next.Slope low least) place) (at_slope least r place)
slope_goes low least place (Ok m1) is =
    record { of = refl; formed = tt; sound = tt; whole = λ items h. tt; owes = λ at items h. (h.0 low at is.0 is.1, h.1) }
slope_goes low least place (Err kind) is = tt

bend_goes : (least m1 : ℕ) (place : Place) (r : Result ℕ ConfKind) → IfOk r (IsFrom 0 most_bend)
    → GoesIfOk place.form (Owes (next.Bend least m1) place) (at_bend least r place m1)
bend_goes least m1 place (Ok d) is =
    record { of = refl; formed = tt; sound = tt; whole = λ items h. tt; owes = λ bend items h. (λ low at first most. h.0 low at bend first most is.1, h.1) }
bend_goes least m1 place (Err kind) is = tt

second_goes : (least m1 d : ℕ) (place : Place) (r : Result ℕ ConfKind) → IfOk r (IsFrom least most_rate)
    → GoesIfOk place.form (Owes (next.LastSlope least m1 d) place) (at_last_slope m1 d r place)
second_goes least m1 d place (Ok m2) is =
    let owed : List Item → Type 0 = Owes (next.LastSlope least m1 d) place in
    cond_both (is_convex m1 d m2) (Err ConvexFirst) (says (what.Rate m2) place next.Part) (GoesIfOk place.form owed) (λ e. tt) λ e.
    reads_go owed place (Ok (what.Rate m2)) (
      tt,
      λ items. tt,
      λ second items has. (
        λ low at bend first most late. record {
          m1 = m1;
          d = d;
          m2 = m2;
          first = refl;
          bend = refl;
          second = refl;
          first_least = first;
          first_most = most;
          bend_most = late;
          second_least = is.0;
          second_most = is.1;
          upward = e;
        },
        has,
      ),
    )
second_goes least m1 d place (Err kind) is = tt

has_number : (as_what : ℕ → What) (low high at n : ℕ) (items : List Item) → IsFrom low high n
    → HasNumber as_what low high (record { word = at; what = as_what n } ∷ items)
has_number as_what low high at n items is = record { number = n; says = refl; least = is.0; most = is.1 }

-- a meter: a number, and what is next behind it
abbrev Led : (ℕ → What) → Next → Place → (ℕ → Type 0) → (List Item → Type 0) → Type 0
Led as_what next place Is owed =
    (n at : ℕ) (items : List Item) → Is n → Owes next (record place { next = next; stands = stands_by (as_what n) }) items
    → owed (record { word = at; what = as_what n } ∷ items)

rate_leads : (owed : List Item → Type 0) (place : Place) (next : Next) (high : ℕ) (word : List ℕ) → IsFormed next
    → Led what.Rate next place (IsFrom 1000 high) owed → GoesIfOk place.form owed (leads (as_read what.Rate (rate_in 1000 high word)) place next)
rate_leads owed place next high word f k = by (rate_in 1000 high word) (rate_says 1000 high word)
  where
    by : (r : Result ℕ ConfKind) → IfOk r (IsFrom 1000 high) → GoesIfOk place.form owed (leads (as_read what.Rate r) place next)
    by (Ok n) is = record { of = refl; formed = f; sound = tt; whole = λ items h. tt; owes = λ at items h. k n at items is h }
    by (Err kind) is = tt

burst_leads : (owed : List Item → Type 0) (place : Place) (next : Next) (word : List ℕ) → IsFormed next
    → Led what.Whole next place (IsFrom 1 most_burst) owed → GoesIfOk place.form owed (leads (as_read what.Whole (whole_in 1 most_burst word)) place next)
burst_leads owed place next word f k = by (whole_in 1 most_burst word) (whole_says 1 most_burst word)
  where
    by : (r : Result ℕ ConfKind) → IfOk r (IsFrom 1 most_burst) → GoesIfOk place.form owed (leads (as_read what.Whole r) place next)
    by (Ok n) is = record { of = refl; formed = f; sound = tt; whole = λ items h. tt; owes = λ at items h. k n at items is h }
    by (Err kind) is = tt

pir_goes : (place : Place) (r : Result ℕ ConfKind) → IfOk r (IsFrom 1000 most_rate) → GoesIfOk place.form (Owes next.Pir place) (at_pir r place)
pir_goes place (Ok pir) is =
    record { of = refl; formed = tt; sound = tt; whole = λ items h. tt; owes = λ at items h. (h.0 at is.1, h.1) }
pir_goes place (Err kind) is = tt

cbs_leads : (place : Place) → Led what.Whole (next.Whole 0 most_burst) place (IsFrom 1 most_burst) (Owes next.Cbs place)
cbs_leads place cbs burst items is h = (
  λ cir at least most. record {
    cir = cir;
    cbs = cbs;
    ebs = h.0.number;
    rate = refl;
    burst = refl;
    excess = h.0.says;
    rate_least = least;
    rate_most = most;
    burst_least = is.0;
    burst_most = is.1;
    excess_most = h.0.most;
  },
  h.1,
)

cir_leads : (pir : ℕ) (place : Place) → Led what.Rate (next.Whole 1 most_burst) place (IsFrom 1000 pir) (Owes (next.CirBelow pir) place)
cir_leads pir place cir rate items is h = (
  λ pbs at second most least burst_most. record {
    pir = pir;
    pbs = pbs;
    cir = cir;
    cbs = h.0.number;
    peak = refl;
    peak_burst = refl;
    rate = refl;
    burst = h.0.says;
    peak_most = most;
    peak_burst_least = least;
    peak_burst_most = burst_most;
    rate_least = is.0;
    rate_most = is.1;
    burst_least = h.0.least;
    burst_most = h.0.most;
  },
  h.1,
)

from_goes : (at : Next) (place : Place) (word : List ℕ) → IsFormed at → GoesIfOk place.form (Owes at place) (step_from at place word)
from_goes next.Statement place word f = absurd f
from_goes next.Discipline place word f = absurd f
from_goes next.Part place word f = parts_go word place place.stands place.parts (Owes next.Part place) (λ items h. h)
from_goes next.Skipped place word f =
    let owed : List Item → Type 0 = Owes next.Skipped place in
    reads_go owed place (skipped_in word) (skipped_says (Good owed place) word (tt, λ items. tt, λ at items has. (refl, has)))
from_goes (next.Rate low high) place word f =
    number_goes (Owes (next.Rate low high) place) place what.Rate low high (rate_in low high word) (rate_says low high word)
    (λ n is. (tt, λ items. tt, λ at items has. (has_number what.Rate low high at n items is, has)))
from_goes (next.Whole low high) place word f =
    number_goes (Owes (next.Whole low high) place) place what.Whole low high (whole_in low high word) (whole_says low high word)
    (λ n is. (tt, λ items. tt, λ at items has. (has_number what.Whole low high at n items is, has)))
from_goes next.Mask place word f =
    let owed : List Item → Type 0 = Owes next.Mask place in
    reads_go owed place (mask_in word)
    (mask_says (Good owed place) word (λ address bytes. (bytes, λ items. tt, λ at items has. (record { mask = address; says = refl }, has))))
from_goes (next.Slope low least) place word f = slope_goes low least place (rate_in low most_rate word) (rate_says low most_rate word)
from_goes (next.Bend least m1) place word f = bend_goes least m1 place (whole_in 0 most_bend word) (whole_says 0 most_bend word)
from_goes (next.LastSlope least m1 d) place word f = second_goes least m1 d place (rate_in least most_rate word) (rate_says least most_rate word)
from_goes next.Cir place word f = rate_leads (Owes next.Cir place) place next.Cbs most_rate word tt (λ cir at items is h. (h.0 cir at is.0 is.1, h.1))
from_goes next.Cbs place word f = burst_leads (Owes next.Cbs place) place (next.Whole 0 most_burst) word tt (cbs_leads place)
from_goes next.Pir place word f = pir_goes place (rate_in 1000 most_rate word) (rate_says 1000 most_rate word)
from_goes (next.Pbs pir) place word f =
    burst_leads (Owes (next.Pbs pir) place) place (next.CirBelow pir) word tt (λ pbs second items is h. (λ at most. h.0 pbs at second most is.0 is.1, h.1))
from_goes (next.CirBelow pir) place word f = rate_leads (Owes (next.CirBelow pir) place) place (next.Whole 1 most_burst) pir word tt (cir_leads pir place)

pub goes : (place : Place) (word : List ℕ) → IsFormed place.next → GoesIfOk place.form (Owes place.next place) (step place word)
unfolding step
goes place word f = from_goes place.next place word f

-- THE END, where nothing is owed
nothing_ends : (keys : List Key) → Ends keys []
nothing_ends [] = refl
nothing_ends (key ∷ keys) = tt

nothing_left : (form : Form) (stands : Bool) (parts : List Part) → may_end parts ≡ true → Has form stands parts []
nothing_left form stands [] e = nothing_ends (options_of form)
nothing_left form stands (Must slot ∷ parts) e = cc
nothing_left form stands (Either first second ∷ parts) e = cc
nothing_left form stands (May key ∷ parts) e = inr (nothing_left form false parts e)
nothing_left form true (Behind key ∷ parts) e = inr (nothing_left form false parts e)
nothing_left form false (Behind key ∷ parts) e = nothing_left form false parts e

no_fault : (here : Bool) (o : Option ConfKind) → cond here o (Some MissingWord) ≡ None → here ≡ true
no_fault true o e = refl
no_fault false o e = cc

end_at : (at : Next) (place : Place) → end_from at place ≡ None → Owes at place []
end_at next.Part place e =
    nothing_left place.form place.stands place.parts (no_fault (may_end place.parts) (cond place.completed None (Some (uncompleted place.form))) e)
end_at _ place e = cc

pub end_owes : (place : Place) → end place ≡ None → Owes place.next place []
unfolding end
end_owes place e = end_at place.next place e

-- a reading without a fault from a place whose form is known, and each reading from there
record IsReadWhole (place : Place) (r : Reading) : Type 0 where
  form : r.form ≡ place.form
  options : AreWhole r.items
  owes : Owes place.next place r.items

abbrev IsGood : Place → Reading → Type 0
IsGood place r = AreSound r.items × (r.fault ≡ None → IsReadWhole place r)

no_kind : (line at : ℕ) (o : Option ConfKind) → fault_at line at o ≡ None → o ≡ None
no_kind line at None e = refl
no_kind line at (Some kind) e = cc

good_behind : (place : Place) (at : ℕ) (o : Option What) (after : Place) (r : Reading) → GoesBy place.form (Owes place.next place) o after
    → (IsFormed after.next → IsGood after r) → IsGood place (behind (item_of at o) r)
good_behind place at None after r h k = absurd h
good_behind place at (Some says) after r h k =
    let (sound, whole) = k h.formed in (
      (h.sound, sound),
      λ e. let rest = whole e in record { form = rest.form ∙ h.of; options = (h.whole r.items rest.owes, rest.options); owes = h.owes at r.items rest.owes },
    )

good_past : (line : ℕ) (words : List (List ℕ)) (place : Place) (at : ℕ) (r : Result Step ConfKind) → GoesIfOk place.form (Owes place.next place) r
    → ((to : Place) → IsFormed to.next → IsGood to (read_from line words to (at + 1))) → IsGood place (past line words place at r)
good_past line words place at (Ok taken) h k = good_behind place at taken.what taken.after (read_from line words taken.after (at + 1)) h (k taken.after)
good_past line words place at (Err kind) h k = (tt, λ e. cc)

good_from : (line : ℕ) (words : List (List ℕ)) (place : Place) (at : ℕ) → IsFormed place.next → IsGood place (read_from line words place at)
good_from line [] place at f = (tt, λ e. record { form = refl; options = tt; owes = end_owes place (no_kind line at (end place) e) })
good_from line (word ∷ words) place at f =
    good_past line words place at (step place word) (goes place word f) (λ to g. good_from line words to (at + 1) g)

-- the words of a line, from the place behind those that say its form, and from its first word on
abbrev IsGoodLine : Reading → Type 0
IsGoodLine r = AreSound r.items × (r.fault ≡ None → AreWhole r.items × HasParts r.form r.items)

begun_good : (line : ℕ) (words : List (List ℕ)) (form : Form) (at : ℕ) → IsGoodLine (read_from line words (at_interface_name form) at)
begun_good line words form at =
    let (sound, whole) = good_from line words (at_interface_name form) at tt in (
      sound,
      λ e. let w = whole e in (w.options, subst (λ x. HasParts x (read_from line words (at_interface_name form) at).items) (sym w.form) w.owes),
    )

class_good : (line : ℕ) (words : List (List ℕ)) → IsGoodLine (read_from line words at_discipline_word 2)
unfolding step end
class_good line [] = (tt, λ e. cc)
class_good line (word ∷ words) =
    discipline_cases (λ r. IsGoodLine (past line words at_discipline_word 2 r)) word (λ kind. (tt, λ e. cc))
    (begun_good line words form.ClassHfsc 3) (begun_good line words form.ClassCbq 3)

line_good : (line : ℕ) (word : List ℕ) (words : List (List ℕ)) → IsGoodLine (read_from line (word ∷ words) start 1)
unfolding step
line_good line word words =
    statement_cases (λ r. IsGoodLine (past line words start 1 r)) word (λ kind. (tt, λ e. cc))
    (begun_good line words form.Interface 2) (class_good line words) (begun_good line words form.Filter 2) (begun_good line words form.Filter6 2)
    (begun_good line words form.Conditioner 2)

-- the statements of a text
abbrev IsGoodStatement : Statement → Type 0
IsGoodStatement s = AreSound s.items × (s.fault ≡ None → AreWhole s.items × HasParts s.form s.items)

pub statements_sound : (text : List ℕ) → AreAllSound (statements_of text)
statements_sound = of_text IsGoodStatement AreAllSound tt (λ s rest good others. (good.0, others)) (λ line words. (tt, λ e. cc)) line_good

pub options_whole : (text : List ℕ) → AreAllWhole (statements_of text)
options_whole = of_text IsGoodStatement AreAllWhole tt (λ s rest good others. (good.1, others)) (λ line words. (tt, λ e. cc)) line_good
