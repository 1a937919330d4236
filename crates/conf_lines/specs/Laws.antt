-- What the items of the statements of every text keep to, after altq.conf(5): each has its form, and in a statement without a
-- fault each option has behind it what the table of options says, and each name and each part of a filter or a conditioner is there.
use Rattle.std.specs.Prelude.{◌≡◌, ◌⊎◌, ◌<◌, ◌≤◌, ℕ, Bool, true, false, List, [], ◌∷◌, ◌++◌, length, drop, All, Option, Some, None, option_map, slice_get}
use Rattle.conf_lines.specs.declared.fault.ConfPlace.{ConfPlace}
use Rattle.conf_lines.specs.declared.item.Item.{Item}
use Rattle.conf_lines.specs.declared.item.What.{What}
use Rattle.conf_lines.specs.declared.item.What.TheVariants as what
use Rattle.conf_lines.specs.declared.options.Key.{Key}
use Rattle.conf_lines.specs.declared.options.Slots.{Slots}
use Rattle.conf_lines.specs.declared.options.Slots.TheVariants as slots
use Rattle.conf_lines.specs.declared.part.Part.{Part}
use Rattle.conf_lines.specs.declared.part.Part.TheVariants.{Must, Either, May, Behind}
use Rattle.conf_lines.specs.declared.part.Slot.{Slot}
use Rattle.conf_lines.specs.declared.part.Slot.TheVariants as slot
use Rattle.conf_lines.specs.declared.statement.Form.{Form}
use Rattle.conf_lines.specs.declared.statement.Statement.{Statement}
use Rattle.conf_lines.specs.Grammar.{stands_by, is_convex, start}
use Rattle.conf_lines.specs.Options.{most_rate, most_bend, most_port, most_protocol, most_burst, most_af, slots_of, options_of}
use Rattle.conf_lines.specs.Parts.{parts_of}
use Rattle.line_text.specs.Names.{is_name}
use Rattle.conf_lines.specs.Texts.{read_from, statements_of}

-- a list of `n` bytes
pub record AreBytes (n : ℕ) (list : List ℕ) : Type 0 where
  pub count : length list ≡ n
  pub bytes : All (λ b. b < 256) list

-- a NAME has its form, an address its bytes, a prefix length is at most 128
abbrev pub IsSound : What → Type 0
IsSound (what.Name name) = is_name name ≡ true
IsSound (what.Ip4 address) = AreBytes 4 address
IsSound (what.Ip6 address bits) = AreBytes 16 address × (bits ≤ 128)
IsSound _ = Unit {0}

abbrev pub AreSound : List Item → Type 0
AreSound [] = Unit {0}
AreSound (item ∷ items) = IsSound item.what × AreSound items

abbrev pub AreAllSound : List Statement → Type 0
AreAllSound [] = Unit {0}
AreAllSound (s ∷ statements) = AreSound s.items × AreAllSound statements

-- the items of each statement of a text
abbrev pub ItemsAreSound : Type 0
ItemsAreSound = (text : List ℕ) → AreAllSound (statements_of text)

-- what the item at a place says, counted from 0
abbrev pub says_at : ℕ → List Item → Option What
says_at i items = option_map (λ item. item.what) (slice_get items i)

-- a number of a range stands first
pub record HasNumber (as_what : ℕ → What) (low high : ℕ) (items : List Item) : Type 0 where
  pub number : ℕ
  pub says : says_at 0 items ≡ Some (as_what number)
  pub least : low ≤ number
  pub most : number ≤ high

-- a curve does: its first slope, its bend and its second slope
pub record HasCurve (low least : ℕ) (items : List Item) : Type 0 where
  pub m1 : ℕ
  pub d : ℕ
  pub m2 : ℕ
  pub first : says_at 0 items ≡ Some (what.Rate m1)
  pub bend : says_at 1 items ≡ Some (what.Whole d)
  pub second : says_at 2 items ≡ Some (what.Rate m2)
  pub first_least : low ≤ m1
  pub first_most : m1 ≤ most_rate
  pub bend_most : d ≤ most_bend
  pub second_least : least ≤ m2
  pub second_most : m2 ≤ most_rate
  pub upward : is_convex m1 d m2 ≡ false

pub record HasMask (items : List Item) : Type 0 where
  pub mask : List ℕ
  pub says : says_at 0 items ≡ Some (what.Ip4 mask)

-- a meter of one rate does: its rate, its burst and its excess burst
pub record HasSingle (items : List Item) : Type 0 where
  pub cir : ℕ
  pub cbs : ℕ
  pub ebs : ℕ
  pub rate : says_at 0 items ≡ Some (what.Rate cir)
  pub burst : says_at 1 items ≡ Some (what.Whole cbs)
  pub excess : says_at 2 items ≡ Some (what.Whole ebs)
  pub rate_least : 1000 ≤ cir
  pub rate_most : cir ≤ most_rate
  pub burst_least : 1 ≤ cbs
  pub burst_most : cbs ≤ most_burst
  pub excess_most : ebs ≤ most_burst

-- a meter of two rates does: its peak rate and burst, and its committed rate and burst
pub record HasTwo (items : List Item) : Type 0 where
  pub pir : ℕ
  pub pbs : ℕ
  pub cir : ℕ
  pub cbs : ℕ
  pub peak : says_at 0 items ≡ Some (what.Rate pir)
  pub peak_burst : says_at 1 items ≡ Some (what.Whole pbs)
  pub rate : says_at 2 items ≡ Some (what.Rate cir)
  pub burst : says_at 3 items ≡ Some (what.Whole cbs)
  pub peak_most : pir ≤ most_rate
  pub peak_burst_least : 1 ≤ pbs
  pub peak_burst_most : pbs ≤ most_burst
  pub rate_least : 1000 ≤ cir
  pub rate_most : cir ≤ pir
  pub burst_least : 1 ≤ cbs
  pub burst_most : cbs ≤ most_burst

-- what an option asks for stands first
abbrev pub HasSlots : Slots → List Item → Type 0
HasSlots slots.Nothing items = Unit {0}
HasSlots slots.Word items = says_at 0 items ≡ Some what.Skipped
HasSlots (slots.Rate low high) items = HasNumber what.Rate low high items
HasSlots (slots.Whole low high) items = HasNumber what.Whole low high items
HasSlots (slots.Curve low least) items = HasCurve low least items
HasSlots slots.Mask items = HasMask items
HasSlots slots.Single items = HasSingle items
HasSlots slots.Two items = HasTwo items

-- each option has it
abbrev pub IsWhole : What → List Item → Type 0
IsWhole (what.Key key) items = HasSlots (slots_of key) items
IsWhole _ items = Unit {0}

abbrev pub AreWhole : List Item → Type 0
AreWhole [] = Unit {0}
AreWhole (item ∷ items) = IsWhole item.what items × AreWhole items

-- a word that must be there says what it is for
abbrev pub Fills : Slot → What → Type 0
Fills slot.Name (what.Name name) = Unit {0}
Fills slot.Parent (what.Name name) = Unit {0}
Fills slot.Address what.Any = Unit {0}
Fills slot.Address (what.Ip4 address) = Unit {0}
Fills slot.Address6 what.Any = Unit {0}
Fills slot.Address6 (what.Ip6 address bits) = Unit {0}
Fills slot.Port (what.Whole n) = n ≤ most_port
Fills slot.Protocol (what.Whole n) = n ≤ most_protocol
Fills slot.Af (what.Whole n) = (1 ≤ n) × (n ≤ most_af)
Fills _ _ = ⊥

-- an option with what it asks for, and behind that the rest
abbrev pub slot_count : Slots → ℕ
slot_count slots.Nothing = 0
slot_count (slots.Curve low least) = 3
slot_count slots.Single = 3
slot_count slots.Two = 4
slot_count _ = 1

abbrev pub HasOption : Key → (List Item → Type 0) → List Item → Type 0
HasOption key rest [] = ⊥
HasOption key rest (item ∷ items) =
    (item.what ≡ what.Key key) × HasSlots (slots_of key) items × rest (drop (slot_count (slots_of key)) items)

-- the parts are there in their order, and behind them nothing where the statement has no options
abbrev pub Ends : List Key → List Item → Type 0
Ends [] items = items ≡ []
Ends (key ∷ keys) items = Unit {0}

abbrev pub Has : Form → Bool → List Part → List Item → Type 0
Has form stands [] items = Ends (options_of form) items
Has form stands (Must slot ∷ parts) [] = ⊥
Has form stands (Must slot ∷ parts) (item ∷ items) = Fills slot item.what × Has form (stands_by item.what) parts items
Has form stands (Either first second ∷ parts) items = HasOption first (Has form true parts) items ⊎ HasOption second (Has form true parts) items
Has form stands (May key ∷ parts) items = HasOption key (Has form true parts) items ⊎ Has form false parts items
Has form true (Behind key ∷ parts) items = HasOption key (Has form true parts) items ⊎ Has form false parts items
Has form false (Behind key ∷ parts) items = Has form false parts items

abbrev pub HasParts : Form → List Item → Type 0
HasParts form items = Has form true (parts_of form) items

abbrev pub AreAllWhole : List Statement → Type 0
AreAllWhole [] = Unit {0}
AreAllWhole (s ∷ statements) = (s.fault ≡ None → AreWhole s.items × HasParts s.form s.items) × AreAllWhole statements

abbrev pub OptionsAreWhole : Type 0
OptionsAreWhole = (text : List ℕ) → AreAllWhole (statements_of text)

-- The fault that a line shows by itself stands at its word: lines that agree up to and with this word are read alike, so nothing
-- that follows the word mends it.
abbrev pub LineFaultsStand : Type 0
LineFaultsStand =
    (line : ℕ) (words more other : List (List ℕ)) (fault : ConfPlace) → (read_from line (words ++ more) start 1).fault ≡ Some fault
    → fault.word ≤ length words → read_from line (words ++ other) start 1 ≡ read_from line (words ++ more) start 1
