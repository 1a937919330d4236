-- The lines of a configuration, read one after the other: the line of each interface, its classes, its filters and its conditioners, and
-- then the end of the text.
use Rattle.std.proofs.Common.{◌≡◌, ◌≢◌, ⊎_elim, ℕ, suc, ◌+◌, Bool, true, false, List, [], ◌∷◌, ◌++◌, map, length, Option, Some, None, Ok, if◌then◌else◌, nat_le, slice_get, refl, ap, sym, ◌∙◌, append_assoc, length-append, arith}
use Rattle.std.proofs.lemmas.Bool.{lt-leb, lt-ltb, ne_eqb}
use Rattle.std.proofs.lemmas.Bool.Decides.{nat_tests}
use Rattle.std.proofs.lemmas.Option.{slice_get_within}
use Rattle.traffic_meter.specs.declared.rule.MeterRule.{MeterRule}
use Rattle.conf_lines.specs.declared.statement.Statement.{Statement}
use Rattle.conf_lines.specs.Options.{most_rate}
use Rattle.conf_tree.specs.declared.class.Class.{Class}
use Rattle.conf_tree.specs.declared.filter.Addresses.{Addresses}
use Rattle.conf_tree.specs.declared.filter.Addresses.TheVariants.{V4, V6}
use Rattle.conf_tree.specs.declared.interface.Interface.{Interface}
use Rattle.conf_tree.specs.declared.interface.Kind.{Kind}
use Rattle.conf_tree.specs.declared.interface.Kind.TheVariants.{Hfsc, Cbq}
use Rattle.conf_tree.specs.Canonical.{class_form, filter_form, class_lines, filter_lines, meter_lines, conditioner_lines, canonical_lines}
use Rattle.conf_tree.specs.Classes.{read_class}
use Rattle.conf_tree.specs.FilterStatements.{read_filter}
use Rattle.conf_tree.specs.Items.{within}
use Rattle.conf_tree.specs.Printed.{TextLine}
use Rattle.conf_tree.specs.Reading.{read_form, read_statement, reading_from}
use Rattle.conf_tree.specs.Tree.{Begun, begun, add_class, add_filter, add_conditioner, interface_number}
use Rattle.conf_tree.specs.Whole.{whole, undecided, first_undecided, is_empty}
use Rattle.conf_laws.specs.Fit.{IsInterface, AreFit}
use Rattle.conf_laws.specs.Statements.{statements_from, interface_statement, class_statement, filter_statement, conditioner_statement, canonical_statements}
use Rattle.conf_laws.proofs.CurvesRead.{within_is}
use Rattle.conf_laws.proofs.ListPlaces.{get_push, get_pushed, set_pushed, same_places, name_is_new, name_is_at}
use Rattle.conf_laws.proofs.TreesRead.{HasRead, part_of, push_all, next_class, next_filter, no_conditioner, next_conditioner}
use Rattle.conf_laws.proofs.Types.{Branch}

-- IN TURN: what holds before the first element of a list, and behind each element if it did before it, holds behind the last, where the
-- goal follows from it
in_turn : {S X : Type 0} (Goal : S → List X → Type 0) (P : ℕ → S → Type 0) (xs : List X)
    → ((k : ℕ) (x : X) (rest : List X) (s : S) → slice_get xs k ≡ Some x → P k s → ((t : S) → P (suc k) t → Goal t rest) → Goal s (x ∷ rest))
    → ((s : S) → P (length xs) s → Goal s []) → (s : S) → P 0 s → Goal s xs
in_turn Goal P [] step last s p = last s p
in_turn Goal P (x ∷ xs) step last s p = step 0 x xs s refl p (in_turn Goal (λ k. P (suc k)) xs (λ k. step (suc k)) last)

-- a list whose elements stand for those of another
maps_to : {X Y : Type 0} (f : X → Y) (xs : List X) (ys : List Y) → length xs ≡ length ys
    → ((j : ℕ) (x : X) → slice_get xs j ≡ Some x → slice_get ys j ≡ Some (f x)) → map f xs ≡ ys
maps_to f [] [] l h = refl
maps_to f [] (y ∷ ys) l h = absurd (omega arith)
maps_to f (x ∷ xs) [] l h = absurd (omega arith)
maps_to f (x ∷ xs) (y ∷ ys) l h =
    let first : Some y ≡ Some (f x) = h 0 x refl in
    let rest : map f xs ≡ ys = maps_to f xs ys (omega arith) (λ j. h (suc j)) in
    cc

-- lines that are read as these interfaces, behind those that are begun
abbrev Reads : List Interface → List Begun → List TextLine → Type 0
Reads all before lines = (line : ℕ) → reading_from before (statements_from line lines) ≡ Ok all

-- a name that no interface has so far
abbrev IsNewName : List ℕ → List Begun → Type 0
IsNewName name before = (j : ℕ) (b : Begun) → slice_get before j ≡ Some b → name ≢ b.name

-- the interface that is begun last is found by its name
last_is : (before : List Begun) (b : Begun) → IsNewName b.name before → interface_number b.name (before ++ b ∷ []) ≡ Some (length before)
last_is before b new =
    name_is_at (λ (a : Begun). a.name) (before ++ b ∷ []) (length before) b (get_pushed before b [])
    (λ j a g t. ⊎_elim (λ p. p.0) (λ old. absurd (new j a old t)) (get_push before b a j g))

-- A LINE of each kind, behind the interfaces before it
begins : (before : List Begun) (line : ℕ) (i : Interface) (kind : Kind) → interface_number i.name before ≡ None → nat_le 16 (length before) ≡ false
    → within 1000 most_rate (Some i.rate) ≡ Some i.rate
    → read_statement before (interface_statement line (record i { kind = kind })) ≡ Ok (before ++ begun line i.name i.rate kind ∷ [])
begins before line i Hfsc new room rate = rw (new, room, rate) refl
begins before line i Cbq new room rate = rw (new, room, rate) refl

reads_class : (kind : Kind) (before : List Begun) (s : Statement) → read_form (class_form kind) before s ≡ read_class before kind s
reads_class Hfsc before s = refl
reads_class Cbq before s = refl

reads_filter : (addresses : Addresses) (before : List Begun) (s : Statement) → read_form (filter_form addresses) before s ≡ read_filter before s
reads_filter (V4 target target_mask source source_mask) before s = refl
reads_filter (V6 target target_len source source_len) before s = refl

-- AN INTERFACE WITH CLASSES
module _ (all : List Interface) (before : List Begun) (i : Interface) (is : IsInterface i) (new : IsNewName i.name before) where
  -- its first `classes` classes and `filters` filters are read, and the conditioners of its first `meters` classes; lines that are read from
  -- there on; a statement that leads from there to the next
  abbrev Has : ℕ → ℕ → ℕ → Begun → Type 0
  Has classes filters meters b = HasRead i is.tree.default.number classes filters meters b

  abbrev ReadsOn : Begun → List TextLine → Type 0
  ReadsOn b lines = Reads all (before ++ part_of i b ∷ []) lines

  abbrev Leads : Begun → Statement → Begun → Type 0
  Leads b s next = read_statement (before ++ part_of i b ∷ []) s ≡ Ok (before ++ part_of i next ∷ [])

  -- its classes
  classes_read : (rest : List TextLine) (b : Begun) → Has 0 0 0 b → ((b : Begun) → Has (length i.classes) 0 0 b → ReadsOn b rest)
      → ReadsOn b (class_lines i.kind i.name i.classes i.classes ++ rest)
  classes_read rest b r last =
      in_turn (λ b classes. ReadsOn b (class_lines i.kind i.name i.classes classes ++ rest)) (λ k. Has k 0 0) i.classes
      (λ k c others b at has on line.
      let next = next_class i is.tree k b c line is.classes at has in
      let read : Leads b (class_statement line i.kind i.name i.classes c) (add_class b next.class) =
      rw (reads_class i.kind, last_is before (part_of i b) new, get_pushed before (part_of i b) [], next.read, set_pushed before) refl in
      rw (read, reading_from) (on (add_class b next.class) next.then_has (line + 1)))
      last b r

  -- its filters
  filters_read : (rest : List TextLine) (b : Begun) → Has (length i.classes) 0 0 b
      → ((b : Begun) → Has (length i.classes) (length i.filters) 0 b → ReadsOn b rest)
      → ReadsOn b (filter_lines i.name i.classes i.filters ++ rest)
  filters_read rest b r last =
      in_turn (λ b filters. ReadsOn b (filter_lines i.name i.classes filters ++ rest)) (λ m. Has (length i.classes) m 0) i.filters
      (λ m f others b at has on line.
      let next = next_filter i is.tree is.tree.default.number m b f line is.filters at has in
      let read : Leads b (filter_statement line i.name i.classes f) (add_filter b f) =
      rw (reads_filter f.addresses, last_is before (part_of i b) new, get_pushed before (part_of i b) [], next.read, set_pushed before) refl in
      rw (read, reading_from) (on (add_filter b f) next.then_has (line + 1)))
      last b r

  -- its conditioners
  meter_read : (rest : List TextLine) (k : ℕ) (c : Class) (meter : Option MeterRule) (b : Begun) → slice_get i.classes k ≡ Some c → c.meter ≡ meter
      → Has (length i.classes) (length i.filters) k b → ((b : Begun) → Has (length i.classes) (length i.filters) (suc k) b → ReadsOn b rest)
      → ReadsOn b (meter_lines i.name c.name meter ++ rest)
  meter_read rest k c None b at e has on line =
      on b (no_conditioner i is.tree.default.number (length i.classes) (length i.filters) k b c at e has) line
  meter_read rest k c (Some rule) b at e has on line =
      let next = next_conditioner i is.tree is.tree.default.number (length i.filters) k b c rule line at e has in
      let read : Leads b (conditioner_statement line i.name c.name rule) (add_conditioner b next.conditioner) =
      rw (last_is before (part_of i b) new, get_pushed before (part_of i b) [], next.read, set_pushed before) refl in
      rw (read, reading_from) (on (add_conditioner b next.conditioner) next.then_has (line + 1))

  conditioners_read : (rest : List TextLine) (b : Begun) → Has (length i.classes) (length i.filters) 0 b
      → ((b : Begun) → Has (length i.classes) (length i.filters) (length i.classes) b → ReadsOn b rest)
      → ReadsOn b (conditioner_lines i.name i.classes ++ rest)
  conditioners_read rest b r last =
      in_turn (λ b classes. ReadsOn b (conditioner_lines i.name classes ++ rest)) (Has (length i.classes) (length i.filters)) i.classes
      (λ k c others b at has on. rw (append_assoc (meter_lines i.name c.name c.meter) (conditioner_lines i.name others) rest)
      (meter_read (conditioner_lines i.name others ++ rest) k c c.meter b at refl has on))
      last b r

  -- what is read is the interface
  made_whole : (b : Begun) → i.implied ≡ false → Has (length i.classes) (length i.filters) (length i.classes) b
      → (whole (part_of i b) ≡ i) × (undecided (part_of i b) ≡ false)
  made_whole b e r =
      let one = is.tree.default in
      let within = slice_get_within i.classes one.number one.class one.at in
      let some : is_empty b.classes ≡ false = ne_eqb (length b.classes) 0 (λ none. omega (arith, r.class_count)) in
      let classes = maps_to (λ (a : Branch). a.class) b.classes i.classes r.class_count (λ j a g.
      let read = r.class j a g in
      let metered = read.metered (omega (arith, r.class_count, slice_get_within b.classes j a g)) in
      read.here ∙ ap (λ m. Some (record a.class { meter = m })) (sym metered)) in
      let filters : b.filters ≡ i.filters = same_places b.filters i.filters r.filter_count r.filter in
      let chosen : b.chosen ≡ true = r.chosen ∙ lt-ltb one.number (length i.classes) within in
      (rw (some, classes, filters, e) refl, rw (some, chosen) refl)

  -- the lines behind the first
  tail_read : (rest : List TextLine) (line : ℕ) (implied : Bool) → i.implied ≡ implied
      → ((b : Begun) → whole b ≡ i → undecided b ≡ false → Reads all (before ++ b ∷ []) rest)
      → Reads all (before ++ begun line i.name i.rate i.kind ∷ [])
      ((class_lines i.kind i.name i.classes (if implied then [] else i.classes)
      ++ (filter_lines i.name i.classes i.filters ++ conditioner_lines i.name (if implied then [] else i.classes))) ++ rest)
  tail_read rest line true e last =
      let implied = is.implied e in
      rw implied.filters (last (begun line i.name i.rate i.kind) (rw (implied.classes, implied.filters, e) refl) refl)
  tail_read rest line false e last =
      let filters = filter_lines i.name i.classes i.filters in
      let conditioners = conditioner_lines i.name i.classes in
      let b = begun line i.name i.rate i.kind in
      rw (append_assoc (class_lines i.kind i.name i.classes i.classes) (filters ++ conditioners) rest, append_assoc filters conditioners rest)
      (classes_read (filters ++ (conditioners ++ rest)) b nothing_read (λ b r.
      filters_read (conditioners ++ rest) b r (λ b r.
      conditioners_read rest b r (λ b r. let made = made_whole b e r in last (part_of i b) made.0 made.1))))
    where
      nothing_read : Has 0 0 0 (begun line i.name i.rate i.kind)
      nothing_read = record {
        rooted = λ none. refl;
        chosen = grind (arith, nat_tests);
        class_count = refl;
        class = λ j r g. absurd (cc);
        filter_count = refl;
        filter = λ j f g. absurd (cc);
      }

-- THE CONFIGURATION: its interfaces as they are read
record AreRead (interfaces : List Interface) (k : ℕ) (before : List Begun) : Type 0 where
  count : length before ≡ k
  each : (j : ℕ) (b : Begun) → slice_get before j ≡ Some b → (slice_get interfaces j ≡ Some (whole b)) × (undecided b ≡ false)

none_undecided : (before : List Begun) → ((j : ℕ) (b : Begun) → slice_get before j ≡ Some b → undecided b ≡ false) → first_undecided before ≡ None
none_undecided [] each = refl
none_undecided (b ∷ before) each = rw (each 0 b refl) (none_undecided before (λ j. each (suc j)))

next_interface : (all : List Interface) → AreFit all → (k : ℕ) (i : Interface) (rest : List Interface) (before : List Begun) → slice_get all k ≡ Some i
    → AreRead all k before → ((next : List Begun) → AreRead all (suc k) next → Reads all next (canonical_lines rest))
    → Reads all before (canonical_lines (i ∷ rest))
next_interface all fit k i rest before at h on line =
    let is = fit.interface k i at in
    let new : IsNewName i.name before = λ j b g t.
    let same = fit.names k j i (whole b) at (h.each j b g).0 t in
    omega (arith, h.count, slice_get_within before j b g) in
    let room = lt-leb 16 (length before) (omega (arith, fit.count, h.count, slice_get_within all k i at)) in
    let first = begins before line i i.kind (name_is_new (λ (b : Begun). b.name) i.name before new) room (within_is 1000 most_rate i.rate is.rate) in
    rw (first, reading_from)
    (tail_read all before i is new (canonical_lines rest) line i.implied refl (λ b as_is decided.
    on (before ++ b ∷ []) (record {
      count = omega (arith, length-append before (b ∷ []), h.count);
      each = push_all (λ j a. (slice_get all j ≡ Some (whole a)) × (undecided a ≡ false)) before b h.each (rw (h.count, as_is) at, decided);
    })) (line + 1))

pub configuration_is_read : (interfaces : List Interface) (line : ℕ) → AreFit interfaces
    → reading_from [] (canonical_statements line interfaces) ≡ Ok interfaces
configuration_is_read interfaces line fit =
    in_turn (λ before rest. Reads interfaces before (canonical_lines rest)) (AreRead interfaces) interfaces (next_interface interfaces fit)
    (λ before h at.
    rw (none_undecided before (λ j b g. (h.each j b g).1), maps_to whole before interfaces h.count (λ j b g. (h.each j b g).0)) refl)
    [] (record { count = refl; each = λ j b g. absurd (cc) }) line
