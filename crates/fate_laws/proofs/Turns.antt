-- Rows that pass the tests of rows are in turn, and few.
use Rattle.std.proofs.Common.{◌≡◌, ◌+◌, ◌-◌, ◌<◌, ◌≤◌, ◌⊎◌, inl, inr, ℕ, zero, suc, Bool, true, false, List, [], ◌∷◌, length, refl, ap, arith}
use Rattle.std.specs.Prelude.{◌==◌, nat_le, if◌then◌else◌, slice_get}
use Rattle.std.specs.Option.{option_map_or}
use Rattle.std.proofs.lemmas.Bool.{cases_order}
use Rattle.std.proofs.lemmas.Bool.Decides.{nat_tests}
use Rattle.altq_model.specs.declared.Fate.{Fate}
use Rattle.altq_model.specs.declared.Fate.TheVariants.{Dropped, Sent}
use Rattle.altq_model.specs.History.{Arrival}
use Rattle.altq_model.specs.Laws.{at_of}
use Rattle.journal_laws.specs.Journal.{IfSent, NoneAbove, starts}
use Rattle.fate_check.specs.declared.reading.Row.{Row}
use Rattle.fate_judge.specs.declared.given.Allowed.{Allowed}
use Rattle.fate_judge.specs.declared.given.Kind.TheVariants as kind
use Rattle.fate_judge.specs.Given.{decisions}
use Rattle.fate_judge.specs.Judged.{Case, PassesAll}
use Rattle.fate_judge.specs.Order.{RowIsInOrder}
use Rattle.fate_judge.specs.Reading.{IsRead}
use Rattle.fate_judge.specs.Tests.{HaveOne, IsInTime, IsNewPacket, rows_of}
use Rattle.fate_judge.specs.Walk.{EachRow}
use Rattle.fate_timely.specs.Timely.{StartsInTurn}
use Rattle.fate_laws.specs.Plays.{AreSome}

some_at : (arrived : List Arrival) (k : ℕ) → AreSome arrived → k < length arrived → 0 < option_map_or (λ (a : Arrival). a.len) (slice_get arrived k) 0
some_at [] k s lt = absurd (omega arith)
some_at (a ∷ arrived) zero s lt = s.0
some_at (a ∷ arrived) (suc k) s lt = some_at arrived k s.1 (omega arith)

turn_of : (f : Fate) (at moment : ℕ) (ns : List ℕ) → at ≡ moment → IfSent f (λ start end. moment ≤ start) → IfSent f (λ start end. NoneAbove start ns)
    → IfSent f (λ start end. (at ≤ start) × NoneAbove start ns)
turn_of (Dropped reason) at moment ns e x y = tt
turn_of (Sent start end rule) at moment ns e x y = (omega (arith, e, x), y)

each_turn : (classes : List Allowed) (arrived : List Arrival) (before rows : List Row) → AreSome arrived → EachRow (IsRead classes arrived) before rows
    → EachRow (RowIsInOrder arrived) before rows → EachRow (IsInTime arrived) before rows → EachRow StartsInTurn before rows
each_turn classes arrived before [] some read order time = tt
each_turn classes arrived before (r ∷ rows) some read order time =
    let long = some_at arrived (r.number - 1) some (omega (arith, read.0.from_one, read.0.there)) in (
      (omega (arith, long, read.0.len), turn_of r.fate r.at (at_of arrived r.number) (starts (decisions before)) read.0.at time.0.after_arrival order.0.starts),
      each_turn classes arrived (r ∷ before) rows some read.1 order.1 time.1,
    )

pub in_turn : (c : Case) → AreSome c.arrived → PassesAll c → EachRow StartsInTurn [] c.rows
in_turn c some all = each_turn c.classes c.arrived [] c.rows some (all kind.Reading) (all kind.Order) (all kind.Moments)

-- no number has two rows
one_more : (n : ℕ) (before : List Row) (r : Row) (b : Bool) → (r.number == n) ≡ b → IsNewPacket before r → rows_of n before ≤ 1 → rows_of n (r ∷ before) ≤ 1
one_more n before r true e new few =
    let same : r.number ≡ n = grind (arith, nat_tests, e) in
    let none = ap (λ (m : ℕ). rows_of m before) same in
    let one = ap (λ (c : Bool). (if c then 1 else 0) + rows_of n before) e in
    omega (arith, new, none, one)
one_more n before r false e new few =
    let one = ap (λ (c : Bool). (if c then 1 else 0) + rows_of n before) e in
    omega (arith, few, one)

one_row_of : (n : ℕ) (before rows : List Row) → EachRow IsNewPacket before rows → rows_of n before ≤ 1 → rows_of n rows + rows_of n before ≤ 1
one_row_of n before [] new few = omega (arith, few)
one_row_of n before (r ∷ rows) new few =
    let rest = one_row_of n (r ∷ before) rows new.1 (one_more n before r (r.number == n) refl new.0 few) in
    omega (arith, rest)

-- how many rows have a number up to this
abbrev pub rows_up_to : ℕ → List Row → ℕ
rows_up_to m [] = 0
rows_up_to m (r ∷ rows) = (if nat_le r.number m then 1 else 0) + rows_up_to m rows

counted : (x y z : Bool) (a b c : Bool) → x ≡ a → y ≡ b → z ≡ c → (if a then 1 else 0) ≡ (if b then 1 else 0) + (if c then 1 else 0)
    → (if x then 1 else 0) ≡ (if y then 1 else 0) + (if z then 1 else 0)
counted x y z a b c e f g h =
    let one = ap {B = ℕ} (λ (t : Bool). if t then 1 else 0) e in
    let two = ap {B = ℕ} (λ (t : Bool). if t then 1 else 0) f in
    let three = ap {B = ℕ} (λ (t : Bool). if t then 1 else 0) g in
    omega (arith, one, two, three, h)

up_to_one : (m n : ℕ) → (if nat_le n (m + 1) then 1 else 0) ≡ (if nat_le n m then 1 else 0) + (if n == m + 1 then 1 else 0)
up_to_one m n = go (cases_order n (m + 1))
  where
    go : (n ≡ m + 1) ⊎ ((n < m + 1) ⊎ (m + 1 < n)) → (if nat_le n (m + 1) then 1 else 0) ≡ (if nat_le n m then 1 else 0) + (if n == m + 1 then 1 else 0)
    go (inl e) = counted (nat_le n (m + 1)) (nat_le n m) (n == m + 1) true false true (grind (arith, nat_tests, e)) (grind (arith, nat_tests, e)) (grind (arith, nat_tests, e)) (omega arith)
    go (inr (inl lt)) = counted (nat_le n (m + 1)) (nat_le n m) (n == m + 1) true true false (grind (arith, nat_tests, lt)) (grind (arith, nat_tests, lt)) (grind (arith, nat_tests, lt)) (omega arith)
    go (inr (inr gt)) = counted (nat_le n (m + 1)) (nat_le n m) (n == m + 1) false false false (grind (arith, nat_tests, gt)) (grind (arith, nat_tests, gt)) (grind (arith, nat_tests, gt)) (omega arith)

up_to_more : (m : ℕ) (rows : List Row) → rows_up_to (m + 1) rows ≡ rows_up_to m rows + rows_of (m + 1) rows
up_to_more m [] = refl
up_to_more m (r ∷ rows) = let one = up_to_one m r.number in omega (arith, one, up_to_more m rows)

up_to_few : (m : ℕ) (rows : List Row) → ((n : ℕ) → rows_of n rows ≤ 1) → rows_up_to 0 rows ≡ 0 → rows_up_to m rows ≤ m
up_to_few zero rows one none = omega (arith, none)
up_to_few (suc m) rows one none =
    let same : suc m ≡ m + 1 = omega arith in
    let here = ap (λ (k : ℕ). rows_up_to k rows) same in
    let last = one (m + 1) in
    omega (arith, here, up_to_more m rows, last, up_to_few m rows one none)

none_up_to : (classes : List Allowed) (arrived : List Arrival) (before rows : List Row) → EachRow (IsRead classes arrived) before rows → rows_up_to 0 rows ≡ 0
none_up_to classes arrived before [] read = refl
none_up_to classes arrived before (r ∷ rows) read =
    let past : nat_le r.number 0 ≡ false = grind (arith, nat_tests, read.0.from_one) in
    let none = ap {B = ℕ} (λ (t : Bool). if t then 1 else 0) past in
    omega (arith, none, none_up_to classes arrived (r ∷ before) rows read.1)

all_up_to : (classes : List Allowed) (arrived : List Arrival) (before rows : List Row) → EachRow (IsRead classes arrived) before rows
    → length rows ≡ rows_up_to (length arrived) rows
all_up_to classes arrived before [] read = refl
all_up_to classes arrived before (r ∷ rows) read =
    let inside : nat_le r.number (length arrived) ≡ true = grind (arith, nat_tests, read.0.there) in
    let one = ap {B = ℕ} (λ (t : Bool). if t then 1 else 0) inside in
    omega (arith, one, all_up_to classes arrived (r ∷ before) rows read.1)

pub few : (c : Case) → PassesAll c → length c.rows ≤ length c.arrived
few c all =
    let read : EachRow (IsRead c.classes c.arrived) [] c.rows = all kind.Reading in
    let once : HaveOne (length c.arrived) c.rows = all kind.EachOnce in
    let one : (n : ℕ) → rows_of n c.rows ≤ 1 = λ n. let x = one_row_of n [] c.rows once.each (omega arith) in omega (arith, x) in
    omega (arith, all_up_to c.classes c.arrived [] c.rows read, up_to_few (length c.arrived) c.rows one (none_up_to c.classes c.arrived [] c.rows read))
