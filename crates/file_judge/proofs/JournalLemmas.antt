-- Rows that pass are the decisions of a journal.
use Rattle.std.proofs.Common.{◌≡◌, ◌∙◌, ◌+◌, ◌<◌, ◌≤◌, ◌⊎◌, inl, inr, ℕ, Bool, true, false, List, [], ◌∷◌, length, refl, ap, sym, arith}
use Rattle.std.specs.Prelude.{◌==◌, ◌&&◌, nat_le, nat_lt, if◌then◌else◌}
use Rattle.std.proofs.lemmas.Bool.Decides.{nat_tests}
use Rattle.altq_model.specs.History.{Arrival, Decision}
use Rattle.altq_model.specs.Laws.{IsConserved}
use Rattle.journal_laws.specs.Journal.{DropsAtArrival, DropsInOrder, EachAfter, EndsAsLink, IsJournal, SendsAfterDrops, SendsInOrder, StartsAfterArrival, StartsAfterEnd, StartsInOrder, StartsAtOnce}
use Rattle.fate_check.specs.declared.reading.Row.{Row}
use Rattle.fate_judge.specs.declared.given.Allowed.{Allowed}
use Rattle.fate_judge.specs.declared.given.Kind.TheVariants as kind
use Rattle.fate_judge.specs.Given.{decision_of, decisions}
use Rattle.fate_judge.specs.Judged.{Case, PassesAll}
use Rattle.fate_judge.specs.Order.{RowIsInOrder}
use Rattle.fate_judge.specs.Reading.{IsRead}
use Rattle.fate_judge.specs.Tests.{HaveOne, IsInTime, IsNewPacket, rows_of}
use Rattle.fate_judge.specs.Walk.{EachRow}
use Rattle.fate_judge.specs.Ends.{HasEnd}
use Rattle.fate_timely.specs.declared.given.Late.{Late}
use Rattle.file_judge.specs.Given.{Given, arrived_in, case_of}
use Rattle.file_judge.specs.Verdict.{AreVerified}
use Rattle.file_judge.specs.Journal.{AreOfJournal}

-- what holds of each row holds of each decision
each_after : (P : List Decision → Decision → Type 0) (Q : List Row → Row → Type 0)
    → ((before : List Row) (r : Row) → Q before r → P (decisions before) (decision_of r)) → (before rows : List Row) → EachRow Q before rows
    → EachAfter P (decisions before) (decisions rows)
each_after P Q k before [] h = tt
each_after P Q k before (r ∷ rows) h = (k before r h.0, each_after P Q k (r ∷ before) rows h.1)

-- a row has the number or not
same_or_not : (m n : ℕ) → ((m == n) ≡ true) ⊎ ((m == n) ≡ false)
same_or_not m n = by (m == n)
  where
    by : (b : Bool) → (b ≡ true) ⊎ (b ≡ false)
    by true = inl refl
    by false = inr refl

one_more : (b : Bool) (m : ℕ) → b ≡ true → (if b then 1 else 0) + m ≡ 1 + m
one_more b m e = ap (λ (x : Bool). (if x then 1 else 0) + m) e

no_more : (b : Bool) (m : ℕ) → b ≡ false → (if b then 1 else 0) + m ≡ m
no_more b m e = let none : 0 + m ≡ m = omega arith in ap (λ (x : Bool). (if x then 1 else 0) + m) e ∙ none

is_same : (m n : ℕ) → (m == n) ≡ true → m ≡ n
is_same m n e = grind (arith, nat_tests, e)

-- a number that no row before has, has one row at most
once_by : (n : ℕ) (r : Row) (before : List Row) → IsNewPacket before r → rows_of n before ≤ 1 → ((r.number == n) ≡ true) ⊎ ((r.number == n) ≡ false)
    → rows_of n (r ∷ before) ≤ 1
once_by n r before new few (inl e) =
    let more = one_more (r.number == n) (rows_of n before) e in
    let none : rows_of n before ≡ 0 = ap (λ (m : ℕ). rows_of m before) (sym (is_same r.number n e)) ∙ new in
    omega (arith, more, none)
once_by n r before new few (inr e) = let more = no_more (r.number == n) (rows_of n before) e in omega (arith, more, few)

once : (n : ℕ) (before rows : List Row) → EachRow IsNewPacket before rows → rows_of n before ≤ 1 → rows_of n rows + rows_of n before ≤ 1
once n before [] h few = omega (arith, few)
once n before (r ∷ rows) h few =
    let here = once_by n r before h.0 few (same_or_not r.number n) in
    let later = once n (r ∷ before) rows h.1 here in
    omega (arith, later)

-- and one that is none of an arrival has none
abbrev IsOut : (count n : ℕ) → Type 0
IsOut count n = (nat_lt 0 n && nat_le n count) ≡ false

none_by : (count n m k : ℕ) → IsOut count n → 0 < m → m ≤ count → k ≡ 0 → ((m == n) ≡ true) ⊎ ((m == n) ≡ false) → (if m == n then 1 else 0) + k ≡ 0
none_by count n m k out some there none (inl e) =
    let same = is_same m n e in
    absurd (grind (arith, nat_tests, out, same, some, there))
none_by count n m k out some there none (inr e) = let more = no_more (m == n) k e in omega (arith, more, none)

none_out : (classes : List Allowed) (arrived : List Arrival) (n : ℕ) (before rows : List Row) → IsOut (length arrived) n
    → EachRow (IsRead classes arrived) before rows → rows_of n rows ≡ 0
none_out classes arrived n before [] out h = refl
none_out classes arrived n before (r ∷ rows) out h =
    none_by (length arrived) n r.number (rows_of n rows) out h.0.from_one h.0.there (none_out classes arrived n (r ∷ before) rows out h.1)
    (same_or_not r.number n)

in_or_out : (b : Bool) (m : ℕ) → (b ≡ true → m ≡ 1) → (b ≡ false → m ≡ 0) → m ≡ (if b then 1 else 0)
in_or_out true m one none = one refl
in_or_out false m one none = none refl

conserved : (classes : List Allowed) (arrived : List Arrival) (rows : List Row) → EachRow (IsRead classes arrived) [] rows → HaveOne (length arrived) rows
    → IsConserved (length arrived) (decisions rows)
conserved classes arrived rows read one = λ n.
    in_or_out (nat_lt 0 n && nat_le n (length arrived)) (rows_of n rows)
    (λ inside.
    let few = once n [] rows one.each (omega arith) in
    let some = one.all n (grind (arith, nat_tests, inside)) (grind (arith, nat_tests, inside)) in
    omega (arith, few, some))
    (λ out. none_out classes arrived n [] rows out read)

pub journal_of : (c : Case) → PassesAll c → IsJournal c.rate c.arrived (decisions c.rows)
journal_of c p = record {
  conserved = conserved c.classes c.arrived c.rows (p kind.Reading) (p kind.EachOnce);
  decisions = record {
    sends_in_order = each_after (SendsInOrder c.arrived) (RowIsInOrder c.arrived) (λ b r h. h.sends) [] c.rows (p kind.Order);
    drops_in_order = each_after DropsInOrder (RowIsInOrder c.arrived) (λ b r h. h.drops) [] c.rows (p kind.Order);
    starts_in_order = each_after StartsInOrder (RowIsInOrder c.arrived) (λ b r h. h.starts) [] c.rows (p kind.Order);
    drops_at_arrival = each_after (DropsAtArrival c.arrived) (RowIsInOrder c.arrived) (λ b r h. h.drop_at_arrival) [] c.rows (p kind.Order);
    sends_after_drops = each_after (SendsAfterDrops c.arrived) (RowIsInOrder c.arrived) (λ b r h. h.send_after_drops) [] c.rows (p kind.Order);
    after_arrival = each_after (StartsAfterArrival c.arrived) (IsInTime c.arrived) (λ b r h. h.after_arrival) [] c.rows (p kind.Moments);
    after_end = each_after StartsAfterEnd (IsInTime c.arrived) (λ b r h. h.after_end) [] c.rows (p kind.Moments);
    ends = each_after (EndsAsLink c.rate c.arrived) (HasEnd c.rate c.arrived) (λ b r h. h) [] c.rows (p kind.Ends);
  };
}

pub of_journal : (g : Given) (came : List Late) → AreVerified g came → AreOfJournal g
of_journal g came v = record {
  rows = v.rows;
  text = v.passed.read;
  journal = journal_of (case_of g v.rows) v.passed.order;
  busy = λ u. each_after (StartsAtOnce (arrived_in g) (decisions v.rows)) _ (λ b r h. h) [] v.rows (v.passed.busy u);
  departures = v.passed.departures;
  timely = v.passed.timely;
}
