-- The rows of a journal pass the tests.
use Rattle.std.proofs.Common.{◌≡◌, ◌∙◌, ◌+◌, ◌-◌, ◌<◌, ◌≤◌, ℕ, zero, suc, Bool, true, false, List, [], ◌∷◌, length, refl, ap, sym, subst, arith}
use Rattle.std.specs.Prelude.{◌==◌, ◌&&◌, nat_le, nat_lt, if◌then◌else◌, slice_get, unwrap_or}
use Rattle.std.specs.Option.{option_map_or}
use Rattle.std.proofs.lemmas.Bool.Decides.{nat_tests}
use Rattle.altq_model.specs.Arrivals.{Captured, arrival, bare_arrival, bare_arrivals, no_arrival}
use Rattle.altq_model.specs.History.{Arrival, Decision}
use Rattle.altq_model.specs.Laws.{IsConserved, at_of, numbers, occurs}
use Rattle.journal_laws.specs.Journal.{DropsAtArrival, DropsInOrder, EachAfter, EndsAsLink, IsBusy, IsJournal, SendsAfterDrops, SendsInOrder, StartsAfterArrival, StartsAfterEnd, StartsInOrder, class_of, len_of, StartsAtOnce as DecisionStartsAtOnce}
use Rattle.fate_check.specs.declared.reading.Row.{Row}
use Rattle.fate_check.specs.Given.{row_for, rows_for}
use Rattle.fate_judge.specs.declared.given.Allowed.{Allowed}
use Rattle.fate_judge.specs.declared.given.Kind.TheVariants as kind
use Rattle.fate_judge.specs.Given.{decision_of, decisions}
use Rattle.fate_judge.specs.Judged.{PassesAll}
use Rattle.fate_judge.specs.Order.{RowIsInOrder}
use Rattle.fate_judge.specs.Reading.{IsOfArrival, IsRead, can_occur_in}
use Rattle.fate_judge.specs.Tests.{HaveOne, IsInTime, IsNewPacket}
use Rattle.fate_judge.specs.Walk.{EachRow}
use Rattle.fate_busy.specs.Busy.{StartsAtOnce}
use Rattle.fate_laws.specs.Plays.{CanOccur}

-- the decisions of a journal's rows are the journal
pub decisions_of : (arrived : List Captured) (js : List Decision) → decisions (rows_for arrived js) ≡ js
decisions_of arrived [] = refl
decisions_of arrived (d ∷ js) = ap (λ (xs : List Decision). d ∷ xs) (decisions_of arrived js)

-- what holds of each decision holds of each row
pub each_of : (P : List Decision → Decision → Type 0) (arrived : List Captured) (before : List Row) (js : List Decision) → EachAfter P (decisions before) js
    → EachRow (λ b r. P (decisions b) (decision_of r)) before (rows_for arrived js)
each_of P arrived before [] x = tt
each_of P arrived before (d ∷ js) x = (x.0, each_of P arrived (row_for arrived d ∷ before) js x.1)

-- a number of an arrival
field_at : (f : Captured → ℕ) (h : Arrival → ℕ) → ((a : Captured) → f a ≡ h (bare_arrival a)) → f no_arrival ≡ 0 → (arrived : List Captured) (k : ℕ)
    → f (unwrap_or (slice_get arrived k) no_arrival) ≡ option_map_or h (slice_get (bare_arrivals arrived) k) 0
field_at f h same none [] k = none
field_at f h same none (a ∷ arrived) zero = same a
field_at f h same none (a ∷ arrived) (suc k) = field_at f h same none arrived k

pub at_is : (arrived : List Captured) (n : ℕ) → (arrival arrived n).at ≡ at_of (bare_arrivals arrived) n
at_is arrived n = field_at (λ a. a.at) (λ a. a.at) (λ a. refl) refl arrived (n - 1)

pub len_is : (arrived : List Captured) (n : ℕ) → (arrival arrived n).len ≡ len_of (bare_arrivals arrived) n
len_is arrived n = field_at (λ a. a.len) (λ a. a.len) (λ a. refl) refl arrived (n - 1)

pub class_is : (arrived : List Captured) (n : ℕ) → (arrival arrived n).class ≡ class_of (bare_arrivals arrived) n
class_is arrived n = field_at (λ a. a.class) (λ a. a.class) (λ a. refl) refl arrived (n - 1)

-- the numbers of a journal
pub record IsFrom (count n : ℕ) : Type 0 where
  pub from_one : 0 < n
  pub there : n ≤ count

one_if : (b : Bool) (m : ℕ) → m ≡ (if b then 1 else 0) → m ≤ 1
one_if true m e = omega (arith, e)
one_if false m e = omega (arith, e)

set_if : (b : Bool) (m : ℕ) → m ≡ (if b then 1 else 0) → 0 < m → b ≡ true
set_if true m e lt = refl
set_if false m e lt = absurd (omega (arith, e, lt))

in_range : (count : ℕ) (js : List Decision) (n : ℕ) → IsConserved count js → 0 < occurs n (numbers js) → IsFrom count n
in_range count js n c lt =
    let both : (nat_lt 0 n && nat_le n count) ≡ true = set_if (nat_lt 0 n && nat_le n count) (occurs n (numbers js)) (c n) lt in
    record { from_one = grind (arith, nat_tests, both); there = grind (arith, nat_tests, both) }

occurs_first : (n : ℕ) (ns : List ℕ) → occurs n (n ∷ ns) ≡ 1 + occurs n ns
occurs_first n ns =
    let same : (n == n) ≡ true = grind (arith, nat_tests) in
    ap (λ (b : Bool). (if b then 1 else 0) + occurs n ns) same

read_each : (classes : List Allowed) (arrived : List Captured) (before : List Row) (js : List Decision)
    → ((n : ℕ) → 0 < occurs n (numbers js) → IsFrom (length (bare_arrivals arrived)) n) → CanOccur classes (bare_arrivals arrived) js
    → EachRow (IsRead classes (bare_arrivals arrived)) before (rows_for arrived js)
read_each classes arrived before [] from can = tt
read_each classes arrived before (d ∷ js) from can =
    let first = occurs_first d.0 (numbers js) in
    let here = from d.0 (omega (arith, first)) in
    let P : ℕ → Type 0 = λ c. can_occur_in classes c d.1 ≡ true in
    let its : IsOfArrival classes (bare_arrivals arrived) (row_for arrived d) = record {
      from_one = here.from_one;
      there = here.there;
      at = at_is arrived d.0;
      len = len_is arrived d.0;
      class = class_is arrived d.0;
      fate = subst P (sym (class_is arrived d.0)) can.0;
    } in
    (its, read_each classes arrived (row_for arrived d ∷ before) js (λ n lt. from n (omega (arith, lt))) can.1)

new_each : (arrived : List Captured) (before : List Row) (js : List Decision)
    → ((n : ℕ) → occurs n (numbers (decisions before)) + occurs n (numbers js) ≤ 1) → EachRow IsNewPacket before (rows_for arrived js)
new_each arrived before [] few = tt
new_each arrived before (d ∷ js) few =
    let first = occurs_first d.0 (numbers js) in
    let one = few d.0 in
    (omega (arith, one, first), new_each arrived (row_for arrived d ∷ before) js (λ n. let f = few n in omega (arith, f)))

have_one : (arrived : List Captured) (js : List Decision) → IsConserved (length (bare_arrivals arrived)) js → HaveOne (length (bare_arrivals arrived)) (rows_for arrived js)
have_one arrived js c = record {
  each = new_each arrived [] js (λ n. let few = one_if (nat_lt 0 n && nat_le n (length (bare_arrivals arrived))) (occurs n (numbers js)) (c n) in omega (arith, few));
  all = λ n some le.
      let both : (nat_lt 0 n && nat_le n (length (bare_arrivals arrived))) ≡ true = grind (arith, nat_tests, some, le) in
      let one : occurs n (numbers js) ≡ 1 = c n ∙ ap (λ (b : Bool). if b then 1 else 0) both in
      let same = ap (λ (xs : List Decision). occurs n (numbers xs)) (decisions_of arrived js) in
      omega (arith, one, same);
}

in_order : (arrived : List Captured) (cs : List Arrival) (before : List Row) (js : List Decision) → EachAfter (SendsInOrder cs) (decisions before) js
    → EachAfter DropsInOrder (decisions before) js → EachAfter StartsInOrder (decisions before) js → EachAfter (DropsAtArrival cs) (decisions before) js
    → EachAfter (SendsAfterDrops cs) (decisions before) js → EachRow (RowIsInOrder cs) before (rows_for arrived js)
in_order arrived cs before [] a b c d e = tt
in_order arrived cs before (j ∷ js) a b c d e = (
  record { sends = a.0; drops = b.0; starts = c.0; drop_at_arrival = d.0; send_after_drops = e.0 },
  in_order arrived cs (row_for arrived j ∷ before) js a.1 b.1 c.1 d.1 e.1,
)

in_time : (arrived : List Captured) (cs : List Arrival) (before : List Row) (js : List Decision) → EachAfter (StartsAfterArrival cs) (decisions before) js
    → EachAfter StartsAfterEnd (decisions before) js → EachRow (IsInTime cs) before (rows_for arrived js)
in_time arrived cs before [] a b = tt
in_time arrived cs before (j ∷ js) a b =
    (record { after_arrival = a.0; after_end = b.0 }, in_time arrived cs (row_for arrived j ∷ before) js a.1 b.1)

pub passes_all : (rate : ℕ) (classes : List Allowed) (arrived : List Captured) (js : List Decision) → IsJournal rate (bare_arrivals arrived) js
    → CanOccur classes (bare_arrivals arrived) js
    → PassesAll (record { rate = rate; classes = classes; arrived = bare_arrivals arrived; rows = rows_for arrived js })
passes_all rate classes arrived js j can kind.Reading =
    read_each classes arrived [] js (λ n lt. in_range (length (bare_arrivals arrived)) js n j.conserved lt) can
passes_all rate classes arrived js j can kind.EachOnce = have_one arrived js j.conserved
passes_all rate classes arrived js j can kind.Order =
    in_order arrived (bare_arrivals arrived) [] js j.decisions.sends_in_order j.decisions.drops_in_order j.decisions.starts_in_order j.decisions.drops_at_arrival
    j.decisions.sends_after_drops
passes_all rate classes arrived js j can kind.Moments = in_time arrived (bare_arrivals arrived) [] js j.decisions.after_arrival j.decisions.after_end
passes_all rate classes arrived js j can kind.Ends = each_of (EndsAsLink rate (bare_arrivals arrived)) arrived [] js j.decisions.ends

pub busy_passes : (arrived : List Captured) (js : List Decision) → IsBusy (bare_arrivals arrived) js
    → EachRow (StartsAtOnce (bare_arrivals arrived) (rows_for arrived js)) [] (rows_for arrived js)
busy_passes arrived js b =
    let P : List Decision → Type 0 = λ xs. EachRow (λ b' r. DecisionStartsAtOnce (bare_arrivals arrived) xs (decisions b') (decision_of r)) [] (rows_for arrived js) in
    subst P (sym (decisions_of arrived js)) (each_of (DecisionStartsAtOnce (bare_arrivals arrived) js) arrived [] js b)
