-- What is left, and the least arrival of it.
use Rattle.std.proofs.Common.{◌≡◌, ◌+◌, ◌-◌, ◌<◌, ◌≤◌, ℕ, max, Bool, true, false, List, Option, inl, inr, length, get_or, sym, subst, arith, vec_len}
use Rattle.std.specs.Prelude.{nat_lt}
use Rattle.std.specs.Option.{option_map_or}
use Rattle.std.proofs.lemmas.Bool.{cases_lt}
use Rattle.std.proofs.lemmas.Bool.Decides.{nat_tests}
use Rattle.altq_model.specs.History.{Arrival}
use Rattle.altq_model.specs.Idle.{dropped}
use Rattle.altq_model.specs.Laws.{at_of, occurs}
use Rattle.altq_model.specs.Lawful.{AreRising}
use Rattle.journal_laws.specs.Journal.{IsFirstMoment, IsUnsent, last_end, numbers_sent}
use Rattle.play_laws.proofs.TimeLemmas.{rising_at, there_at}
use Rattle.fate_check.specs.declared.reading.Row.{Row}
use Rattle.fate_judge.specs.declared.given.Arrived.{Arrived}
use Rattle.fate_judge.specs.Given.{bare_arrivals, decisions}
use Rattle.fate_judge.proofs.Lookup.{at_is}
use Rattle.fate_judge.proofs.Passing.{count_of}
use Rattle.fate_busy.specs.Busy.{AreGone, IsLeft}
use Rattle.fate_busy.specs.declared.left.Left.{Left}

-- arrivals rise with their numbers
later_arrives : (arrived : List Arrival) (n m : ℕ) → AreRising arrived → 0 < n → n ≤ m → m ≤ length arrived → at_of arrived n ≤ at_of arrived m
later_arrives arrived n m rising some le there =
    let a = there_at arrived (n - 1) (omega (arith, some, le, there)) in
    let b = there_at arrived (m - 1) (omega (arith, some, le, there)) in
    let up = rising_at 0 arrived (n - 1) (m - 1) a.0 b.0 rising a.1 b.1 (omega (arith, le)) in
    let P : Option Arrival → Type 0 = λ o. option_map_or (λ (x : Arrival). x.at) o 0 ≤ at_of arrived m in
    let Q : Option Arrival → Type 0 = λ o. a.0.at ≤ option_map_or (λ (x : Arrival). x.at) o 0 in
    subst P (sym a.1) (subst Q (sym b.1) up)

-- a place up to which all are gone, in what is held of the rows before one
pub record IsFirstPlace (arrived : List Arrival) (gone : List Bool) (rows before : List Row) (first : ℕ) : Type 0 where
  pub size : length gone ≡ length arrived
  pub told : AreGone gone rows before
  pub below : (k : ℕ) → k < first → get_or gone k false ≡ true

test_true : (m : ℕ) (b : Bool) → b ≡ nat_lt 0 m → b ≡ true → 0 < m
test_true m true e f = grind (arith, nat_tests)
test_true m false e f = absurd cc

test_false : (m : ℕ) (b : Bool) → b ≡ nat_lt 0 m → b ≡ false → m ≡ 0
test_false m true e f = absurd cc
test_false m false e f = grind (arith, nat_tests)

-- what is left is not below that place
gone_below : (arrived : List Arrival) (gone : List Bool) (rows before : List Row) (first n : ℕ) → IsFirstPlace arrived gone rows before first
    → IsUnsent arrived (decisions rows) (decisions before) n → n ≤ first → ⊥
gone_below arrived gone rows before first n p left below =
    let back : n - 1 + 1 ≡ n = omega (arith, left.from_one) in
    let D : ℕ → Type 0 = λ m. get_or gone (n - 1) false ≡ nat_lt 0 (occurs m (dropped (decisions rows)) + occurs m (numbers_sent (decisions before))) in
    let told = subst D back (p.told (n - 1) (omega (arith, left.from_one, left.there, p.size))) in
    let some = test_true (occurs n (dropped (decisions rows)) + occurs n (numbers_sent (decisions before))) (get_or gone (n - 1) false) told
    (p.below (n - 1) (omega (arith, below, left.from_one))) in
    absurd (omega (arith, some, left.kept, left.unsent))

not_below : (arrived : List Arrival) (gone : List Bool) (rows before : List Row) (first n : ℕ) → IsFirstPlace arrived gone rows before first
    → IsUnsent arrived (decisions rows) (decisions before) n → first < n
not_below arrived gone rows before first n p left =
    elim (cases_lt first n) [ inl lt ↦ lt | inr le ↦ absurd (gone_below arrived gone rows before first n p left le) ]

-- where all are gone nothing is left
pub none_left : (arrived : List Arrival) (gone : List Bool) (rows before : List Row) (first moment : ℕ) → IsFirstPlace arrived gone rows before first
    → length arrived ≤ first → IsFirstMoment arrived (decisions rows) (decisions before) moment → ⊥
none_left arrived gone rows before first moment p le m =
    absurd (omega (arith, not_below arrived gone rows before first m.first p m.left, m.left.there, le))

-- the first that is not gone is left, and arrives first
first_left : (arrived : List Arrival) (gone : List Bool) (rows before : List Row) (first : ℕ) → IsFirstPlace arrived gone rows before first
    → first < length arrived → get_or gone first false ≡ false → IsUnsent arrived (decisions rows) (decisions before) (first + 1)
first_left arrived gone rows before first p lt stays =
    let none = test_false (occurs (first + 1) (dropped (decisions rows)) + occurs (first + 1) (numbers_sent (decisions before))) (get_or gone first false)
    (p.told first (omega (arith, lt, p.size))) stays in
    record {
      from_one = omega arith;
      there = omega (arith, lt);
      kept = omega (arith, none);
      unsent = omega (arith, none);
    }

first_arrives : (arrived : List Arrival) (gone : List Bool) (rows before : List Row) (first n : ℕ) → AreRising arrived → IsFirstPlace arrived gone rows before first
    → IsUnsent arrived (decisions rows) (decisions before) n → at_of arrived (first + 1) ≤ at_of arrived n
first_arrives arrived gone rows before first n rising p left =
    later_arrives arrived (first + 1) n rising (omega arith) (omega (arith, not_below arrived gone rows before first n p left)) left.there

pub is_first : (arrived : List Arrival) (gone : List Bool) (rows before : List Row) (first at start free : ℕ) → AreRising arrived
    → IsFirstPlace arrived gone rows before first → first < length arrived → get_or gone first false ≡ false → at_of arrived (first + 1) ≡ at
    → free ≡ last_end (decisions before) → start ≡ max at free → IsFirstMoment arrived (decisions rows) (decisions before) start
is_first arrived gone rows before first at start free rising p lt stays there end is = record {
  first = first + 1;
  left = first_left arrived gone rows before first p lt stays;
  least = λ n left. first_arrives arrived gone rows before first n rising p left;
  is = omega (arith, there, end, is);
}

pub is_not_first : (arrived : List Arrival) (gone : List Bool) (rows before : List Row) (first at start free : ℕ) → AreRising arrived
    → IsFirstPlace arrived gone rows before first → first < length arrived → get_or gone first false ≡ false → at_of arrived (first + 1) ≡ at
    → free ≡ last_end (decisions before) → (start ≡ max at free → ⊥) → IsFirstMoment arrived (decisions rows) (decisions before) start → ⊥
is_not_first arrived gone rows before first at start free rising p lt stays there end other m =
    let up = m.least (first + 1) (first_left arrived gone rows before first p lt stays) in
    let down = first_arrives arrived gone rows before first m.first rising p m.left in
    other (omega (arith, up, down, there, end, m.is))

-- so it is where places were skipped that are gone
pub place_at : (arrived : List Arrived) (old new : Left) (rows before : List Row) → IsLeft (length arrived) rows before old → new.gone ≡ old.gone
    → ((k : ℕ) → old.first ≤ k → k < new.first → get_or new.gone.items k false ≡ true)
    → IsFirstPlace (bare_arrivals arrived) new.gone.items rows before new.first
place_at arrived old new rows before l same skipped =
    let told : AreGone new.gone.items rows before = rw same l.gone in
    let start : (k : ℕ) → k < old.first → get_or new.gone.items k false ≡ true = rw same l.first in
    let size : vec_len new.gone ≡ length arrived = rw same l.size in
    record {
      size = omega (arith, new.gone.ok.0, size, count_of arrived);
      told = told;
      below = λ k lt. elim (cases_lt k old.first) [ inl b ↦ start k b | inr le ↦ skipped k le lt ];
    }

pub arrives_at : (arrived : List Arrived) (k : ℕ) (a : Arrived) → k < length arrived → a ≡ get_or arrived k a → at_of (bare_arrivals arrived) (k + 1) ≡ a.at
arrives_at arrived k a lt is =
    let back : k + 1 - 1 ≡ k = omega arith in
    let P : ℕ → Type 0 = λ m. a ≡ get_or arrived m a in
    at_is arrived (k + 1) a (omega (arith, lt)) (subst P (sym back) is)
