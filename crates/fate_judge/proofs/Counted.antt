-- The numbers that have a row.
use Rattle.std.proofs.Common.{◌≡◌, ◌+◌, ◌-◌, ◌<◌, ◌≤◌, ℕ, Bool, true, false, List, [], ◌∷◌, inr, length, get_or, refl, ap, subst, arith}
use Rattle.std.specs.Prelude.{nat_lt}
use Rattle.std.proofs.lemmas.Bool.Decides.{nat_tests}
use Rattle.std.proofs.lemmas.List.{take_all}
use Rattle.fate_check.specs.declared.reading.Row.{Row}
use Rattle.fate_judge.specs.Tests.{AreSeen, HaveOne, IsNewPacket, LacksOne, rows_of}
use Rattle.fate_judge.specs.Walk.{newest_first}
use Rattle.fate_judge.proofs.Walking.{EachBelow, all_rows, before_at}

rows_newest : (n : ℕ) (rows before : List Row) → rows_of n (newest_first rows before) ≡ rows_of n rows + rows_of n before
rows_newest n [] before = omega arith
rows_newest n (r ∷ rows) before = omega (arith, rows_newest n rows (r ∷ before))

rows_at_end : (n : ℕ) (rows : List Row) (i : ℕ) → length rows ≤ i → rows_of n (before_at rows i) ≡ rows_of n rows
rows_at_end n rows i le =
    let taken = ap (λ (xs : List Row). rows_of n (newest_first xs [])) (take_all i rows le) in
    omega (arith, taken, rows_newest n rows [])

none_there : (m : ℕ) (b : Bool) → b ≡ nat_lt 0 m → b ≡ false → m ≡ 0
none_there m true e f = absurd cc
none_there m false e f = grind (arith, nat_tests)

some_there : (m : ℕ) (b : Bool) → b ≡ nat_lt 0 m → b ≡ true → 0 < m
some_there m true e f = grind (arith, nat_tests)
some_there m false e f = absurd cc

pub lacks_one : (rows : List Row) (i count k : ℕ) (seen : List Bool) → length rows ≤ i → EachBelow IsNewPacket rows i → AreSeen seen (before_at rows i)
    → length seen ≡ count → k < count → get_or seen k false ≡ false → LacksOne count rows (length rows + 1)
lacks_one rows i count k seen le each stands long lt unset =
    let none = none_there (rows_of (k + 1) (before_at rows i)) (get_or seen k false) (stands k (omega (arith, lt, long))) unset in
    inr (record {
      each = all_rows IsNewPacket rows i le each;
      number = k + 1;
      from_one = omega arith;
      there = omega (arith, lt);
      none = omega (arith, none, rows_at_end (k + 1) rows i le);
      place = refl;
    })

has_row : (rows : List Row) (i n : ℕ) (seen : List Bool) → length rows ≤ i → AreSeen seen (before_at rows i) → n < length seen
    → get_or seen n false ≡ true → 0 < rows_of (n + 1) rows
has_row rows i n seen le stands lt set =
    let some = some_there (rows_of (n + 1) (before_at rows i)) (get_or seen n false) (stands n lt) set in
    omega (arith, some, rows_at_end (n + 1) rows i le)

pub have_one : (rows : List Row) (i count : ℕ) (seen : List Bool) → length rows ≤ i → EachBelow IsNewPacket rows i → AreSeen seen (before_at rows i)
    → length seen ≡ count → ((k : ℕ) → k < count → get_or seen k false ≡ true) → HaveOne count rows
have_one rows i count seen le each stands long set = record {
  each = all_rows IsNewPacket rows i le each;
  all = λ n some few.
      let back : n - 1 + 1 ≡ n = omega (arith, some) in
      let P : ℕ → Type 0 = λ m. 0 < rows_of m rows in
      subst P back (has_row rows i (n - 1) seen le stands (omega (arith, some, few, long)) (set (n - 1) (omega (arith, some, few))));
}
