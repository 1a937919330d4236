-- The order in which filters are asked, from two sorts of which the later one is stable.
use Rattle.std.proofs.Common.{◌≡◌, ℕ, zero, suc, ◌+◌, ◌-◌, ◌<◌, ◌≤◌, Bool, true, false, not, ◌&&◌, List, length, get_or, refl, arith, sym, ◌∙◌, subst, ap, IsPermutation}
use Rattle.std.specs.Cmp.{IsStrictWeakOrder}
use Rattle.std.specs.List.Sorted.{IsSortedBy, IsStableBy}
use Rattle.std.specs.Ordering.{is_lt, nat_cmp}
use Rattle.std.proofs.lemmas.Bool.Decides.{nat_tests}
use Rattle.std.proofs.lemmas.Cmp.{nat_cmp_total}
use Rattle.std.proofs.lemmas.List.{get_or_default}
use Rattle.std.proofs.lemmas.List.Sorted.{Contains-permutation, IsStrictWeakOrder-flip, length_permutation, ranks_by, sorted_far, ties_stay_sorted}
use Rattle.conf_tree.specs.declared.filter.Filter.{Filter}
use Rattle.flow_filter.specs.Ranked.{IsRanked, ruleno_at}

-- Where a number ties along a stretch, and neighbours that tie in it rise in another, the ends of the stretch do.
pub ties_far : {X : Type 0} (n m : X → ℕ) (xs : List X) (d : X)
    → ((i k j : ℕ) → i ≤ k → k ≤ j → j < length xs → n (get_or xs i d) ≡ n (get_or xs j d) → n (get_or xs i d) ≡ n (get_or xs k d))
    → ((k : ℕ) → k + 1 < length xs → n (get_or xs k d) ≡ n (get_or xs (k + 1) d) → m (get_or xs k d) ≤ m (get_or xs (k + 1) d))
    → (steps i j : ℕ) → j ≡ i + steps → j < length xs → n (get_or xs i d) ≡ n (get_or xs j d) → m (get_or xs i d) ≤ m (get_or xs j d)
ties_far n m xs d flat near zero i j e h tie =
    let same : j ≡ i = omega arith in rw same (omega arith)
ties_far n m xs d flat near (suc steps) i j e h tie =
    let k = i + steps in
    let next : j ≡ k + 1 = omega arith in
    let first : n (get_or xs i d) ≡ n (get_or xs k d) = flat i k j (omega arith) (omega arith) h tie in
    let second : n (get_or xs k d) ≡ n (get_or xs (k + 1) d) = sym first ∙ tie ∙ ap (λ l. n (get_or xs l d)) next in
    let so_far : m (get_or xs i d) ≤ m (get_or xs k d) = ties_far n m xs d flat near steps i k refl (omega arith) first in
    let step : m (get_or xs k d) ≤ m (get_or xs (k + 1) d) = near k (omega arith) second in
    let P : ℕ → Type 0 = λ l. m (get_or xs i d) ≤ m (get_or xs l d) in
    subst P (sym next) (omega arith)

abbrev later : (ℕ → ℕ) → ℕ → ℕ → Bool
later n x y = is_lt (nat_cmp (n y) (n x))

abbrev earlier : ℕ → ℕ → Bool
earlier x y = is_lt (nat_cmp x y)

not_below : (x y : ℕ) → is_lt (nat_cmp x y) ≡ false → y ≤ x
not_below x y h = grind (arith, nat_tests)

not_above : (x y : ℕ) → x ≤ y → is_lt (nat_cmp y x) ≡ false
not_above x y h = grind (arith, nat_tests)

tied : (x y : ℕ) → x ≡ y → (not (is_lt (nat_cmp y x)) && not (is_lt (nat_cmp x y))) ≡ true
tied x y h = rw (not_above x y (omega arith), not_above y x (omega arith)) refl

-- the order of the numbers falls
falling : (n : ℕ → ℕ) → IsStrictWeakOrder (later n)
falling n = IsStrictWeakOrder-flip (λ x y. is_lt (nat_cmp (n x) (n y))) (ranks_by nat_cmp_total n)

rising : IsStrictWeakOrder earlier
rising = ranks_by nat_cmp_total (λ x. x)

in_order : (xs : List ℕ) → ((k : ℕ) → k < length xs → get_or xs k 0 ≡ k) → IsSortedBy earlier xs
in_order xs each = λ k d low h.
    let here : get_or xs k d ≡ k = get_or_default xs k d 0 (omega arith) ∙ each k (omega arith) in
    let next : get_or xs (k + 1) d ≡ k + 1 = get_or_default xs (k + 1) d 0 (omega arith) ∙ each (k + 1) (omega arith) in
    rw (here, next) (not_above k (k + 1) (omega arith))

pub ranked_from : (filters : List Filter) (xs ys : List ℕ) → length xs ≡ length filters
    → ((k : ℕ) → k < length filters → get_or xs k 0 ≡ k) → IsPermutation xs ys
    → IsSortedBy (later (ruleno_at filters)) ys → IsStableBy (later (ruleno_at filters)) xs ys → IsRanked filters ys
ranked_from filters xs ys long each moved sorted stable =
    let n = ruleno_at filters in
    let same : length ys ≡ length xs = length_permutation xs ys moved in
    let falls : (i j : ℕ) → i ≤ j → j < length ys → n (get_or ys j 0) ≤ n (get_or ys i 0) =
    λ i j le h. not_below (n (get_or ys i 0)) (n (get_or ys j 0)) (sorted_far (later n) (falling n) ys sorted i j 0 le h) in
    let near : (k : ℕ) → k + 1 < length ys → n (get_or ys k 0) ≡ n (get_or ys (k + 1) 0) → get_or ys k 0 ≤ get_or ys (k + 1) 0 =
    λ k h tie. not_below (get_or ys (k + 1) 0) (get_or ys k 0)
    (ties_stay_sorted earlier (later n) rising (falling n) xs ys (in_order xs (λ k h. each k (omega arith))) stable k 0 h
    (tied (n (get_or ys k 0)) (n (get_or ys (k + 1) 0)) tie)) in
    let flat : (i k j : ℕ) → i ≤ k → k ≤ j → j < length ys → n (get_or ys i 0) ≡ n (get_or ys j 0) → n (get_or ys i 0) ≡ n (get_or ys k 0) =
    λ i k j low high h tie.
    let down : n (get_or ys k 0) ≤ n (get_or ys i 0) = falls i k low (omega arith) in
    let up : n (get_or ys j 0) ≤ n (get_or ys k 0) = falls k j high h in
    omega arith in
    record {
      same_length = same ∙ long;
      each = λ place h. Contains-permutation xs ys place moved (place, omega arith, get_or_default xs place place 0 (omega arith) ∙ each place h);
      falls = falls;
      ties = λ i j le h tie. ties_far n (λ x. x) ys 0 flat near (j - i) i j (omega arith) h tie;
    }
