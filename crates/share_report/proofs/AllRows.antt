-- The gaps of the first rows.
use Rattle.std.proofs.Common.{◌≡◌, ◌≤◌, ◌+◌, ◌*◌, ℕ, zero, suc, Bool, true, false, cond, List, [], ◌∷◌, ◌++◌, None, Some, length, length-append, map, take, refl, ap, sym, arith, ◌∙◌}
use Rattle.std.specs.Prelude.{Option, option_map, slice_get}
use Rattle.std.specs.List.{filter, range_with_len}
use Rattle.service_curve.proofs.Amounts.{mul_mono}
use Rattle.hfsc_model.specs.declared.HfscClass.{HfscClass}
use Rattle.hfsc_model.specs.Event.{HfscHistory}
use Rattle.hfsc_model.specs.Tree.{numbers}
use Rattle.share_gaps.specs.declared.gap.Gap.{Gap}
use Rattle.share_gaps.specs.declared.siblings.Siblings.{Siblings}
use Rattle.share_gaps.specs.Rows.{are_siblings, pair, rows, rows_from, rows_of}
use Rattle.share_gaps.specs.Watching.{gap_after}
use Rattle.share_report.specs.Report.{gaps_after}

-- one more, and all
one_more : {X Y : Type 0} (f : X → Y) (xs : List X) (n : ℕ) (x : X) → slice_get xs n ≡ Some x → take (suc n) (map f xs) ≡ take n (map f xs) ++ f x ∷ []
one_more f [] n x e = absurd cc
one_more f (y ∷ ys) zero x e = let same : y ≡ x = cc in ap (λ z. f z ∷ []) same
one_more f (y ∷ ys) (suc n) x e = ap (λ zs. f y ∷ zs) (one_more f ys n x e)

pub next_gap : (cs : List HfscClass) (h : HfscHistory) (n : ℕ) (s : Siblings) → slice_get (rows cs) n ≡ Some s
    → take (n + 1) (gaps_after cs h) ≡ take n (gaps_after cs h) ++ gap_after cs h s ∷ []
next_gap cs h n s e =
    let more : n + 1 ≡ suc n = omega arith in
    ap (λ (m : ℕ). take m (gaps_after cs h)) more ∙ one_more (gap_after cs h) (rows cs) n s e

-- a gap that is the next joins those before it
pub joined : (cs : List HfscClass) (h : HfscHistory) (n : ℕ) (gap : Gap) (before : List Gap) → before ≡ take n (gaps_after cs h)
    → Some gap ≡ option_map (gap_after cs h) (slice_get (rows cs) n) → before ++ gap ∷ [] ≡ take (n + 1) (gaps_after cs h)
joined cs h n gap before e is = go (slice_get (rows cs) n) refl is
  where
    number : (x y : Gap) → Some x ≡ Some y → x ≡ y
    number x y z = cc

    go : (o : Option Siblings) → slice_get (rows cs) n ≡ o → Some gap ≡ option_map (gap_after cs h) o → before ++ gap ∷ [] ≡ take (n + 1) (gaps_after cs h)
    go None f k = absurd cc
    go (Some s) f k =
        ap (λ (xs : List Gap). xs ++ gap ∷ []) e ∙ ap (λ (x : Gap). take n (gaps_after cs h) ++ x ∷ []) (number gap (gap_after cs h s) k) ∙ sym (next_gap cs h n s f)

all_taken : {X Y : Type 0} (f : X → Y) (xs : List X) (n : ℕ) → length xs ≤ n → take n (map f xs) ≡ map f xs
all_taken f [] zero l = refl
all_taken f [] (suc n) l = refl
all_taken f (y ∷ ys) zero l = absurd (omega (arith, l))
all_taken f (y ∷ ys) (suc n) l = ap (λ zs. f y ∷ zs) (all_taken f ys n (omega (arith, l)))

pub no_more_gaps : (cs : List HfscClass) (h : HfscHistory) (n : ℕ) → length (rows cs) ≤ n → take n (gaps_after cs h) ≡ gaps_after cs h
no_more_gaps cs h n l = all_taken (gap_after cs h) (rows cs) n l

-- there are at most as many rows as pairs of numbers
few_pass : {X : Type 0} (p : X → Bool) (xs : List X) → length (filter p xs) ≤ length xs
few_pass p [] = omega arith
few_pass p (x ∷ xs) = go (p x) (few_pass p xs)
  where
    go : (b : Bool) → length (filter p xs) ≤ length xs → length (cond b (x ∷ filter p xs) (filter p xs)) ≤ suc (length xs)
    go true l = omega (arith, l)
    go false l = omega (arith, l)

as_many : {X Y : Type 0} (f : X → Y) (xs : List X) → length (map f xs) ≡ length xs
as_many f [] = refl
as_many f (x ∷ xs) = ap suc (as_many f xs)

range_count : (from n : ℕ) → length (range_with_len from n) ≡ n
range_count from zero = refl
range_count from (suc n) = ap suc (range_count (from + 1) n)

few_of : (cs : List HfscClass) (c : ℕ) → length (rows_of cs c) ≤ length cs
few_of cs c =
    let few = few_pass (are_siblings cs) (map (pair c) (numbers cs)) in
    let same = as_many (pair c) (numbers cs) in
    let count = range_count 0 (length cs) in
    omega (arith, few, same, count)

few_from : (cs : List HfscClass) (xs : List ℕ) → length (rows_from cs xs) ≤ length xs * length cs
few_from cs [] = omega arith
few_from cs (x ∷ xs) =
    let both = length-append (rows_of cs x) (rows_from cs xs) in
    let one = few_of cs x in
    let rest = few_from cs xs in
    omega (arith, both, one, rest)

pub few_rows : (cs : List HfscClass) → length cs ≤ 256 → length (rows cs) ≤ 65536
few_rows cs few =
    let all = few_from cs (numbers cs) in
    let count = range_count 0 (length cs) in
    let most : length (numbers cs) * length cs ≤ 256 * 256 = square (length (numbers cs)) (length cs) (omega (arith, count, few)) few in
    omega (arith, all, most)
  where
    square : (m n : ℕ) → m ≤ 256 → n ≤ 256 → m * n ≤ 256 * 256
    square m n a b =
        let one = mul_mono m n 256 b in
        let two : m * 256 ≤ 256 * 256 = omega (arith, a) in
        omega (arith, one, two)
