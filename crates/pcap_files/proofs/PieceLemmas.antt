-- Lists that are taken in pieces.
use Rattle.std.proofs.Common.{◌≡◌, ◌≤◌, ◌∙◌, ◌+◌, ◌-◌, ◌++◌, ℕ, zero, suc, List, [], ◌∷◌, length, take, drop, ap, sym, arith, zero-add, length-drop}
use Rattle.std.proofs.lemmas.List.{take_all, take_at, take-take, length-take, length-take-le}
use Rattle.std.proofs.lemmas.Slice.{between_is}
use Rattle.std.specs.List.{copy_within}

-- one front and then another
pub take_more_bytes : (m n : ℕ) (xs : List ℕ) → take (m + n) xs ≡ take m xs ++ take n (drop m xs)
take_more_bytes zero n xs = ap (λ (k : ℕ). take k xs) (zero-add n)
take_more_bytes (suc m) n [] = take_all (suc m + n) [] (omega arith) ∙ sym (take_all n [] (omega arith))
take_more_bytes (suc m) n (x ∷ xs) =
    let next : suc m + n ≡ suc (m + n) = omega arith in
    ap (λ (k : ℕ). take k (x ∷ xs)) next ∙ ap (λ (r : List ℕ). x ∷ r) (take_more_bytes m n xs)

-- a part that was copied to the front
pub copied_to_front : (xs ys : List ℕ) (i j : ℕ) → i ≤ j → j ≤ length xs → ys ≡ copy_within xs i j 0 → take (j - i) ys ≡ drop i (take j xs)
copied_to_front xs ys i j order within copied =
    let count = j - i in
    let part = take count (drop i xs) in
    let long : length part ≡ count = length-take-le count (drop i xs) (omega (arith, length-drop i xs, order, within)) in
    ap (take count) copied ∙ take_at part (drop (0 + count) xs) count long ∙ between_is xs i j

-- the bytes before a place, and then some of those that were taken behind it
pub passed_more : (from count to : ℕ) (xs before waiting : List ℕ) → from ≤ to → before ≡ take from xs → waiting ≡ drop from (take to xs)
    → count ≤ length waiting → take (from + count) xs ≡ before ++ take count waiting
passed_more from count to xs before waiting order first rest fits =
    let within : from + count ≤ to = omega (arith, order, fits, ap length rest, length-drop from (take to xs), length-take to xs) in
    sym (take-take (from + count) to xs within) ∙ take_more_bytes from count (take to xs)
    ∙ ap (λ (ys : List ℕ). ys ++ take count (drop from (take to xs))) (take-take from to xs order ∙ sym first)
    ∙ ap (λ (ys : List ℕ). before ++ take count ys) (sym rest)
