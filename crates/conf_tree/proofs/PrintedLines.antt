-- Lines printed one behind the other.
use Rattle.std.proofs.Common.{◌≡◌, ℕ, ◌+◌, ◌<◌, List, [], ◌∷◌, ◌++◌, drop, get_or, length, add-one, refl, ap, sym, ◌∙◌, append_assoc}
use Rattle.std.proofs.Math.Seq.{drop-cons}
use Rattle.conf_tree.specs.Printed.{TextLine, line_words, line_of, printed}

pub printed-append : (xs ys : List TextLine) → printed (xs ++ ys) ≡ printed xs ++ printed ys
printed-append [] ys = refl
printed-append (x ∷ xs) ys =
    ap (λ text. line_of (line_words x) ++ text) (printed-append xs ys) ∙ sym (append_assoc (line_of (line_words x)) (printed xs) (printed ys))

-- the lines of all, one of them on
pub one_more : {X : Type 0} (lines : X → List TextLine) (all_lines : List X → List TextLine)
    → ((x : X) (xs : List X) → all_lines (x ∷ xs) ≡ lines x ++ all_lines xs) → (out new all : List ℕ) (xs : List X) (i : ℕ) (x : X) → i < length xs
    → x ≡ get_or xs i x → new ≡ out ++ printed (lines x) → out ++ printed (all_lines (drop i xs)) ≡ all
    → new ++ printed (all_lines (drop (i + 1) xs)) ≡ all
one_more lines all_lines more out new all xs i x inside is e done =
    let left = drop (i + 1) xs in
    let rest : drop i xs ≡ x ∷ left = rw (add-one, drop-cons xs i x inside, ← is) refl in
    rw (e, append_assoc, ← printed-append (lines x) (all_lines left), ← more x left) (rw rest at done)
