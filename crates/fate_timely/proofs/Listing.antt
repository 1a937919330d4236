-- The longest packet of rows, and how late each class came.
use Rattle.std.proofs.Common.{◌≡◌, ◌∙◌, ◌+◌, ◌<◌, ◌≤◌, ℕ, ℤ, zero, suc, List, [], ◌∷◌, ◌++◌, Option, None, Some, length, take, get_or, refl, ap, sym, subst, arith, append_assoc}
use Rattle.std.proofs.lemmas.List.{append-nil, length-take-le, take_all, take_more}
use Rattle.altq_model.specs.declared.Fate.{Fate}
use Rattle.altq_model.specs.declared.Fate.TheVariants.{Dropped, Sent}
use Rattle.service_curve.specs.declared.Curve.{Curve}
use Rattle.fate_check.specs.declared.reading.Row.{Row}
use Rattle.fate_judge.specs.Walk.{newest_first}
use Rattle.fate_judge.proofs.Walking.{before_at, no_row, row_at}
use Rattle.fate_timely.specs.declared.given.Late.{Late}
use Rattle.fate_timely.specs.declared.leaf.Leaf.{Leaf}
use Rattle.fate_timely.specs.Dues.{AreDues, IsLeafOf, added, leaf_at, listed}
use Rattle.fate_timely.specs.Timely.{curve_at, late_of, lates, lates_from, longest_sent, longest_then, sent_rows, worst}

swapped : (a b : ℕ) (f g : Fate) (n : ℕ) → longest_then a f (longest_then b g n) ≡ longest_then b g (longest_then a f n)
swapped a b (Dropped x) (Dropped y) n = refl
swapped a b (Dropped x) (Sent s e rule) n = refl
swapped a b (Sent s e rule) (Dropped x) n = refl
swapped a b (Sent s e rule) (Sent s' e' rule') n = omega arith

longest_last : (xs : List Row) (r : Row) → longest_sent (xs ++ r ∷ []) ≡ longest_then r.len r.fate (longest_sent xs)
longest_last [] r = refl
longest_last (x ∷ xs) r =
    ap (λ (n : ℕ). longest_then x.len x.fate n) (longest_last xs r) ∙ swapped x.len r.len x.fate r.fate (longest_sent xs)

pub longest_more : (rows : List Row) (i : ℕ) → i < length rows
    → longest_then (row_at rows i).len (row_at rows i).fate (longest_sent (take i rows)) ≡ longest_sent (take (i + 1) rows)
longest_more rows i lt =
    sym (longest_last (take i rows) (row_at rows i)) ∙ ap longest_sent (sym (take_more rows i no_row lt))

-- one class more is listed
listed_last : (class : ℕ) (xs : List (Option Leaf)) (o : Option Leaf) → listed class (xs ++ o ∷ []) ≡ listed class xs ++ added (class + length xs) o
listed_last class [] o =
    let same : class ≡ class + 0 = omega arith in
    append-nil (added class o) ∙ ap (λ (c : ℕ). added c o) same
listed_last class (x ∷ xs) o =
    let same : class + 1 + length xs ≡ class + suc (length xs) = omega arith in
    ap (λ (ys : List Late). added class x ++ ys) (listed_last (class + 1) xs o ∙ ap (λ (c : ℕ). listed (class + 1) xs ++ added c o) same)
    ∙ sym (append_assoc (added class x) (listed (class + 1) xs) (added (class + suc (length xs)) o))

pub listed_more : (leaves : List (Option Leaf)) (i : ℕ) → i < length leaves
    → listed 0 (take i leaves) ++ added i (leaf_at leaves i) ≡ listed 0 (take (i + 1) leaves)
listed_more leaves i lt =
    let long : length (take i leaves) ≡ i = length-take-le i leaves (omega (arith, lt)) in
    let same : i ≡ 0 + length (take i leaves) = omega (arith, long) in
    ap (λ (c : ℕ). listed 0 (take i leaves) ++ added c (leaf_at leaves i)) same ∙ sym (listed_last 0 (take i leaves) (leaf_at leaves i))
    ∙ ap (λ (ls : List (Option Leaf)). listed 0 ls) (sym (take_more leaves i None lt))

head_late : (class k : ℕ) (s : Option Curve) (before : List Row) (o : Option Leaf) (rest rest' : List Late) → k ≡ class → IsLeafOf s k before o → rest ≡ rest'
    → added class o ++ rest ≡ late_of class s before rest'
head_late class k None before None rest rest' e h r = r
head_late class k None before (Some leaf) rest rest' e h r = absurd cc
head_late class k (Some s) before None rest rest' e h r = absurd h
head_late class k (Some s) before (Some leaf) rest rest' e h r =
    let same : leaf.worst ≡ worst s (sent_rows class before) = h.worst ∙ ap (λ (c : ℕ). worst s (sent_rows c before)) e in
    ap (λ (w : Option ℤ). let x : Late = record { class = class; worst = w } in x ∷ rest) same
    ∙ ap (λ (xs : List Late). let x : Late = record { class = class; worst = worst s (sent_rows class before) } in x ∷ xs) r

all_late : (class : ℕ) (curves : List (Option Curve)) (before : List Row) (leaves : List (Option Leaf)) → length leaves ≡ length curves
    → ((k : ℕ) → IsLeafOf (curve_at curves k) (class + k) before (leaf_at leaves k)) → listed class leaves ≡ lates_from class curves before
all_late class [] before [] e each = refl
all_late class [] before (o ∷ leaves) e each = absurd (omega (arith, e))
all_late class (s ∷ curves) before [] e each = absurd (omega (arith, e))
all_late class (s ∷ curves) before (o ∷ leaves) e each =
    head_late class (class + 0) s before o (listed (class + 1) leaves) (lates_from (class + 1) curves before) (omega arith) (each 0)
    (all_late (class + 1) curves before leaves (omega (arith, e))
    (λ k.
    let same : class + suc k ≡ class + 1 + k = omega arith in
    let P : ℕ → Type 0 = λ c. IsLeafOf (curve_at curves k) c before (leaf_at leaves k) in
    subst P same (each (suc k))))

pub listed_lates : (curves : List (Option Curve)) (before : List Row) (leaves : List (Option Leaf)) → AreDues curves before leaves
    → listed 0 leaves ≡ lates_from 0 curves before
listed_lates curves before leaves d =
    all_late 0 curves before leaves d.size
    (λ k.
    let same : k ≡ 0 + k = omega arith in
    let P : ℕ → Type 0 = λ c. IsLeafOf (curve_at curves k) c before (leaf_at leaves k) in
    subst P same (d.each k))

pub same_at : (xs : List (Option Leaf)) (i : ℕ) (o : Option Leaf) → i < length xs → o ≡ get_or xs i o → o ≡ leaf_at xs i
same_at [] i o lt e = absurd (omega arith)
same_at (x ∷ xs) zero o lt e = e
same_at (x ∷ xs) (suc i) o lt e = same_at xs i o (omega arith) e

-- after the last row
pub lates_of : (curves : List (Option Curve)) (rows : List Row) (i : ℕ) (leaves : List (Option Leaf)) → length rows ≤ i
    → AreDues curves (before_at rows i) leaves → listed 0 leaves ≡ lates curves rows
lates_of curves rows i leaves le d =
    listed_lates curves (before_at rows i) leaves d
    ∙ ap (λ (xs : List Row). lates_from 0 curves (newest_first xs [])) (take_all i rows le)
