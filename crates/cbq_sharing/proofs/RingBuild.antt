-- The rings, as they are made one after the other.
use Rattle.std.proofs.Common.{◌≡◌, ◌≤◌, ◌<◌, ◌+◌, ◌∙◌, ◌++◌, inl, inr, ℕ, List, [], ◌∷◌, length, get_or, ap, sym, subst, arith}
use Rattle.std.specs.Prelude.{if◌then◌else◌}
use Rattle.std.proofs.Common.{length-append}
use Rattle.std.proofs.lemmas.Bool.{cases_eq, cases_lt, eq-eqb}
use Rattle.std.proofs.lemmas.List.{get_or_append_left}
use Rattle.std.proofs.Math.Seq.{get_or-append_seam}
use Rattle.cbq_model.specs.declared.CbqClass.{CbqClass}
use Rattle.cbq_model.specs.Tree.{class_of}
use Rattle.cbq_sharing.specs.Rings.{AreRings, IsRing, IsTop}
use Rattle.class_sets.specs.Marked.{marked}

-- the rings of the priorities below one
pub record IsBuilt (cs : List CbqClass) (p : ℕ) (sets : List (List ℕ)) (tops : List ℕ) (top : ℕ) : Type 0 where
  pub set_each : length sets ≡ p
  pub top_each : length tops ≡ p + 1
  pub ring_of : (k : ℕ) → k < p → IsRing cs k (get_or sets k [])
  pub top_of : (k : ℕ) → k ≤ p → IsTop cs k (get_or tops k 0)
  pub top_is : IsTop cs p top

seam : {X : Type 0} (xs : List X) (x d : X) (k : ℕ) → k ≡ length xs → get_or (xs ++ x ∷ []) k d ≡ x
seam xs x d k e = ap (λ (n : ℕ). get_or (xs ++ x ∷ []) n d) e ∙ get_or-append_seam xs x [] d

pub built_more : (cs : List CbqClass) (p top next : ℕ) (sets : List (List ℕ)) (tops ring : List ℕ) → IsBuilt cs p sets tops top → IsRing cs p ring → IsTop cs (p + 1) next
    → IsBuilt cs (p + 1) (sets ++ ring ∷ []) (tops ++ next ∷ []) next
built_more cs p top next sets tops ring b r t = record {
  set_each = length-append sets (ring ∷ []) ∙ (let e = b.set_each in omega (arith, e));
  top_each = length-append tops (next ∷ []) ∙ (let e = b.top_each in omega (arith, e));
  ring_of = λ k l. elim (cases_lt k p) [
    | inl m ↦
        let R : List ℕ → Type 0 = λ ws. IsRing cs k ws in
        let inside : k < length sets = omega (arith, m, b.set_each) in
        subst R (sym (get_or_append_left sets (ring ∷ []) [] k inside)) (b.ring_of k m)
    | inr m ↦
        let same : k ≡ p = omega (arith, l, m) in
        let R : List ℕ → Type 0 = λ ws. IsRing cs k ws in
        let S : ℕ → Type 0 = λ n. IsRing cs n ring in
        subst R (sym (seam sets ring [] k (same ∙ sym b.set_each))) (subst S (sym same) r)
  ];
  top_of = λ k l. elim (cases_lt k (p + 1)) [
    | inl m ↦
        let R : ℕ → Type 0 = λ n. IsTop cs k n in
        let inside : k < length tops = omega (arith, m, b.top_each) in
        subst R (sym (get_or_append_left tops (next ∷ []) 0 k inside)) (b.top_of k (omega (arith, m)))
    | inr m ↦
        let same : k ≡ p + 1 = omega (arith, l, m) in
        let R : ℕ → Type 0 = λ n. IsTop cs k n in
        let S : ℕ → Type 0 = λ n. IsTop cs n next in
        subst R (sym (seam tops next 0 k (same ∙ sym b.top_each))) (subst S (sym same) t)
  ];
  top_is = t;
}

pub built_next : (cs : List CbqClass) (p top next : ℕ) (sets after : List (List ℕ)) (tops after_tops ring : List ℕ) → IsBuilt cs p sets tops top → IsRing cs p ring
    → IsTop cs (p + 1) next → after ≡ sets ++ ring ∷ [] → after_tops ≡ tops ++ next ∷ [] → IsBuilt cs (p + 1) after after_tops next
built_next cs p top next sets after tops after_tops ring b r t e f =
    let P : List (List ℕ) → Type 0 = λ xs. IsBuilt cs (p + 1) xs after_tops next in
    let R : List ℕ → Type 0 = λ xs. IsBuilt cs (p + 1) (sets ++ ring ∷ []) xs next in
    subst P (sym e) (subst R (sym f) (built_more cs p top next sets tops ring b r t))

pub all_built : (cs : List CbqClass) (p top : ℕ) (sets : List (List ℕ)) (tops : List ℕ) → IsBuilt cs p sets tops top → p ≡ 8
    → ((c : ℕ) → c < length cs → (class_of cs c).priority ≤ 7) → AreRings cs sets tops
all_built cs p top sets tops b e few = record {
  few = λ c l. omega (arith, few c l);
  set_each = b.set_each ∙ e;
  top_each = omega (arith, b.top_each, e);
  ring_of = λ k l. b.ring_of k (omega (arith, l, e));
  top_of = λ k l. b.top_of k (omega (arith, l, e));
}

-- the top stays where no class has the priority
pub top_kept : (cs : List CbqClass) (p top : ℕ) (ring : List ℕ) → IsRing cs p ring → IsTop cs p top → ((c : ℕ) → marked ring c ≡ 0) → IsTop cs (p + 1) top
top_kept cs p top ring r t none = record {
  low = omega (arith, t.low);
  below = λ c l m. elim (cases_eq (class_of cs c).priority p) [
    | inl same ↦
        let one : marked ring c ≡ 1 = r c l ∙ ap (λ b. if b then 1 else 0) (eq-eqb (class_of cs c).priority p same) in
        absurd (omega (arith, one, none c))
    | inr other ↦ t.below c l (omega (arith, m, other))
  ];
}
