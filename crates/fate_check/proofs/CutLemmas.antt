-- Where a text is cut at a mark.
use Rattle.std.proofs.Common.{◌≡◌, ℕ, ◌+◌, ◌<◌, ◌++◌, not, false, List, [], ◌∷◌, Option, Some, None, suc, length, take, drop, get_or, add-one, eqb, eq-eqb, refl, sym, ap, ◌∙◌, arith, lt-ltb}
use Rattle.std.proofs.Math.Seq.{take-append_seam, drop-append-add, drop-cons}
use Rattle.std.proofs.lemmas.Bool.{eqb-true}
use Rattle.std.proofs.lemmas.List.{length-append, take-append-drop}
use Rattle.std.proofs.lemmas.List.Quantifiers.{position-Some}
use Rattle.std.specs.List.{prefix_len, position}
use Rattle.line_text.specs.Numbers.{cut, ◌>>=◌}

-- no byte of a text is the mark
abbrev pub Lacks : (mark : ℕ) → List ℕ → Type 0
Lacks mark [] = Unit {0}
Lacks mark (byte ∷ text) = (eqb byte mark ≡ false) × Lacks mark text

prefix-front : (mark : ℕ) (front rest : List ℕ) → Lacks mark front
    → prefix_len (λ byte. not (eqb byte mark)) (front ++ rest) ≡ length front + prefix_len (λ byte. not (eqb byte mark)) rest
prefix-front mark [] rest h = omega arith
prefix-front mark (byte ∷ front) rest h = rw h.0 (ap (λ n. 1 + n) (prefix-front mark front rest h.1) ∙ omega arith)

pub cut-front : (mark : ℕ) (front rest : List ℕ) → Lacks mark front → cut mark (front ++ mark ∷ rest) ≡ Some (front, rest)
cut-front mark front rest h =
    let at : prefix_len (λ byte. not (eqb byte mark)) (front ++ mark ∷ rest) ≡ length front =
    prefix-front mark front (mark ∷ rest) h ∙ rw (eq-eqb mark mark refl) (omega arith) in
    let inside : length front < length (front ++ mark ∷ rest) = omega (arith, length-append front (mark ∷ rest)) in
    rw (at, lt-ltb (length front) (length (front ++ mark ∷ rest)) inside, take-append_seam, drop-append-add) refl

-- the text before the mark, the mark and the rest are the text
parts_at : (mark : ℕ) (text : List ℕ) (at : ℕ) → position (λ byte. eqb byte mark) text ≡ Some at → text ≡ take at text ++ mark ∷ drop (at + 1) text
parts_at mark text at e =
    let found = position-Some (λ byte. eqb byte mark) text at 0 e in
    let here : get_or text at 0 ≡ mark = eqb-true (get_or text at 0) mark found.1 in
    let rest : drop at text ≡ mark ∷ drop (at + 1) text = rw add-one (drop-cons text at 0 found.0 ∙ ap (λ (b : ℕ). b ∷ drop (suc at) text) here) in
    sym (take-append-drop at text) ∙ ap (λ (r : List ℕ). take at text ++ r) rest

parts_by : (mark : ℕ) (text : List ℕ) (o : Option ℕ) (p : List ℕ × List ℕ) → position (λ byte. eqb byte mark) text ≡ o
    → (o >>= λ at. Some (take at text, drop (at + 1) text)) ≡ Some p → text ≡ p.0 ++ mark ∷ p.1
parts_by mark text None p e f = absurd (cc)
parts_by mark text (Some at) p e f =
    let same : (take at text, drop (at + 1) text) ≡ p = cc in
    parts_at mark text at e ∙ ap (λ (q : List ℕ × List ℕ). q.0 ++ mark ∷ q.1) same

pub cut-parts : (mark : ℕ) (text : List ℕ) (p : List ℕ × List ℕ) → cut mark text ≡ Some p → text ≡ p.0 ++ mark ∷ p.1
cut-parts mark text p f = parts_by mark text (position (λ byte. eqb byte mark) text) p refl f
