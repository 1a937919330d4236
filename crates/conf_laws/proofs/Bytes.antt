-- What holds of each byte of a text: it may stand in a NAME, or is not a mark. And where a text is cut at a mark.
use Rattle.std.proofs.Common.{◌≡◌, ℕ, ◌+◌, ◌<◌, ◌≤◌, ◌++◌, ◌&&◌, not, true, false, List, [], ◌∷◌, Some, None, length, nat_le, eqb, eq-eqb, refl, ap, ◌∙◌, arith, lt-ltb, le-ltb}
use Rattle.std.proofs.Math.Seq.{take-append_seam, drop-append-add}
use Rattle.std.proofs.lemmas.Bool.{and_parts}
use Rattle.std.proofs.lemmas.Bool.Decides.{nat_tests}
use Rattle.std.proofs.lemmas.List.{append-nil, length-append}
use Rattle.std.specs.List.{AllByRecursion as Every, prefix_len}
use Rattle.line_text.specs.Names.{is_name_byte, are_name_bytes, is_name}
use Rattle.line_text.specs.Numbers.{cut}

pub every-append : {X : Type 0} (P : X → Type 0) (front back : List X) → Every P front → Every P back → Every P (front ++ back)
every-append P [] back f b = b
every-append P (x ∷ front) back f b = (f.0, every-append P front back f.1 b)

pub every-weaker : {X : Type 0} (P Q : X → Type 0) → ((x : X) → P x → Q x) → (xs : List X) → Every P xs → Every Q xs
every-weaker P Q weaker [] h = tt
every-weaker P Q weaker (x ∷ xs) h = (weaker x h.0, every-weaker P Q weaker xs h.1)

-- texts, each behind a mark
abbrev pub behind : ℕ → List (List ℕ) → List ℕ
behind mark [] = []
behind mark (text ∷ texts) = mark ∷ (text ++ behind mark texts)

-- NAMES
abbrev pub OfName : ℕ → Type 0
OfName byte = is_name_byte byte ≡ true

-- a word of 1 to `limit` bytes, each one that a NAME may have
pub record IsWord (limit : ℕ) (word : List ℕ) : Type 0 where
  pub some : 1 ≤ length word
  pub most : length word ≤ limit
  pub bytes : Every OfName word

every_of_name : (word : List ℕ) → are_name_bytes word ≡ true → Every OfName word
every_of_name [] h = tt
every_of_name (byte ∷ word) h =
    let parts = and_parts (is_name_byte byte) (are_name_bytes word) h in (parts.0, every_of_name word parts.1)

pub name_is_word : (word : List ℕ) → is_name word ≡ true → IsWord 64 word
name_is_word word h =
    let parts = and_parts (nat_le 1 (length word) && nat_le (length word) 64) (are_name_bytes word) h in
    record { some = grind (arith, nat_tests); most = grind (arith, nat_tests); bytes = every_of_name word parts.1 }

-- two words with a mark between them
pub beside : {m n : ℕ} {a b : List ℕ} (mark : ℕ) → OfName mark → IsWord m a → IsWord n b → IsWord (m + (1 + n)) (a ++ mark ∷ b)
beside {m} {n} {a} {b} mark of_name first second =
    let len = length-append a (mark ∷ b) in
    record { some = omega arith; most = omega arith; bytes = every-append OfName a (mark ∷ b) first.bytes (of_name, second.bytes) }

pub longer : {m : ℕ} (n : ℕ) {word : List ℕ} → IsWord m word → m ≤ n → IsWord n word
longer {m} n is few = record { some = is.some; most = omega arith; bytes = is.bytes }

-- MARKS
abbrev pub IsNot : ℕ → ℕ → Type 0
IsNot mark byte = eqb byte mark ≡ false

abbrev pub Lacks : ℕ → List ℕ → Type 0
Lacks mark text = Every (IsNot mark) text

prefix-front : (mark : ℕ) (front rest : List ℕ) → Lacks mark front
    → prefix_len (λ byte. not (eqb byte mark)) (front ++ rest) ≡ length front + prefix_len (λ byte. not (eqb byte mark)) rest
prefix-front mark [] rest h = omega arith
prefix-front mark (byte ∷ front) rest h = rw h.0 (ap (λ n. 1 + n) (prefix-front mark front rest h.1) ∙ omega arith)

pub cut-front : (mark : ℕ) (front rest : List ℕ) → Lacks mark front → cut mark (front ++ mark ∷ rest) ≡ Some (front, rest)
cut-front mark front rest h =
    let at : prefix_len (λ byte. not (eqb byte mark)) (front ++ mark ∷ rest) ≡ length front =
    prefix-front mark front (mark ∷ rest) h ∙ rw (eq-eqb mark mark refl) (omega arith) in
    let inside : length front < length (front ++ mark ∷ rest) = omega (arith, length-append front (mark ∷ rest)) in
    rw (at, lt-ltb (length front) (length (front ++ mark ∷ rest)) inside, take-append_seam, drop-append-add) refl

pub cut-none : (mark : ℕ) (text : List ℕ) → Lacks mark text → cut mark text ≡ None
cut-none mark text h =
    let all : prefix_len (λ byte. not (eqb byte mark)) text ≡ length text = rw append-nil at (prefix-front mark text [] h) ∙ omega arith in
    rw (all, le-ltb (length text) (length text) (omega arith)) refl
