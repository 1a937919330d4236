-- The pieces between colons, and the groups that they write.
use Rattle.std.proofs.Common.{◌≡◌, ℕ, suc, ◌+◌, ◌<◌, ◌≤◌, ◌++◌, ◌&&◌, Bool, true, false, not, cond, if◌then◌else◌, List, [], ◌∷◌, Option, Some, None, option_and_then, IfSome, IsSomeAnd, ◌/◌, ◌%◌, length, take, drop, refl, sym, ap, subst, arith, eqb, nat_lt, nat_le}
use Rattle.std.proofs.lemmas.List.{append_assoc, append-nil, length-append, length-drop}
use Rattle.std.proofs.lemmas.Bool.Decides.{nat_tests}
use Rattle.std.specs.List.{prefix_len}
use Rattle.line_text.specs.Numbers.{number, cut, ◌>>=◌}
use Rattle.line_text.specs.Words.{with_first}
use Rattle.line_text.specs.Addresses.{pieces, group, groups, gap_from}

-- groups behind these bytes, at most 16 bytes in all
abbrev pub capped : List ℕ → Option (List ℕ) → Option (List ℕ)
capped front None = None
capped front (Some more) = if nat_le (length (front ++ more)) 16 then Some (front ++ more) else None

abbrev no_colon : ℕ → Bool
no_colon byte = not (eqb byte 58)

abbrev IsCutAt : List ℕ → Type 0
IsCutAt text = prefix_len no_colon text < length text
    → pieces text ≡ take (prefix_len no_colon text) text ∷ pieces (drop (prefix_len no_colon text + 1) text)

pieces-by : (byte : ℕ) (text : List ℕ) → IsCutAt text → (is : Bool) → eqb byte 58 ≡ is → IsCutAt (byte ∷ text)
pieces-by byte text rest true is h = rw is refl
pieces-by byte text rest false is h =
    let n = prefix_len no_colon text in
    let e : prefix_len no_colon (byte ∷ text) ≡ suc n = rw is (omega arith) in
    let p : suc n + 1 ≡ suc (n + 1) = omega arith in
    rw (e, is, p) (ap (with_first byte) (rest (omega (arith, e))))

pieces-at : (text : List ℕ) → IsCutAt text
pieces-at [] h = absurd (omega arith)
pieces-at (byte ∷ text) h = pieces-by byte text (pieces-at text) (eqb byte 58) refl h

abbrev IsWhole : List ℕ → Type 0
IsWhole text = length text ≤ prefix_len no_colon text → pieces text ≡ text ∷ []

whole-by : (byte : ℕ) (text : List ℕ) → IsWhole text → (is : Bool) → eqb byte 58 ≡ is → IsWhole (byte ∷ text)
whole-by byte text rest true is h =
    let e : prefix_len no_colon (byte ∷ text) ≡ 0 = rw is refl in absurd (omega (arith, e))
whole-by byte text rest false is h =
    let e : prefix_len no_colon (byte ∷ text) ≡ 1 + prefix_len no_colon text = rw is refl in
    rw is (ap (with_first byte) (rest (omega (arith, e))))

pieces-whole : (text : List ℕ) → IsWhole text
pieces-whole [] h = refl
pieces-whole (byte ∷ text) h = whole-by byte text (pieces-whole text) (eqb byte 58) refl h

below-by : (m n : ℕ) → nat_lt m n ≡ true → m < n
below-by m n h = grind (arith, nat_tests)

above-by : (m n : ℕ) → nat_lt m n ≡ false → n ≤ m
above-by m n h = grind (arith, nat_tests)

-- what a cut at a colon says of the pieces
abbrev Cuts : List ℕ → Option (List ℕ × List ℕ) → Type 0
Cuts text None = pieces text ≡ text ∷ []
Cuts text (Some parts) = pieces text ≡ parts.0 ∷ pieces parts.1

cut-by : (text : List ℕ) (is : Bool) → nat_lt (prefix_len no_colon text) (length text) ≡ is
    → Cuts text (option_and_then (λ at. Some (take at text, drop (at + 1) text)) (cond is (Some (prefix_len no_colon text)) None))
cut-by text true is = pieces-at text (below-by _ _ is)
cut-by text false is = pieces-whole text (above-by _ _ is)

cuts : (text : List ℕ) → Cuts text (cut 58 text)
cuts text = cut-by text (nat_lt (prefix_len no_colon text) (length text)) refl

pub pieces_cut : (text first behind : List ℕ) → Some (first, behind) ≡ cut 58 text → pieces text ≡ first ∷ pieces behind
pieces_cut text first behind h = let P : Option (List ℕ × List ℕ) → Type 0 = Cuts text in subst P (sym h) (cuts text)

pub pieces_none : (text : List ℕ) → None ≡ cut 58 text → pieces text ≡ text ∷ []
pieces_none text h = let P : Option (List ℕ × List ℕ) → Type 0 = Cuts text in subst P (sym h) (cuts text)

and-false : (a : Bool) → (a && false) ≡ false
and-false true = refl
and-false false = refl

gap_from-short : (at : ℕ) (text : List ℕ) → length text ≤ 1 → gap_from at text ≡ None
gap_from-short at [] h = refl
gap_from-short at (byte ∷ []) h = rw (and-false (eqb byte 58)) refl
gap_from-short at (byte ∷ next ∷ text) h = absurd (omega arith)

pub gap_from-last : (text : List ℕ) (at : ℕ) → length text ≤ at + 1 → gap_from at (drop at text) ≡ None
gap_from-last text at h = gap_from-short at (drop at text) (omega (arith, length-drop at text))

-- a group's bytes and those of the groups behind it
abbrev both : Option (List ℕ) → Option (List ℕ) → Option (List ℕ)
both first rest = first >>= λ bytes. rest >>= λ more. Some (bytes ++ more)

above : (m n : ℕ) → n < m → nat_le m n ≡ false
above m n h = grind (arith, nat_tests)

within : (m n : ℕ) → m ≤ n → nat_le m n ≡ true
within m n h = grind (arith, nat_tests)

pair_len_by : (is : Bool) (n : ℕ) → IfSome (cond is (Some (n / 256 ∷ n % 256 ∷ [])) None) (λ pair. length pair ≡ 2)
pair_len_by true n = refl
pair_len_by false n = tt

pair_len : (text : List ℕ) (value : Option ℕ)
    → IfSome (value >>= λ n. if nat_le (length text) 4 then Some (n / 256 ∷ n % 256 ∷ []) else None) (λ pair. length pair ≡ 2)
pair_len text None = tt
pair_len text (Some n) = pair_len_by (nat_le (length text) 4) n

refused-by : (first rest : Option (List ℕ)) (front : List ℕ) → IfSome first (λ pair. length pair ≡ 2) → IfSome first (λ _. 14 < length front)
    → capped front (both first rest) ≡ None
refused-by None rest front two full = refl
refused-by (Some pair) None front two full = refl
refused-by (Some pair) (Some more) front two full =
    let l : 16 < length (front ++ (pair ++ more)) = omega (arith, length-append front (pair ++ more), length-append pair more) in
    rw (above (length (front ++ (pair ++ more))) 16 l) refl

step-by : (first rest : Option (List ℕ)) (front after : List ℕ) → IsSomeAnd first (λ pair. after ≡ front ++ pair) → capped front (both first rest) ≡ capped after rest
step-by None rest front after h = absurd h
step-by (Some pair) None front after h = refl
step-by (Some pair) (Some more) front after h = rw (h, append_assoc) refl

pub capped-refused : (front piece : List ℕ) (rest : List (List ℕ)) → IfSome (group piece) (λ _. 14 < length front) → capped front (groups (piece ∷ rest)) ≡ None
capped-refused front piece rest full = refused-by (group piece) (groups rest) front (pair_len piece (number 16 piece)) full

pub capped-step : (front after piece : List ℕ) (rest : List (List ℕ)) → IsSomeAnd (group piece) (λ pair. after ≡ front ++ pair)
    → capped front (groups (piece ∷ rest)) ≡ capped after (groups rest)
capped-step front after piece rest h = step-by (group piece) (groups rest) front after h

pub capped-end : (front : List ℕ) → length front ≤ 16 → capped front (groups []) ≡ Some front
capped-end front h = rw append-nil (rw (within (length front) 16 h) refl)
