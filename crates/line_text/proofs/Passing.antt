-- One step along a line: past a byte, and past a continuation.
use Rattle.std.proofs.Common.{◌≡◌, ℕ, zero, suc, ◌+◌, ◌-◌, ◌<◌, ◌≤◌, true, false, cond, List, [], ◌∷◌, length, drop, get_or, max, refl, sym, ap, subst, arith, eqb, nat_lt}
use Rattle.std.proofs.lemmas.List.{drop_more, drop-drop}
use Rattle.std.proofs.lemmas.Bool.Decides.{nat_tests}
use Rattle.line_text.specs.Lines.{continuation_len, line_len, line_len_after, joined, joined_after, ends}

line_len_after-within : (inside : ℕ) (text : List ℕ) → inside ≤ length text → line_len_after inside text ≡ inside + line_len (drop inside text)
line_len_after-within zero text h = omega arith
line_len_after-within (suc inside) [] h = absurd (omega arith)
line_len_after-within (suc inside) (byte ∷ text) h =
    let e : line_len_after inside text ≡ inside + line_len (drop inside text) = line_len_after-within inside text (omega arith) in omega arith

joined_after-within : (inside : ℕ) (line : List ℕ) → joined_after inside line ≡ joined (drop inside line)
joined_after-within zero line = refl
joined_after-within (suc inside) [] = refl
joined_after-within (suc inside) (byte ∷ line) = joined_after-within inside line

line_len-cons : (byte : ℕ) (text : List ℕ) (step : ℕ) → eqb byte 10 ≡ false → eqb byte 35 ≡ false → continuation_len (byte ∷ text) ≤ suc (length text) → step ≡ max (continuation_len (byte ∷ text)) 1
    → line_len (byte ∷ text) ≡ step + line_len (drop step (byte ∷ text))
line_len-cons byte text step feed hash fits is_step =
    let j = continuation_len (byte ∷ text) in
    let e : line_len_after (j - 1) text ≡ (j - 1) + line_len (drop (j - 1) text) = line_len_after-within (j - 1) text (omega arith) in
    let s : step ≡ suc (j - 1) = omega arith in
    rw (s, feed, hash) (omega arith)

positive : (j : ℕ) → 0 < j → nat_lt 0 j ≡ true
positive j h = grind (arith, nat_tests)

joined-by : (j byte : ℕ) (line : List ℕ) → cond (nat_lt 0 j) (32 ∷ joined_after (j - 1) line) (byte ∷ joined_after 0 line) ≡ cond (nat_lt 0 j) 32 byte ∷ joined (drop (max j 1) (byte ∷ line))
joined-by zero byte line = refl
joined-by (suc j) byte line =
    let m : max (suc j) 1 ≡ suc j = omega arith in
    let p : suc j - 1 ≡ j = omega arith in
    rw (positive (suc j) (omega arith), m, p) (ap (λ rest. 32 ∷ rest) (joined_after-within j line))

joined-cons : (byte : ℕ) (line : List ℕ) → ends byte ≡ false
    → joined (byte ∷ line) ≡ cond (nat_lt 0 (continuation_len (byte ∷ line))) 32 byte ∷ joined (drop (max (continuation_len (byte ∷ line)) 1) (byte ∷ line))
joined-cons byte line h = rw h (joined-by (continuation_len (byte ∷ line)) byte line)

-- a line's length, one step on
pub line_len-step : (text : List ℕ) (at step : ℕ) → at < length text → eqb (get_or text at 0) 10 ≡ false → eqb (get_or text at 0) 35 ≡ false
    → continuation_len (drop at text) ≤ length (drop at text) → step ≡ max (continuation_len (drop at text)) 1 → line_len (drop at text) ≡ step + line_len (drop (at + step) text)
line_len-step text at step inside feed hash =
    let d : drop at text ≡ get_or text at 0 ∷ drop (at + 1) text = drop_more text at 0 inside in
    let P : List ℕ → Type 0 = λ rest. continuation_len rest ≤ length rest → step ≡ max (continuation_len rest) 1 → line_len rest ≡ step + line_len (drop step rest) in
    let p = subst P (sym d) (λ fits is_step. line_len-cons _ _ step feed hash fits is_step) in
    λ fits is_step. rw drop-drop at (p fits is_step)

-- a joined line, one step on
pub joined-step : (line : List ℕ) (at : ℕ) → at < length line → ends (get_or line at 0) ≡ false
    → joined (drop at line) ≡ cond (nat_lt 0 (continuation_len (drop at line))) 32 (get_or line at 0) ∷ joined (drop (at + max (continuation_len (drop at line)) 1) line)
joined-step line at inside on =
    let d : drop at line ≡ get_or line at 0 ∷ drop (at + 1) line = drop_more line at 0 inside in
    let P : List ℕ → Type 0 = λ rest. joined rest ≡ cond (nat_lt 0 (continuation_len rest)) 32 (get_or line at 0) ∷ joined (drop (max (continuation_len rest) 1) rest) in
    rw drop-drop at (subst P (sym d) (joined-cons _ _ on))
