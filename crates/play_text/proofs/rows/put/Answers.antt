use Rattle.std.proofs.Common.{◌≡◌, ◌≤◌, List, ℕ, arith, length, subst, sym}
use Rattle.play_text.proofs.RowLemmas.{row_longer}
use Rattle.play_text.proofs.rows.put.Goals as goal

-- a field is as long as its text
short : (n : ℕ) (text bytes : List ℕ) → length text ≤ n → bytes ≡ text → length bytes ≤ n
short n text bytes l e = subst (λ (t : List ℕ). length t ≤ n) (sym e) l

-- the digits of a number are a field that is short enough
few : (bytes : List ℕ) → length bytes ≤ 20 → length bytes ≤ 40
few bytes l = omega (arith, l)

pub returns-clause-longer : goal.returns-clause-longer
returns-clause-longer c = λ t.
    row_longer _ _ _ _ _ _ _ _ _ (few _ c.as_bytes.ensures.short) (few _ c.as_bytes-2.ensures.short) (few _ c.as_bytes-3.ensures.short)
    (short 64 _ _ c.requires.class c.as_bytes-4.ensures.value) (short 8 _ _ c.requires.word c.as_bytes-5.ensures.value)
    c.requires.start c.requires.end (c.add_row.ensures.text t)
