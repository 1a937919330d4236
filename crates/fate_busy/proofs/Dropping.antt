-- The numbers that rows drop.
use Rattle.std.proofs.Common.{◌≡◌, ◌∙◌, ◌+◌, ◌≤◌, ℕ, Bool, List, [], ◌∷◌, length, ap, arith}
use Rattle.std.specs.Prelude.{nat_lt}
use Rattle.std.proofs.lemmas.List.{take_all}
use Rattle.altq_model.specs.declared.Fate.{Fate}
use Rattle.altq_model.specs.declared.Fate.TheVariants.{Dropped, Sent}
use Rattle.altq_model.specs.Idle.{dropped, dropped_of}
use Rattle.altq_model.specs.Laws.{occurs}
use Rattle.fate_check.specs.declared.reading.Row.{Row}
use Rattle.fate_judge.specs.Given.{decisions}
use Rattle.fate_judge.specs.Walk.{newest_first}
use Rattle.fate_judge.proofs.Walking.{before_at}
use Rattle.fate_busy.specs.Busy.{AreDropped}

moved : (n m : ℕ) (f : Fate) (ns ms : List ℕ) → occurs n ns + occurs n (dropped_of m f ms) ≡ occurs n (dropped_of m f ns) + occurs n ms
moved n m (Dropped reason) ns ms = omega arith
moved n m (Sent start end rule) ns ms = omega arith

dropped_newest : (n : ℕ) (rows before : List Row)
    → occurs n (dropped (decisions (newest_first rows before))) ≡ occurs n (dropped (decisions rows)) + occurs n (dropped (decisions before))
dropped_newest n [] before = omega arith
dropped_newest n (r ∷ rows) before =
    dropped_newest n rows (r ∷ before) ∙ moved n r.number r.fate (dropped (decisions rows)) (dropped (decisions before))

-- the newest first or last, the same are dropped
pub dropped_by_all : (rows : List Row) (i : ℕ) (gone : List Bool) → length rows ≤ i → AreDropped gone (before_at rows i) → AreDropped gone rows
dropped_by_all rows i gone le h = λ k lt.
    let taken = ap (λ (xs : List Row). occurs (k + 1) (dropped (decisions (newest_first xs [])))) (take_all i rows le) in
    let whole : occurs (k + 1) (dropped (decisions (before_at rows i))) ≡ occurs (k + 1) (dropped (decisions rows))
    = omega (arith, taken, dropped_newest (k + 1) rows []) in
    h k lt ∙ ap (λ (m : ℕ). nat_lt 0 m) whole
