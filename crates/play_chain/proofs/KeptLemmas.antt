-- The numbers and the decisions of what was kept of a play.
use Rattle.std.proofs.Common.{◌≡◌, ◌≤◌, ℕ, Bool, true, false, List, [], ◌∷◌, length, refl, ap, arith}
use Rattle.std.specs.Prelude.{◌&&◌, nat_lt, nat_le, if◌then◌else◌}
use Rattle.altq_model.specs.Arrivals.{Captured}
use Rattle.altq_model.specs.History.{Decision}
use Rattle.altq_model.specs.Laws.{IsConserved, numbers, occurs}
use Rattle.play_loop.specs.KeptFates.{kept_fates}
use Rattle.play_chain.specs.Path.{decisions_of, numbers_of}

pub numbers_kept : (arrived : List Captured) (js : List Decision) → numbers_of (kept_fates arrived js) ≡ numbers js
numbers_kept arrived [] = refl
numbers_kept arrived (d ∷ js) = ap (λ (ns : List ℕ). d.0 ∷ ns) (numbers_kept arrived js)

pub decisions_kept : (arrived : List Captured) (js : List Decision) → decisions_of (kept_fates arrived js) ≡ js
decisions_kept arrived [] = refl
decisions_kept arrived (d ∷ js) = ap (λ (ks : List Decision). d ∷ ks) (decisions_kept arrived js)

one_at_most : (b : Bool) → (if b then 1 else 0) ≤ 1
one_at_most true = omega arith
one_at_most false = omega arith

-- a whole play decides of each number once
pub once_kept : (arrived : List Captured) (js : List Decision) → IsConserved (length arrived) js → (n : ℕ) → occurs n (numbers_of (kept_fates arrived js)) ≤ 1
once_kept arrived js c n =
    omega (arith, ap (λ (ns : List ℕ). occurs n ns) (numbers_kept arrived js), c n, one_at_most (nat_lt 0 n && nat_le n (length arrived)))
