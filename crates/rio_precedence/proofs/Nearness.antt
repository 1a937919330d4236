-- What nothing rounds moves as the average does, and stays near it.
use Rattle.std.proofs.Common.{◌≡◌, ◌+◌, ◌*◌, ◌^◌, ◌==◌, ℕ, zero, suc, Bool, true, false, List, [], ◌∷◌, ap, subst, ◌∙◌, arith}
use Rattle.std.proofs.Math.Nat.{pow-succ'}
use Rattle.std.specs.Prelude.{if◌then◌else◌, nat_le}
use Rattle.leaf_queue.specs.Queue.{QueueEvent, Enqueued, Dequeued}
use Rattle.red_average.specs.Average.{stepped, idled, idle_steps, moved}
use Rattle.red_average.specs.Exact.{IsNear}
use Rattle.red_average.specs.Red as red
use Rattle.red_average.proofs.Near.{near_stepped}
use Rattle.rio_precedence.specs.Precedence.{seen}
use Rattle.rio_precedence.specs.Rio as rio
use Rattle.rio_precedence.specs.Exactly.{Exact, exact_stepped, exact_idled, exact_moved, exact_of, exact_of_precedence}

record Over (e : Exact) (a : ℕ) : Type 0 where
  near : IsNear e.steps e.top a

same_top : (n q t : ℕ) → 511 * t + 4096 * q * 512 ^ (n + 1) ≡ 511 * t + 2 ^ 21 * q * 512 ^ n
same_top n q t =
    let power : 512 ^ (n + 1) ≡ 512 * 512 ^ n = ap (λ k. 512 ^ k) (omega arith) ∙ pow-succ' 512 n in
    let both : 4096 * q * 512 ^ (n + 1) ≡ 4096 * q * (512 * 512 ^ n) = ap (λ z. 4096 * q * z) power in
    omega (arith, both)

over_stepped : (q : ℕ) (e : Exact) (a : ℕ) → Over e a → Over (exact_stepped q e) (stepped q a)
over_stepped q e a h =
    let P : ℕ → Type 0 = λ t. IsNear (e.steps + 1) t (stepped q a) in
    record { near = subst P (same_top e.steps q e.top) (near_stepped e.steps e.top q a h.near) }

over_idled : (m : ℕ) (e : Exact) (a : ℕ) → Over e a → Over (exact_idled m e) (idled m a)
over_idled zero e a h = h
over_idled (suc m) e a h = over_idled m (exact_stepped 0 e) (stepped 0 a) (over_stepped 0 e a h)

over_if : (b : Bool) (e f : Exact) (x y : ℕ) → Over e x → Over f y → Over (if b then e else f) (if b then x else y)
over_if true e f x y h k = h
over_if false e f x y h k = k

over_moved : (step idle now q : ℕ) (e : Exact) (a : ℕ) → Over e a → Over (exact_moved step idle now q e) (moved step idle now q a)
over_moved step idle now q e a h =
    let m = idle_steps step idle now in
    over_if (q == 0) (exact_idled m e) (exact_stepped q e) (idled m a) (stepped q a) (over_idled m e a h) (over_stepped q e a h)

over_red : (step : ℕ) (q : List QueueEvent) → Over (exact_of step q) (red.average_of step q)
over_red step [] = record { near = record { least = omega arith; most = omega arith } }
over_red step (Enqueued now waiting prec w v ∷ q) =
    over_moved step (red.idle_of q) now waiting.all (exact_of step q) (red.average_of step q) (over_red step q)
over_red step (Dequeued now prec waiting ∷ q) = over_red step q

over_rio : (step j : ℕ) (q : List QueueEvent) → Over (exact_of_precedence step j q) (rio.average_of step j q)
over_rio step j [] = record { near = record { least = omega arith; most = omega arith } }
over_rio step j (Enqueued now waiting prec w v ∷ q) =
    let e = exact_of_precedence step j q in
    let a = rio.average_of step j q in
    let idle = rio.idle_of j q in
    let here = over_rio step j q in
    over_if (nat_le prec j) (exact_moved step idle now (seen j waiting) e) e (moved step idle now (seen j waiting) a) a
    (over_moved step idle now (seen j waiting) e a here) here
over_rio step j (Dequeued now prec waiting ∷ q) = over_rio step j q

pub near_red : (step : ℕ) (q : List QueueEvent) → IsNear (exact_of step q).steps (exact_of step q).top (red.average_of step q)
near_red step q = (over_red step q).near

pub near_rio : (step j : ℕ) (q : List QueueEvent)
    → IsNear (exact_of_precedence step j q).steps (exact_of_precedence step j q).top (rio.average_of step j q)
near_rio step j q = (over_rio step j q).near
