-- A step keeps the average near the exact one: what it rounds away is less than the weight of the exact one's distance.
use Rattle.std.proofs.Common.{◌≡◌, ◌≤◌, ◌<◌, ◌+◌, ◌*◌, ◌/◌, ◌%◌, ◌^◌, ℕ, zero, suc, sym, ap, subst, ◌∙◌, arith}
use Rattle.std.proofs.Math.Nat.{pow-succ', mul-le-mul_left}
use Rattle.std.proofs.lemmas.Bool.Decides.{nat_tests}
use Rattle.red_average.specs.Average.{stepped, idled, idle_steps, moved}
use Rattle.red_average.specs.Exact.{IsNear}

next_power : (b n : ℕ) → b ^ (n + 1) ≡ b * b ^ n
next_power b n = ap (λ k. b ^ k) (omega arith) ∙ pow-succ' b n

record IsNearer (p exact q b : ℕ) : Type 0 where
  least : 511 * exact + 4096 * q * (512 * p) ≤ 512 * p * b
  most : 512 * p * b < 511 * exact + 4096 * q * (512 * p) + 512 * (512 * p)

nearer : (p exact q a k r b : ℕ) → exact ≤ p * a → p * a < exact + 512 * p → a ≡ 512 * k + r → r ≤ 511
    → b + k ≡ a + 4096 * q → IsNearer p exact q b
nearer p exact q a k r b least most parts small step =
    let one : p * (b + k) ≡ p * (a + 4096 * q) = ap (λ z. p * z) step in
    let two : p * a ≡ p * (512 * k + r) = ap (λ z. p * z) parts in
    let three = mul-le-mul_left p small in
    record { least = omega (arith, one, two, three, least); most = omega (arith, one, two, three, most) }

parts_of : (a : ℕ) → a ≡ 512 * (a / 512) + a % 512
parts_of a = omega arith

step_of : (a q : ℕ) → stepped q a + a / 512 ≡ a + 4096 * q
step_of a q = omega arith

pub near_stepped : (n exact q a : ℕ) → IsNear n exact a
    → IsNear (n + 1) (511 * exact + 4096 * q * 512 ^ (n + 1)) (stepped q a)
near_stepped n exact q a h =
    let power = next_power 512 n in
    let above = next_power 512 (n + 1) in
    let most : 512 ^ n * a < exact + 512 * 512 ^ n = omega (arith, h.most, power) in
    let near = nearer (512 ^ n) exact q a (a / 512) (a % 512) (stepped q a) h.least most (parts_of a) (omega arith) (step_of a q) in
    let P : ℕ → Type 0 = λ p. 511 * exact + 4096 * q * p ≤ p * stepped q a in
    let Q : ℕ → Type 0 = λ p. p * stepped q a < 511 * exact + 4096 * q * p + 512 * p in
    let below : 512 ^ (n + 1) * stepped q a < 511 * exact + 4096 * q * 512 ^ (n + 1) + 512 * 512 ^ (n + 1) = subst Q (sym power) near.most in
    record {
      least = subst P (sym power) near.least;
      most = omega (arith, below, above);
    }

same_near : (n m x y a : ℕ) → n ≡ m → x ≡ y → IsNear n x a → IsNear m y a
same_near n m x y a e f h =
    let P : ℕ → Type 0 = λ k. IsNear k x a in
    let Q : ℕ → Type 0 = λ z. IsNear m z a in
    subst Q f (subst P e h)

same_exact : (m exact p : ℕ) → 511 ^ m * (511 * exact + 4096 * 0 * p) ≡ 511 ^ suc m * exact
same_exact m exact p =
    let power = pow-succ' 511 m in
    let both : 511 ^ suc m * exact ≡ 511 * 511 ^ m * exact = ap (λ z. z * exact) power in
    omega (arith, both)

pub near_idled : (m n exact a : ℕ) → IsNear n exact a → IsNear (n + m) (511 ^ m * exact) (idled m a)
near_idled zero n exact a h = same_near n (n + 0) exact (511 ^ 0 * exact) a (omega arith) (omega arith) h
near_idled (suc m) n exact a h = same_near (n + 1 + m) (n + suc m) (511 ^ m * (511 * exact + 4096 * 0 * 512 ^ (n + 1))) (511 ^ suc m * exact)
    (idled m (stepped 0 a)) (omega arith) (same_exact m exact (512 ^ (n + 1)))
    (near_idled m (n + 1) (511 * exact + 4096 * 0 * 512 ^ (n + 1)) (stepped 0 a) (near_stepped n exact 0 a h))

-- the same of an arrival that finds some packet, and of one that finds none
moved_some : (step idle now q a : ℕ) → 0 < q → moved step idle now q a ≡ stepped q a
moved_some step idle now q a h = grind (arith, nat_tests)

pub near_some : (n exact step idle now q a r : ℕ) → r ≡ moved step idle now q a → 0 < q → IsNear n exact a
    → IsNear (n + 1) (511 * exact + 4096 * q * 512 ^ (n + 1)) r
near_some n exact step idle now q a r e some h =
    let P : ℕ → Type 0 = λ z. IsNear (n + 1) (511 * exact + 4096 * q * 512 ^ (n + 1)) z in
    subst P (sym (e ∙ moved_some step idle now q a some)) (near_stepped n exact q a h)

moved_none : (step idle now q a : ℕ) → q ≡ 0 → moved step idle now q a ≡ idled (idle_steps step idle now) a
moved_none step idle now q a h = grind (arith, nat_tests)

pub near_none : (n exact step idle now q a r : ℕ) → r ≡ moved step idle now q a → q ≡ 0 → IsNear n exact a
    → IsNear (n + idle_steps step idle now) (511 ^ idle_steps step idle now * exact) r
near_none n exact step idle now q a r e none h =
    let m = idle_steps step idle now in
    let P : ℕ → Type 0 = λ z. IsNear (n + m) (511 ^ m * exact) z in
    subst P (sym (e ∙ moved_none step idle now q a none)) (near_idled m n exact a h)
