-- A packet that is kept between the thresholds is counted, and the count has not used up the spacing of drops.
use Rattle.std.proofs.Common.{◌≡◌, ◌≤◌, ◌<◌, ◌*◌, ◌^◌, ℕ, ℤ, pos, negsuc, ◌≤ℤ◌, ◌<ℤ◌, ◌+ℤ◌, ◌*ℤ◌, arith}
use Rattle.std.proofs.lemmas.Int.{ints}
use Rattle.std.proofs.Math.Nat.{mul-le-mul_left}
use Rattle.red_average.specs.Ruling.{next_count, spacing}

record Counts (z : ℤ) (c x width : ℕ) : Type 0 where
  rises : pos c ≡ z +ℤ pos 1
  below : c * x < spacing width

counts : (z : ℤ) (c x over width : ℕ) → c ≡ next_count z → negsuc 0 ≤ℤ z → 1 ≤ x → x ≤ over → width ≤ 2 ^ 54
    → c * over < spacing width → Counts z c x width
counts (pos k) c x over width e least some le small room =
    let one = mul-le-mul_left c some in
    let two = mul-le-mul_left c le in
    record { rises = omega (arith, ints, e, one, two, room, small); below = omega (arith, two, room) }
counts (negsuc k) c x over width e least some le small room =
    let two = mul-le-mul_left c le in
    record { rises = omega (arith, ints, e, least); below = omega (arith, two, room) }

pub counted : (z : ℤ) (c x over width : ℕ) → c ≡ next_count z → negsuc 0 ≤ℤ z → 1 ≤ x → x ≤ over → width ≤ 2 ^ 54
    → c * over < spacing width → (pos c ≡ z +ℤ pos 1) × ((pos c *ℤ pos x) <ℤ pos (spacing width))
counted z c x over width e least some le small room =
    let all = counts z c x over width e least some le small room in
    (all.rises, omega (arith, ints, all.below))
