use Rattle.std.proofs.Common.{◌≡◌, ◌-◌, arith, sym, subst, pos, ℤ, ◌+ℤ◌, ◌*ℤ◌, ◌<ℤ◌, w64}
use Rattle.std.proofs.lemmas.Int.{to_z-of_z, to_z_pos}
use Rattle.red_average.specs.Ruling.{next_count, spacing}
use Rattle.red_average.proofs.Counting.{counted}
use Rattle.red_average.proofs.ruling.between.Goals as goal

pub returns-clause-law : goal.returns-clause-law
returns-clause-law c = λ x some over kept.
    let t = c.args.thresholds in
    let n = c.next_count-count.result in
    let z : ℤ = c.args.count in
    let Q : ℤ → Type 0 = λ y. n ≡ next_count y in
    let law = counted z n x (c.args.average - t.low) (t.high - t.low)
    (subst Q (to_z-of_z w64 z c.ranges.count) c.next_count-count.ensures.value) c.requires.least some (omega arith) (omega arith)
    (omega (arith, c.spacing_left-spacing_left.ensures.value, c.if-spacing_left-eq0.false)) in
    let P : ℤ → Type 0 = λ y. (y ≡ z +ℤ pos 1) × ((y *ℤ pos x) <ℤ pos (spacing (t.high - t.low))) in
    subst P (sym (to_z_pos w64 n (omega (arith, c.next_count-count.ensures.most)))) law
