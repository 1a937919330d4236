use Rattle.std.proofs.Common.{◌≡◌, ◌<◌, ◌/◌, ℕ, arith, get_or, subst}
use Rattle.class_sets.specs.Held.{HeldBack}
use Rattle.class_sets.specs.Marked.{marked}
use Rattle.class_sets.proofs.held.HeldClasses.wake.Goals as goal

pub returns-else-now-self-clause-late : goal.returns-else-now-self-clause-late
returns-else-now-self-clause-late c =
    let i = c.self.invariant in
    let P : HeldBack → Type 0 = λ v. (k : ℕ) → marked v.set k ≡ 1 → c.args.now < get_or v.moments k 0 in
    subst P c.self.view_is (λ k e.
    let few = i.few k e in
    let group : k / 16 < 16 = omega (arith, few) in
    omega (arith, i.least (k / 16) group, i.no_sooner k e, c.if-now-self.false))
