use Rattle.std.proofs.Common.{◌∙◌, ap}
use Rattle.play_base.specs.Units.{units}
use Rattle.hfsc_eligible.proofs.Slots.{head_passes}
use Rattle.hfsc_eligible.proofs.slot.Slot.deadline.Goals as goal

pub deadline-requires-clause-opened : goal.deadline-requires-clause-opened
deadline-requires-clause-opened c =
    head_passes c.args.self.now.real c.in-Some-Some.real c.args.self.now.count c.units.result c.in-Some-Some.len c.in-Some-Some.is-0
    (c.args.self.now.open c.in-Some-Some.len c.in-Some-Some.is-1 c.in-Some-Some.real c.in-Some-Some.is-0) c.args.self.now.last
    (c.args.self.now.head_long c.in-Some-Some.len c.in-Some-Some.is-1)
    (c.units.ensures ∙ ap (λ n. units n) c.from.ensures)
