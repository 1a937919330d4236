use Rattle.hfsc_model.specs.RealTime.{soonest_of}
use Rattle.hfsc_eligible.specs.Slot.{slot_soonest}
use Rattle.hfsc_eligible.proofs.Slots.{slot_soonest_is}
use Rattle.hfsc_eligible.proofs.Lists.{ordered}
use Rattle.hfsc_eligible.proofs.Eligible.early.Goals as goal

pub returns : goal.returns
returns c = λ curves h stands. rw c.as_slice.ensures
    (ordered slot_soonest soonest_of c.args.self.now.slots.items c.args.self.now.moments curves h slot_soonest_is c.args.self.now.by_moment
    (record { classes = stands.classes; each = stands.each }))
