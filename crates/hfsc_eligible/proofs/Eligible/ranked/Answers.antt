use Rattle.hfsc_model.specs.RealTime.{head_deadline}
use Rattle.hfsc_eligible.specs.Slot.{slot_deadline}
use Rattle.hfsc_eligible.proofs.Slots.{slot_deadline_is}
use Rattle.hfsc_eligible.proofs.Lists.{ordered}
use Rattle.hfsc_eligible.proofs.Eligible.ranked.Goals as goal

pub returns : goal.returns
returns c = λ curves h stands. rw c.as_slice.ensures
    (ordered slot_deadline head_deadline c.args.self.now.slots.items c.args.self.now.deadlines curves h slot_deadline_is c.args.self.now.by_deadline
    (record { classes = stands.classes; each = stands.each }))
