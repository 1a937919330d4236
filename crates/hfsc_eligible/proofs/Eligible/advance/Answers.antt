use Rattle.hfsc_eligible.specs.Slot.{slot_deadline, slot_soonest}
use Rattle.hfsc_eligible.proofs.Lists.{has_place, holds_changed, was_there}
use Rattle.hfsc_eligible.proofs.Eligible.advance.Goals as goal

pub rank-requires : goal.rank-requires
rank-requires c = record {
  deadline_place = has_place slot_deadline c.args.self.now.slots.items c.args.class c.args.self.now.deadlines c.args.self.now.by_deadline c.requires.class;
  moment_place = has_place slot_soonest c.args.self.now.slots.items c.args.class c.args.self.now.moments c.args.self.now.by_moment c.requires.class;
  deadline_was = was_there slot_deadline c.args.self.now.slots.items c.args.class c.index_mut-slot.result.now c.has_head-was.result c.args.self.now.deadlines
      c.args.self.now.by_deadline c.requires.class c.index_mut-slot.ensures.value c.has_head-was.ensures;
  moment_was = was_there slot_soonest c.args.self.now.slots.items c.args.class c.index_mut-slot.result.now c.has_head-was.result c.args.self.now.moments
      c.args.self.now.by_moment c.requires.class c.index_mut-slot.ensures.value c.has_head-was.ensures;
}

pub invariant_of-self : goal.invariant_of-self
invariant_of-self c = record {
  by_deadline = holds_changed slot_deadline c.args.self.now.slots.items c.args.class c.send.new.self c.args.self.now.deadlines c.rank.new.deadlines
      c.args.self.now.by_deadline c.requires.class c.rank.ensures.deadlines;
  by_moment = holds_changed slot_soonest c.args.self.now.slots.items c.args.class c.send.new.self c.args.self.now.moments c.rank.new.moments
      c.args.self.now.by_moment c.requires.class c.rank.ensures.moments;
}
