use Rattle.std.proofs.Common.{◌∙◌, refl}
use Rattle.hfsc_eligible.specs.Slot.{slot_deadline, slot_soonest}
use Rattle.hfsc_eligible.proofs.Lists.{has_place, holds_changed, is_absent, opened_stands}
use Rattle.hfsc_eligible.proofs.Same.{head_here, opened_here, same_but}
use Rattle.hfsc_eligible.proofs.Eligible.open.Goals as goal

pub rank-requires : goal.rank-requires
rank-requires c = record {
  deadline_place = has_place slot_deadline c.args.self.now.slots.items c.args.class c.args.self.now.deadlines c.args.self.now.by_deadline c.requires.class;
  moment_place = has_place slot_soonest c.args.self.now.slots.items c.args.class c.args.self.now.moments c.args.self.now.by_moment c.requires.class;
  deadline_was = is_absent slot_deadline c.args.self.now c.args.class c.index_mut-slot.result.now c.args.self.now.deadlines c.args.self.now.by_deadline
      c.requires.class c.requires.empty;
  moment_was = is_absent slot_soonest c.args.self.now c.args.class c.index_mut-slot.result.now c.args.self.now.moments c.args.self.now.by_moment
      c.requires.class c.requires.empty;
}

pub invariant_of-self : goal.invariant_of-self
invariant_of-self c = record {
  by_deadline = holds_changed slot_deadline c.args.self.now.slots.items c.args.class c.keep.new.self c.args.self.now.deadlines c.rank.new.deadlines
      c.args.self.now.by_deadline c.requires.class c.rank.ensures.deadlines;
  by_moment = holds_changed slot_soonest c.args.self.now.slots.items c.args.class c.keep.new.self c.args.self.now.moments c.rank.new.moments
      c.args.self.now.by_moment c.requires.class c.rank.ensures.moments;
}

pub returns-clause-stands : goal.returns-clause-stands
returns-clause-stands c = λ curves h stands.
    opened_stands c.args.self.now _ curves h c.args.class c.args.at c.args.len c.index_mut-slot.result.now c.keep.new.self stands
    c.requires.class c.requires.empty c.index_mut-slot.ensures.value c.keep.ensures.stands refl

pub returns-clause-head : goal.returns-clause-head
returns-clause-head c = head_here c.args.self.now.slots.items c.args.class c.keep.new.self c.requires.class ∙ c.keep.ensures.head

pub returns-clause-opening : goal.returns-clause-opening
returns-clause-opening c = opened_here c.args.self.now.slots.items c.args.class c.args.at c.keep.new.self c.requires.class c.keep.ensures.last

pub returns-clause-others : goal.returns-clause-others
returns-clause-others c = same_but c.args.self.now _ c.args.class c.keep.new.self refl
