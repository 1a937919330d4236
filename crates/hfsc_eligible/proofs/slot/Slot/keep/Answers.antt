use Rattle.std.proofs.Common.{◌≡◌, ◌∙◌, ap, sym, arith}
use Rattle.std.specs.Prelude.{is_some}
use Rattle.hfsc_eligible.specs.Real.{last_in}
use Rattle.hfsc_eligible.proofs.Slots.{begun_up_to, begun_open}
use Rattle.hfsc_eligible.proofs.slot.Slot.keep.Goals as goal

pub invariant_of-self : goal.invariant_of-self
invariant_of-self c = record {
  count_small = c.args.self.now.count_small;
  last = begun_up_to (is_some c.args.self.now.real) (last_in c.begin.new.real) _ c.args.self.now.count c.begin.ensures.last;
  head_long = λ n e. let same : c.args.len ≡ n = cc in let long = c.requires.len in omega arith;
  «open» = λ n e r f. sym (ap is_some (ap last_in f)) ∙ begun_open (is_some c.args.self.now.real) (last_in c.begin.new.real) _ c.args.self.now.count c.begin.ensures.last
      (sym c.begin.ensures.curve ∙ ap is_some f);
}
