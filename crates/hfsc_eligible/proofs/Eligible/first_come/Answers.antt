use Rattle.std.proofs.Common.{arith}
use Rattle.hfsc_eligible.proofs.Leaders.{hit, leader_is_pick, leads_on, miss}
use Rattle.hfsc_eligible.proofs.Eligible.first_come.Goals as goal

pub returns-then-has_come : goal.returns-then-has_come
returns-then-has_come c =
    hit c.args.self.now c.args.now c.as_slice-order.result.now c.loop-place.place c.key.result c.has_come.result c.as_slice-order.ensures (omega arith)
    c.loop-place.invariant.0 c.key.ensures c.has_come.ensures c.if-has_come.true

pub returns-in_default : goal.returns-in_default
returns-in_default c =
    leader_is_pick c.args.self.now c.args.now c.loop-place.place c.loop-place.best c.come_at.result c.loop-place.invariant.1 c.come_at.ensures c.in_default.is

pub loop-place-preserved : goal.loop-place-preserved
loop-place-preserved c = (
  miss c.args.self.now c.args.now c.as_slice-order.result.now c.loop-place.place c.key.result c.has_come.result c.as_slice-order.ensures (omega arith)
      c.loop-place.invariant.0 c.key.ensures c.has_come.ensures c.if-has_come.false,
  leads_on c.args.self.now c.args.now c.loop-place.place c.loop-place.best c.in-Some.other c.ahead-best.result c.come_at.result c.loop-place.invariant.1
      c.come_at.ensures c.in-Some.is c.ahead-best.ensures,
)
