use Rattle.std.proofs.Common.{◌∙◌, Bool, None, Some, ap, arith, get_or, sym}
use Rattle.std.specs.Prelude.{if◌then◌else◌}
use Rattle.hfsc_eligible.proofs.Leaders.{come_is, read_at}
use Rattle.hfsc_eligible.proofs.Eligible.come_at.Goals as goal

pub returns-then-has_come : goal.returns-then-has_come
returns-then-has_come c =
    let is = read_at c.args.self.now c.args.now c.as_slice-early.result.now c.args.place c.as_slice-early.ensures (omega arith) in
    ap (λ (b : Bool). if b then Some (get_or c.as_slice-early.result.now c.args.place 0) else None) (sym c.if-has_come.true)
    ∙ come_is c.args.self.now c.args.now c.args.place (get_or c.as_slice-early.result.now c.args.place 0) c.has_come.result c.key.result is c.key.ensures c.has_come.ensures

pub returns-else-has_come : goal.returns-else-has_come
returns-else-has_come c =
    let is = read_at c.args.self.now c.args.now c.as_slice-early.result.now c.args.place c.as_slice-early.ensures (omega arith) in
    ap (λ (b : Bool). if b then Some (get_or c.as_slice-early.result.now c.args.place 0) else None) (sym c.if-has_come.false)
    ∙ come_is c.args.self.now c.args.now c.args.place (get_or c.as_slice-early.result.now c.args.place 0) c.has_come.result c.key.result is c.key.ensures c.has_come.ensures
