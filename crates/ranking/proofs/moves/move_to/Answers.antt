use Rattle.std.proofs.Common.{Vec, Global, ℕ, ap, rules, ◌∙◌}
use Rattle.std.specs.Prelude.{slice_set}
use Rattle.ranking.proofs.Moved.{moved_down, moved_nowhere, moved_up}
use Rattle.ranking.proofs.moves.move_to.Goals as goal
use Rattle.ranking.proofs.moves.move_to.Goals.{then-from-to, else-from-to+then-to-from, else-from-to+else-to-from}

pub returns-clause-items : goal.returns-clause-items
returns-clause-items c = elim c.if-from-to.branch [
  | then-from-to w ↦
      let by = w.copy_within.ensures.by_index in
      ap (λ (v : Vec ℕ Global). slice_set v.items c.args.to c.args.class) w.order-is
      ∙ moved_up c.args.order.now.items w.copy_within.new.self.items c.args.from c.args.to c.args.class w.if-from-to.true c.requires.to (search rules) by.1 by.0 by.2
  | else-from-to+then-to-from w ↦
      let by = w.copy_within-then-to-from.ensures.by_index in
      ap (λ (v : Vec ℕ Global). slice_set v.items c.args.to c.args.class) w.order-is
      ∙ moved_down c.args.order.now.items w.copy_within-then-to-from.new.self.items c.args.from c.args.to c.args.class w.if-from-to.false c.requires.from (search rules) by.1 by.0 by.2
  | else-from-to+else-to-from w ↦
      ap (λ (v : Vec ℕ Global). slice_set v.items c.args.to c.args.class) w.order-is
      ∙ moved_nowhere c.args.order.now.items c.args.from c.args.to c.args.class w.if-from-to.false w.if-to-from.false c.requires.from
]
