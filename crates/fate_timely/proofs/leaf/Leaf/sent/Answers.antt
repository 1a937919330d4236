use Rattle.std.proofs.Common.{◌≡◌, ◌∙◌, ◌+◌, ◌*◌, ℤ, Option, Some, refl, ap, arith}
use Rattle.play_base.specs.Units.{units}
use Rattle.hfsc_model.specs.Timely.{Row as SentRow}
use Rattle.fate_timely.specs.Timely.{late, later}
use Rattle.fate_timely.proofs.Leaves.{due_bounded, due_next, next_leaf}
use Rattle.fate_timely.proofs.leaf.Leaf.sent.Goals as goal

pub late-requires : goal.late-requires
late-requires c =
    let k = c.requires.known in
    due_bounded k.0 k.1 c.args.self.now c.args.at (c.open.new.self.units + c.from.result * 8000000000) c.deadline-due.result k.2 c.ranges.at.fits
    (omega (arith, c.open.ensures.units, c.requires.few, c.from.ensures, c.ranges.len.fits))
    (c.deadline-due.ensures.is k.0 _ (c.open.ensures.opens k.0 k.1 k.2))

pub returns-clause-bounded : goal.returns-clause-bounded
returns-clause-bounded c =
    let k = c.requires.known in
    due_bounded k.0 k.1 c.args.self.now c.args.at (c.open.new.self.units + c.from.result * 8000000000) c.deadline-due.result k.2 c.ranges.at.fits
    (omega (arith, c.open.ensures.units, c.requires.few, c.from.ensures, c.ranges.len.fits))
    (c.deadline-due.ensures.is k.0 _ (c.open.ensures.opens k.0 k.1 k.2))

pub returns-clause-stands : goal.returns-clause-stands
returns-clause-stands c = λ s rs l.
    let r : SentRow = record { at = c.args.at; len = c.args.len; start = c.args.start; end = c.args.end } in
    let more : c.open.new.self.units + c.from.result * 8000000000 ≡ c.args.self.now.units + units c.args.len = omega (arith, c.open.ensures.units, c.from.ensures) in
    next_leaf s rs c.args.self.now c.open.new.self
    (record { running = c.open.new.self.running; units = c.open.new.self.units + c.from.result * 8000000000; last = Some c.args.start; worst = c.later-self.result })
    r c.deadline-due.result l (c.open.ensures.opens s rs l) (c.open.ensures.open c.args.start c.requires.after_arrival c.requires.after_last) refl c.open.ensures.units
    more refl c.ranges.at.fits
    (due_next s rs c.args.self.now r (c.open.new.self.units + c.from.result * 8000000000) c.deadline-due.result l more
    (c.deadline-due.ensures.is s _ (c.open.ensures.opens s rs l)))
    (c.later-self.ensures ∙ ap (λ (o : Option ℤ). later o c.open.new.self.worst) c.late.ensures
    ∙ ap (λ (o : Option ℤ). later (late c.args.end c.deadline-due.result) o) c.open.ensures.worst)
