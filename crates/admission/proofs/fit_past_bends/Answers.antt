use Rattle.std.proofs.Common.{◌*◌, refl, arith, ap}
use Rattle.admission.specs.Fit.{total}
use Rattle.admission.proofs.Excess.{fits_past_bends, room_at_last, excess_computed, excess_is_no_fit}
use Rattle.admission.proofs.fit_past_bends.Goals as goal

pub returns-then-slopes-rate-clause-fits : goal.returns-then-slopes-rate-clause-fits
returns-then-slopes-rate-clause-fits c =
    (λ e. fits_past_bends c.args.rate c.args.curves.now c.requires.bends (grind (arith, c.slopes_of-slopes.ensures, c.if-slopes-rate.true)), λ f. refl)

pub overflow_sub-room : goal.overflow_sub-room
overflow_sub-room c =
    let room = room_at_last c.args.rate c.args.curves.now c.requires.bends in
    let last = ap (λ n. total c.args.curves.now n) c.last_bend_of-last.ensures.is in
    let line = ap (λ n. c.args.rate * n) c.last_bend_of-last.ensures.is in
    grind (arith, room, last, line, c.total_of.ensures)

pub returns-clause-exceeds : goal.returns-clause-exceeds
returns-clause-exceeds c =
    excess_computed c.args.rate c.args.curves.now c.last_bend_of-last.result c.total_of.result c.slopes_of-slopes.result
    c.last_bend_of-last.ensures.is c.total_of.ensures c.slopes_of-slopes.ensures c.requires.bends c.if-slopes-rate.false

pub returns-clause-fits : goal.returns-clause-fits
returns-clause-fits c =
    (λ e. absurd cc, λ f. absurd (excess_is_no_fit c.args.rate c.args.curves.now _ _ (returns-clause-exceeds c) f))
