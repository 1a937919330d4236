use Rattle.std.proofs.Common.{◌∙◌, ◌<◌, length, sym, subst, arith}
use Rattle.altq_model.specs.declared.Fate.{Fate}
use Rattle.journal_laws.specs.Journal.{IfSent, IsFirstMoment}
use Rattle.fate_judge.specs.Given.{bare_arrivals, decisions}
use Rattle.fate_judge.proofs.Passing.{count_of}
use Rattle.fate_busy.proofs.Leaving.{arrives_at, is_first, is_not_first, place_at}
use Rattle.fate_busy.proofs.left.Left.passes.Goals as goal

pub returns-then-start-max-clause-fails : goal.returns-then-start-max-clause-fails
returns-then-start-max-clause-fails c = λ e rows before l s.
    let arrived = bare_arrivals c.args.arrived.now in
    let first = c.skip_gone.new.self.first in
    let P : Fate → Type 0 = λ t. IfSent t (λ start end. IsFirstMoment arrived (decisions rows) (decisions before) start) in
    let p = place_at c.args.arrived.now c.args.self.now c.skip_gone.new.self rows before l c.skip_gone.ensures.same c.skip_gone.ensures.gone in
    let inside : first < length arrived = omega (arith, c.in-Some.ensures.lookup, count_of c.args.arrived.now) in
    is_not_first arrived c.skip_gone.new.self.gone.items rows before first c.in-Some.packet.now.at c.in-Sent.start c.skip_gone.new.self.free c.requires.rising p
    inside (c.skip_gone.ensures.stays (omega (arith, inside, p.size, c.skip_gone.new.self.gone.ok.0)))
    (arrives_at c.args.arrived.now first c.in-Some.packet.now (omega (arith, c.in-Some.ensures.lookup)) c.in-Some.ensures.lookup.1) (c.skip_gone.ensures.free ∙ l.free)
    (λ f. c.if-start-max.true (f ∙ sym c.max.ensures)) (subst P c.in-Sent.is s)

pub returns-clause-passes : goal.returns-clause-passes
returns-clause-passes c = λ e rows before l.
    let arrived = bare_arrivals c.args.arrived.now in
    let first = c.skip_gone.new.self.first in
    let P : Fate → Type 0 = λ t. IfSent t (λ start end. IsFirstMoment arrived (decisions rows) (decisions before) start) in
    let p = place_at c.args.arrived.now c.args.self.now c.skip_gone.new.self rows before l c.skip_gone.ensures.same c.skip_gone.ensures.gone in
    let inside : first < length arrived = omega (arith, c.in-Some.ensures.lookup, count_of c.args.arrived.now) in
    subst P (sym c.in-Sent.is)
    (is_first arrived c.skip_gone.new.self.gone.items rows before first c.in-Some.packet.now.at c.in-Sent.start c.skip_gone.new.self.free c.requires.rising p
    inside (c.skip_gone.ensures.stays (omega (arith, inside, p.size, c.skip_gone.new.self.gone.ok.0)))
    (arrives_at c.args.arrived.now first c.in-Some.packet.now (omega (arith, c.in-Some.ensures.lookup)) c.in-Some.ensures.lookup.1) (c.skip_gone.ensures.free ∙ l.free)
    (c.if-start-max.false ∙ c.max.ensures))
