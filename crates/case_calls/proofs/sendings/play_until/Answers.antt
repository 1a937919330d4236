-- A packet is offered where every sending before it is made.
use Rattle.std.proofs.Common.{◌≡◌, ◌≤◌, ◌<◌, ◌∙◌, ℕ, sym, subst, arith}
use Rattle.std.specs.declared.option.Option.{Option}
use Rattle.altq_model.specs.declared.Placed.{Placed}
use Rattle.altq_model.specs.Lawful.{IsOneOf}
use Rattle.altq_model.specs.Play.{Policy}
use Rattle.discipline.specs.Laws.{HasRate, arrival_with}
use Rattle.case_calls.proofs.StandingLemmas.{at_offered, moment_come}
use Rattle.case_calls.proofs.sendings.play_until.Goals as goal

pub offer-requires-clause-class : goal.offer-requires-clause-class
offer-requires-clause-class g c =
    let P : Placed → Type 0 = λ p. IsOneOf p.class (g.D.Discipline.view c.args.discipline.now).policy.classes in
    let Q : Policy → Type 0 = λ q. IsOneOf c.class-placed.result.class q.classes in
    subst Q (sym (c.send_before.ensures.policy ∙ c.loop-place.invariant.policy)) (subst P (sym c.class-placed.ensures) (c.requires.held c.in-Some.found.bytes.now))

pub offer-requires-clause-few : goal.offer-requires-clause-few
offer-requires-clause-few g c =
    let x = c.send_before.ensures.at c.loop-place.place c.loop-place.invariant.at in
    let counted = g.met.D.Discipline.counts c.send_before.new.discipline x.told x.stands in
    let few = x.few in
    omega (arith, counted, few, c.requires.few, c.loop-place-test.true)

pub offer-requires-clause-later : goal.offer-requires-clause-later
offer-requires-clause-later g c =
    moment_come _ c.send_before.new.clock c.loop-place.place c.max-at.result c.max-at.result (g.D.Discipline.view c.send_before.new.discipline).moment c.max-at.result
    (g.met.D.Discipline.moments c.send_before.new.discipline) (omega arith) (c.send_before.ensures.at c.loop-place.place c.loop-place.invariant.at)

pub loop-place-preserved : goal.loop-place-preserved
loop-place-preserved g c =
    let drawn = c.loop-place.invariant.drawn in
    let R : Option ℕ → Type 0 = λ r. HasRate r c.send_before.new.clock.rate in
    let a = arrival_with c.class-placed.result.class c.in-Some.found.len c.class-placed.result.prec c.max-at.result in
    let y = at_offered _ _ c.send_before.new.clock c.loop-place.place _ _ c.loop-place.words c.offer.new.words a c.offer.result
    (record { least = c.in-Some.ensures.some; most = c.in-Some.ensures.most }) (omega (arith, drawn, c.requires.few, c.loop-place-test.true)) c.offer.ensures.history
    (c.send_before.ensures.at c.loop-place.place c.loop-place.invariant.at) in
    let drew = y.1 in
    record {
      order = omega (arith, c.if-at-moment.false);
      drawn = omega (arith, drawn, drew);
      rate = subst R (sym c.offer.ensures.kind.link_rate) c.send_before.ensures.rate;
      policy = c.offer.ensures.kind.policy ∙ c.send_before.ensures.policy ∙ c.loop-place.invariant.policy;
      at = y.0;
    }
