use Rattle.std.proofs.Common.{◌≡◌, ◌∙◌, List, max, refl, arith}
use Rattle.altq_model.specs.Arrivals.{Captured, bare_arrival}
use Rattle.altq_model.specs.History.{DrawnWords, LabelledEvent}
use Rattle.play_core.specs.declared.state.Progress.{Progress}
use Rattle.play_core.specs.declared.step.Step.TheVariants.{End, Offer, Send, Late}
use Rattle.play_core.proofs.Come.{come_cut, come_end, due_offer}
use Rattle.play_core.proofs.GoingLemmas.{Going, Goes, goes_by, asked_on, come_of, few_counts, front_there, moment_by, number_within, state, step_on, still_going, turn_number}
use Rattle.play_core.proofs.OfferLemmas.{is_bare_arrival}
use Rattle.play_core.proofs.SendLemmas.{going_sent}
use Rattle.play_core.proofs.state.Progress.turn.Given.{Over}
use Rattle.play_core.proofs.state.Progress.turn.Goals as goal

abbrev goes : (g : Over) (d : g.row.D.Denot) {arrived : List Captured} {w : DrawnWords} {x : Progress} {h : List LabelledEvent} → Going (state g.D.Discipline d w x) arrived h
    → Goes (state g.D.Discipline d w x) arrived h
goes g d y = goes_by g.D.Discipline d g.met.D.Discipline.lawful g.met.D.Discipline.steady g.met.D.Discipline.distinct y

pub next_step-requires-clause-later : goal.next_step-requires-clause-later
next_step-requires-clause-later g c =
    let y = c.requires.going.3 in
    let moment : c.max-moment.result ≡ max c.args.self.now.clock.link.free c.args.self.now.latest = cc in
    let l = moment_by (goes g c.args.discipline.now y) (g.met.D.Discipline.moments c.args.discipline.now y.recorded y.represents) in
    omega (arith, l, moment)

pub returns-in-End-clause-turned : goal.returns-in-End-clause-turned
returns-in-End-clause-turned g c = λ arrived w h y e.
    let u = goes g c.args.discipline.now y in
    let n = c.in-End.ensures in (
      come_end _ _ _ _ _ (come_of u) (step_on End u n.step (cc) e),
      asked_on (g.D.Discipline.view c.next_step.new.discipline) u n.unchanged,
    )

pub returns-in-Offer-clause-turned : goal.returns-in-Offer-clause-turned
returns-in-Offer-clause-turned g c = λ arrived w h y e.
    let u = goes g c.args.discipline.now y in
    let n = c.in-Offer.ensures in (
      λ a there. record {
        there = there;
        is_due = due_offer _ _ _ _ _ (bare_arrival a) (come_of u) (step_on Offer u n.step (cc) e) (is_bare_arrival arrived h a there).seen;
      },
      asked_on (g.D.Discipline.view c.next_step.new.discipline) u n.unchanged,
    )

pub returns-in-Late-clause-turned : goal.returns-in-Late-clause-turned
returns-in-Late-clause-turned g c = λ arrived w h y e.
    let u = goes g c.args.discipline.now y in
    let n = c.in-Late.ensures in (
      come_cut _ _ _ _ _ (come_of u) (step_on Late u n.step (cc) e),
      asked_on (g.D.Discipline.view c.next_step.new.discipline) u n.unchanged,
    )

pub sent-requires-clause-later : goal.sent-requires-clause-later
sent-requires-clause-later g c =
    let y = c.requires.going.3 in
    let moment : c.max-moment.result ≡ max c.args.self.now.clock.link.free c.args.self.now.latest = cc in
    let l = moment_by (goes g c.args.discipline.now y) (g.met.D.Discipline.moments c.args.discipline.now y.recorded y.represents) in
    omega (arith, l, moment, c.in-Send.ensures.unchanged.moment, c.in-Send.ensures.starts c.in-Send.sending refl)

pub overflow_add-self : goal.overflow_add-self
overflow_add-self g c = let f = few_counts (goes g c.args.discipline.now c.requires.going.3) in grind (arith, f.sent)

pub marked-requires : goal.marked-requires
marked-requires g c = let y = c.requires.going.3 in front_there c.in-Send.sending.class y (c.in-Send.ensures.ticket y.recorded y.represents c.in-Send.sending refl)

pub take-requires : goal.take-requires
take-requires g c = let y = c.requires.going.3 in front_there c.in-Send.sending.class y (c.in-Send.ensures.ticket y.recorded y.represents c.in-Send.sending refl)

pub returns-clause-turned : goal.returns-clause-turned
returns-clause-turned g c = λ arrived w h y e.
    let u = goes g c.args.discipline.now y in
    let s = c.in-Send.sending in
    let n = c.in-Send.ensures in
    let z = c.sent.ensures in
    let moment : c.max-moment.result ≡ max c.args.self.now.clock.link.free c.args.self.now.latest = cc in
    going_sent {t = state g.D.Discipline c.sent.new.self w _} (still_going _ n.unchanged u)
    (record {
      first = step_on (Send s) u n.step moment e;
      ticket = n.ticket y.recorded y.represents s refl;
      late = omega (arith, n.starts s refl, moment);
      end = n.ends s refl;
      early = n.early s refl;
    })
    (g.met.D.Discipline.shows c.next_step.new.discipline y.recorded (n.unchanged.represents y.recorded y.represents) s.class)
    (record {
      kind = record { policy = z.kind.policy ∙ n.unchanged.kind.policy; limits = z.kind.limits ∙ n.unchanged.kind.limits; link_rate = z.kind.link_rate ∙ n.unchanged.kind.link_rate; fixed = z.kind.fixed };
      words = refl;
      history = z.history;
      lists_are = z.lists;
      within = z.within;
      rate_is = c.sent-2.ensures.rate;
      link_is = c.sent-2.ensures.link;
      latest_is = refl;
      arrived = refl;
      sent = refl;
      dropped = refl;
      last_end = refl;
      taken = c.take.ensures.taken;
      marked = c.marked.ensures;
      others = c.take.ensures.others;
      marks = c.take.ensures.marks;
      count = c.take.ensures.count;
      room = c.take.ensures.room;
      class = refl;
      rule = refl;
      start = refl;
      end = refl;
    })

pub returns-clause-number : goal.returns-clause-number
returns-clause-number g c = λ d q.
    let y = c.requires.going.3 in
    turn_number _ d c.args.self.now.totals.arrived q
    (number_within c.in-Send.sending.class (goes g c.args.discipline.now y) (c.in-Send.ensures.ticket y.recorded y.represents c.in-Send.sending refl) c.take.ensures.taken)
