use Rattle.std.proofs.Common.{◌≡◌, ◌+◌, ◌∙◌, ℕ, List, refl, ap, arith}
use Rattle.altq_model.specs.declared.Verdict.{Verdict}
use Rattle.altq_model.specs.Arrivals.{Captured, bare_arrival}
use Rattle.altq_model.specs.History.{DrawnWords, Event, LabelledEvent, unlabelled, offered}
use Rattle.play_base.specs.declared.packet.Packet.{Packet}
use Rattle.leaf_queue.specs.Pool.{is_marked, packet_of}
use Rattle.discipline.specs.Laws.{IsAnswer, entry}
use Rattle.play_core.specs.declared.state.Progress.{Progress}
use Rattle.play_core.specs.Turns.{Offers, drop_of}
use Rattle.play_core.proofs.GoingLemmas.{Going, Goes, goes_by, few_counts, state}
use Rattle.play_core.proofs.OfferLemmas.{answered, going_offered, is_bare_arrival, is_later, drop_counted, most_lost}
use Rattle.play_core.proofs.state.Progress.offer.Given.{Over}
use Rattle.play_core.proofs.state.Progress.offer.Goals.{After-offer-verdict}
use Rattle.play_core.proofs.state.Progress.offer.Goals as goal

abbrev goes : (g : Over) (d : g.row.D.Denot) {arrived : List Captured} {w : DrawnWords} {x : Progress} {h : List LabelledEvent} → Going (state g.D.Discipline d w x) arrived h
    → Goes (state g.D.Discipline d w x) arrived h
goes g d y = goes_by g.D.Discipline d g.met.D.Discipline.lawful g.met.D.Discipline.steady g.met.D.Discipline.distinct y

pub offer-verdict-requires-clause-few : goal.offer-verdict-requires-clause-few
offer-verdict-requires-clause-few g c =
    let y = c.requires.next.3 in
    let l = g.met.D.Discipline.counts c.args.discipline.now y.recorded y.represents in
    let e = ap (λ (h : List Event). offered h) y.same in
    omega (arith, l, e, y.few, (is_bare_arrival c.requires.next.0 c.requires.next.1 c.requires.next.2 c.requires.next.4.next.there).inside)

pub offer-verdict-requires-clause-later : goal.offer-verdict-requires-clause-later
offer-verdict-requires-clause-later g c =
    let y = c.requires.next.3 in
    let later = is_later (goes g c.args.discipline.now y) c.requires.next.4.next.there in
    let l = g.met.D.Discipline.moments c.args.discipline.now y.recorded y.represents c.requires.next.2.at later.arrived later.by in
    omega (arith, l, ap (λ (k : Packet). k.at) c.requires.next.4.packet_is)

pub overflow_add-self-in-Ok : goal.overflow_add-self-in-Ok
overflow_add-self-in-Ok g c =
    let f = few_counts (goes g c.args.discipline.now c.requires.next.3) in
    grind (arith, f.dropped, most_lost c.in-Ok.dropped, c.drop_count.ensures)

-- the answer was the policy's
answer : (g : Over) (c : After-offer-verdict g) (arrived : List Captured) (h : List LabelledEvent) (a : Captured)
    → Going (state g.D.Discipline c.args.discipline.now c.args.words.now c.args.self.now) arrived h
    → Offers (g.D.Discipline.view c.args.discipline.now).policy c.args.self.now.clock.rate c.args.words.now.seed arrived h a c.args.packet.now c.args.placed
    → IsAnswer (g.D.Discipline.view c.args.discipline.now).policy (unlabelled h) c.args.words.now (bare_arrival a) c.offer-verdict.result c.offer-verdict.new.words
answer g c arrived h a y o =
    answered {stood = (g.D.Discipline.view c.offer-verdict.new.self).represents} (goes g c.args.discipline.now y) o
    (record { history = c.offer-verdict.ensures.history; sized = record { least = c.requires.some; most = c.requires.short } })

pub returns-in-Ok-clause-offered : goal.returns-in-Ok-clause-offered
returns-in-Ok-clause-offered g c = λ arrived h a y o.
    let e = c.offer-verdict.ensures in
    let s = c.in-Ok.ensures in
    let few = c.drop_count.ensures ∙ drop_counted c.in-Ok.dropped c.offer-verdict.result c.args.packet.now s.told in
    going_offered {t = state g.D.Discipline c.offer-verdict.new.self c.offer-verdict.new.words _} (goes g c.args.discipline.now y) o (record {
      kind = e.kind;
      entry = entry c.next-ticket.result c.args.packet.now.len c.args.placed.prec;
      answers = record { history = e.history; sized = record { least = c.requires.some; most = c.requires.short } };
      one_of = c.requires.class;
      lists_are = e.lists;
      within = e.within;
      clock_is = refl;
      latest_is = refl;
      arrived = refl;
      sent = refl;
      dropped = ap (λ (k : ℕ). c.args.self.now.totals.dropped + k) few;
      last_end = refl;
      held = s.held;
      marks = s.marks;
      kept = λ k. ap (packet_of c.admit.new.pool) c.next-ticket.ensures ∙ s.kept k;
      mark = λ k. ap (is_marked c.admit.new.pool) c.next-ticket.ensures ∙ s.mark k;
      count = s.count;
      room = s.room;
    })

pub returns-in-Ok-clause-told : goal.returns-in-Ok-clause-told
returns-in-Ok-clause-told g c = λ arrived h a y o.
    c.in-Ok.ensures.told ∙ ap (λ (v : Verdict). drop_of v c.args.packet.now) (answer g (goal.at.returns-in-Ok-clause-told g c).After-offer-verdict arrived h a y o).verdict

-- whatever came of the bytes
same_seed : (g : Over) (c : After-offer-verdict g) → c.offer-verdict.new.words.seed ≡ c.args.words.now.seed
same_seed g c = let n = c.requires.next in (answer g c n.0 n.1 n.2 n.3 n.4).words.seed

pub returns-in-Ok-clause-seed : goal.returns-in-Ok-clause-seed
returns-in-Ok-clause-seed g c = same_seed g (goal.at.returns-in-Ok-clause-seed g c).After-offer-verdict

pub returns-in-Err-clause-seed : goal.returns-in-Err-clause-seed
returns-in-Err-clause-seed g c = same_seed g (goal.at.returns-in-Err-clause-seed g c).After-offer-verdict
