-- The texts of a play grow with its sendings.
use Rattle.std.proofs.Common.{◌≡◌, ◌∙◌, ◌∷◌, List, refl, arith}
use Rattle.altq_model.specs.Arrivals.{Captured, bare_arrivals}
use Rattle.altq_model.specs.History.{DrawnWords, LabelledEvent}
use Rattle.discipline.proofs.ViewLaws.{kind_refl, kind_trans}
use Rattle.play_core.specs.Ended.{IsCutOff}
use Rattle.play_core.specs.Turns.{arrives, departs}
use Rattle.play_loop.specs.Setup.{Setup}
use Rattle.play_loop.specs.Underway.{IsUnderway, moment}
use Rattle.play_loop.proofs.KeptLemmas.{adds_nothing, then_err, then_ok}
use Rattle.play_loop.proofs.TurnLemmas.{IsSent, arrives_same, can_add, counts_up, is_sent, made_of, moved_on, sent_class, sent_fits, still_under, to_setup}
use Rattle.play_loop.proofs.WrittenLemmas.{broken_sent, written_sent}
use Rattle.play_loop.proofs.sending.send_due.Given.{Over}
use Rattle.play_loop.proofs.sending.send_due.Goals.{In-Send}
use Rattle.play_loop.proofs.sending.send_due.Goals as goal

pub turns-init : goal.turns-init
turns-init g c = record {
  only = adds_nothing (g.F.Files.view c.args.files.now) c.args.outputs.now tt;
  fixed = refl;
  kind = kind_refl (g.D.Discipline.view c.args.discipline.now);
  under = λ x arrived w k u e. (k, u, (refl, refl));
}

pub turn-requires : goal.turn-requires
turn-requires g c =
    let r = c.requires.under in
    let k = c.turns.invariant.under r.0 r.1 r.2 r.3 r.4 r.5 in
    record { going = (r.1, r.2, k.0, k.1.going) }

pub returns-in-Offer-clause-due : goal.returns-in-Offer-clause-due
returns-in-Offer-clause-due g c = λ x arrived w g' u e.
    let k = c.turns.invariant.under x arrived w g' u e in
    let t = c.turn.ensures.turned arrived w k.0 k.1.going (e ∙ arrives_same arrived g' k.0 k.2.0) in (
      k.0,
      still_under k.1 c.turn.result c.turn.ensures.kind.policy c.turn.ensures.rate c.in-Offer.is t.1 k.1.written,
      k.2,
      made_of k.1 c.args.arrival c.turn.result c.in-Offer.is c.turn.ensures.offers t.0,
    )

pub returns-in-Late-clause-due : goal.returns-in-Late-clause-due
returns-in-Late-clause-due g c = λ x arrived w g' u e.
    let k = c.turns.invariant.under x arrived w g' u e in
    let t = c.in-Late.ensures.turned arrived w k.0 k.1.going (e ∙ arrives_same arrived g' k.0 k.2.0) in (
      k.0,
      record { setup = moved_on k.1.setup c.turn.ensures.kind.policy c.turn.ensures.rate refl; going = t.1; written = k.1.written },
      k.2,
      to_setup k.1.setup (λ p rate seed. IsCutOff p rate seed (bare_arrivals arrived) k.0) t.0,
    )

-- what is sent is an arrival
sent : (g : Over) (c : In-Send g) {x : Setup} {arrived : List Captured} {w : DrawnWords} {k : List LabelledEvent}
    → IsUnderway x (moment (g.D.Discipline.view c.turns.discipline) (g.F.Files.view c.turns.files) c.turns.outputs (g.K.Keeper.told c.turns.keeper) c.turns.progress) arrived w k
    → c.args.arrival ≡ arrives arrived k
    → IsSent x (moment (g.D.Discipline.view c.turn.new.discipline) (g.F.Files.view c.turns.files) c.turns.outputs (g.K.Keeper.told c.turns.keeper) c.turn.new.self) arrived w k c.in-Send.departure
sent g c u e = let t = c.in-Send.ensures.turned _ _ _ u.going e in is_sent u c.turn.ensures.kind.policy c.turn.ensures.rate t.0 t.1

pub add_sent-requires : goal.add_sent-requires
add_sent-requires g c =
    let r = c.requires.under in
    let k = c.turns.invariant.under r.0 r.1 r.2 r.3 r.4 r.5 in
    let s = sent g (goal.at.add_sent-requires g c).In-Send k.1 (r.5 ∙ arrives_same r.1 r.3 k.0 k.2.0) in
    record { can = can_add k.1 (sent_class s); early = c.turn.ensures.in_time c.in-Send.departure c.in-Send.is; within = sent_fits s }

pub turns-smaller : goal.turns-smaller
turns-smaller g c =
    let r = c.requires.under in
    let k = c.turns.invariant.under r.0 r.1 r.2 r.3 r.4 r.5 in
    let u = counts_up k.1 (sent g (goal.at.turns-smaller g c).In-Send k.1 (r.5 ∙ arrives_same r.1 r.3 k.0 k.2.0)) in
    omega (arith, u.sent, u.within)

pub turns-preserved : goal.turns-preserved
turns-preserved g c = record {
  only = then_ok c.requires.under.4.written.given c.turns.invariant.only c.in-Ok.ensures.only;
  fixed = c.add_sent.ensures.fixed ∙ c.turns.invariant.fixed;
  kind = kind_trans _ _ _ c.turns.invariant.kind c.turn.ensures.kind;
  under = λ x arrived w g' u e.
      let k = c.turns.invariant.under x arrived w g' u e in
      let s = sent g (goal.at.turns-preserved g c).In-Send k.1 (e ∙ arrives_same arrived g' k.0 k.2.0) in (
        departs c.in-Send.departure ∷ k.0,
        record { setup = moved_on s.on.setup refl refl refl; going = s.on.going; written = written_sent s k.1.written c.in-Ok.ensures.added c.in-Ok.ensures.told },
        k.2,
      );
}

pub returns-in-Err-clause-broken : goal.returns-in-Err-clause-broken
returns-in-Err-clause-broken g c = λ x arrived w g' u e.
    let k = c.turns.invariant.under x arrived w g' u e in
    let s = sent g (goal.at.returns-in-Err-clause-broken g c).In-Send k.1 (e ∙ arrives_same arrived g' k.0 k.2.0) in
    (departs c.in-Send.departure ∷ k.0, broken_sent s k.1.written.given c.turns.invariant.only.same c.in-Err.ensures.stopped, k.2)

pub returns-in-Err-clause-only : goal.returns-in-Err-clause-only
returns-in-Err-clause-only g c = then_err c.requires.under.4.written.given c.turns.invariant.only c.in-Err.ensures.only
