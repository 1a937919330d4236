-- A packet is offered once every sending before it was made.
use Rattle.std.proofs.Common.{◌+◌, ℕ, List, Some, refl, ap, sym, subst, arith}
use Rattle.altq_model.specs.declared.Placed.{Placed}
use Rattle.altq_model.specs.Arrivals.{Captured, bare_arrival}
use Rattle.altq_model.specs.History.{LabelledEvent}
use Rattle.altq_model.specs.Play.{offer_of}
use Rattle.play_text.specs.Names.{HasClass}
use Rattle.play_loop.specs.declared.ending.Due.{Due}
use Rattle.play_loop.specs.Reading.{arrival_of}
use Rattle.play_loop.specs.Setup.{Setup}
use Rattle.play_loop.specs.Underway.{DueIs, IsNextArrival, IsUnderway, Moment, SameOffers, classed, classing, moment}
use Rattle.play_loop.proofs.KeptLemmas.{then_err, then_ok}
use Rattle.play_loop.proofs.PacketLemmas.{before_stays, held_arrives, held_class, held_same, not_earlier, offers_it, with_stays}
use Rattle.play_loop.proofs.TurnLemmas.{begun_of, can_add, moved_on, on}
use Rattle.play_loop.proofs.OutputLemmas.{fronts_files, fronts_of_texts, only_spare, same_spare}
use Rattle.play_loop.proofs.WrittenLemmas.{IsOfferMade, fronts_offered, offered_by, written_offered, written_spare}
use Rattle.play_loop.proofs.sending.play_packet.Given.{Over}
use Rattle.play_loop.proofs.sending.play_packet.Goals.{In-Ok}
use Rattle.play_loop.proofs.sending.play_packet.Goals as goal

pub send_due-requires : goal.send_due-requires
send_due-requires g c = let r = c.requires.under in record { under = (r.0, r.1, c.args.words.now, r.2, r.3, held_arrives r.4) }

pub returns-in-Ok-Late-clause-due : goal.returns-in-Ok-Late-clause-due
returns-in-Ok-Late-clause-due g c = λ x arrived g' u h.
    let d = c.in-Ok-Late.ensures.due x arrived c.args.words.now g' u (held_arrives h) in
    let Q : Due → Type 0 = λ z. DueIs z (classed (classing (g.C.Classify.placed c.args.classify.now) (g.C.Classify.dressed c.args.classify.now) c.args.names.now) x) arrived d.0 (Some c.args.arriving.now.packet.at) in
    (d.0, d.1, (subst Q c.in-Ok-Late.field-0-is d.3, d.2))

pub returns-in-Err-clause-broken : goal.returns-in-Err-clause-broken
returns-in-Err-clause-broken g c = λ x arrived g' u h.
    let d = c.in-Err.ensures.broken x arrived c.args.words.now g' u (held_arrives h) in
    (d.0, d.1, before_stays (classed (classing (g.C.Classify.placed c.args.classify.now) (g.C.Classify.dressed c.args.classify.now) c.args.names.now) x) h d.0 d.2.0 d.1.begun.events)

pub offer-requires-clause-class : goal.offer-requires-clause-class
offer-requires-clause-class g c =
    let r = c.requires.under in
    let d = c.in-Ok-Made.ensures.due r.0 r.1 c.args.words.now r.2 r.3 (held_arrives r.4) in
    held_class d.1 r.4

pub offer-requires-clause-prec : goal.offer-requires-clause-prec
offer-requires-clause-prec g c =
    let r = c.requires.under in
    omega (arith, ap (λ (k : Placed). k.prec) r.4.placed_is, r.3.setup.sound.precs c.args.arriving.now.packet.bytes.now)

pub offer-requires-clause-next : goal.offer-requires-clause-next
offer-requires-clause-next g c =
    let r = c.requires.under in
    let d = c.in-Ok-Made.ensures.due r.0 r.1 c.args.words.now r.2 r.3 (held_arrives r.4) in
    let Q : Due → Type 0 = λ z. DueIs z (classed (classing (g.C.Classify.placed c.args.classify.now) (g.C.Classify.dressed c.args.classify.now) c.args.names.now) r.0) r.1 d.0 (Some c.args.arriving.now.packet.at) in
    (r.1, d.0, arrival_of (g.C.Classify.placed c.args.classify.now) c.args.arriving.now, d.1.going, offers_it d.1 (held_same r.4 d.2.0) (subst Q c.in-Ok-Made.field-0-is d.3))

pub add_dropped-requires : goal.add_dropped-requires
add_dropped-requires g c =
    let r = c.requires.under in
    let d = c.in-Ok-Made.ensures.due r.0 r.1 c.args.words.now r.2 r.3 (held_arrives r.4) in
    let P : Placed → Type 0 = λ k. HasClass c.args.names.now k.class in
    let can = can_add d.1 (subst P (sym r.4.placed_is) (r.3.setup.sound.named c.args.arriving.now.packet.bytes.now)) in
    record { can = record { named = can.named; countable = can.countable; departures = can.departures; fates = can.fates } }

-- the play before the offer, and with it
module _ (g : Over) (c : In-Ok g) where
  abbrev before : Moment
  before = moment (g.D.Discipline.view c.send_due.new.discipline) (g.F.Files.view c.send_due.new.files) c.send_due.new.outputs (g.K.Keeper.told c.send_due.new.keeper) c.send_due.new.progress

  abbrev after : Moment
  after = record before {
    shown = g.D.Discipline.view c.offer.new.discipline;
    progress = c.offer.new.self;
  }

  abbrev played : Setup → Setup
  played x = classed (classing (g.C.Classify.placed c.args.classify.now) (g.C.Classify.dressed c.args.classify.now) c.args.names.now) x

  record IsOffered (x : Setup) (arrived : List Captured) (past : List LabelledEvent) : Type 0 where
    events : List LabelledEvent
    under : IsUnderway x before arrived c.args.words.now events
    same : SameOffers past events
    held : IsNextArrival x.place arrived events c.args.arriving.now
    offer : IsOfferMade x before after arrived c.args.words.now c.offer.new.words events c.args.arriving.now c.in-Ok.dropped

  offered : (x : Setup) (arrived : List Captured) (past : List LabelledEvent)
      → IsUnderway (played x) (moment (g.D.Discipline.view c.args.discipline.now) (g.F.Files.view c.args.files.now) c.args.outputs.now (g.K.Keeper.told c.args.keeper.now) c.args.progress.now) arrived c.args.words.now past
      → IsNextArrival (played x).place arrived past c.args.arriving.now → IsOffered (played x) arrived past
  offered x arrived past u h =
      let d = c.in-Ok-Made.ensures.due x arrived c.args.words.now past u (held_arrives h) in
      let Q : Due → Type 0 = λ z. DueIs z (played x) arrived d.0 (Some c.args.arriving.now.packet.at) in
      let held = held_same h d.2.0 in
      let offers = offers_it d.1 held (subst Q c.in-Ok-Made.field-0-is d.3) in
      let offer = c.offer.ensures in
      let made = c.in-Ok.ensures in
      record {
        events = d.0;
        under = d.1;
        same = d.2;
        held = held;
        offer = record {
          offered = record { held = held; words = d.1.going.words; back_is = made.told arrived d.0 (arrival_of (played x).place c.args.arriving.now) d.1.going offers };
          on = record { setup = moved_on d.1.setup offer.kind.policy offer.rate offer.seed; going = made.offered arrived d.0 (arrival_of (played x).place c.args.arriving.now) d.1.going offers };
        };
      }

pub returns-in-Ok-add_dropped-clause-due : goal.returns-in-Ok-add_dropped-clause-due
returns-in-Ok-add_dropped-clause-due g c = λ x arrived g' u h.
    let to = (goal.at.returns-in-Ok-add_dropped-clause-due g c).In-Ok in
    let z = offered g to x arrived g' u h in
    let on = z.offer.on in
    let latest = not_earlier z.under z.held in (
      offered_by (played g to x) (before g to) c.args.words.now z.events c.args.arriving.now,
      record { setup = moved_on on.setup refl refl refl; going = on.going; written = written_offered z.offer.offered (written_spare z.under.written) c.in-Ok-add_dropped.ensures.added c.in-Ok-add_dropped.ensures.told },
      (tt, ap (λ (n : ℕ). n + 1) z.same.0, omega (arith, latest)),
    )

pub returns-in-Ok-add_dropped-clause-only : goal.returns-in-Ok-add_dropped-clause-only
returns-in-Ok-add_dropped-clause-only g c = then_ok c.requires.under.3.written.given (only_spare c.in-Ok-Made.ensures.only) c.in-Ok-add_dropped.ensures.only

pub returns-in-Err-add_dropped-clause-broken : goal.returns-in-Err-add_dropped-clause-broken
returns-in-Err-add_dropped-clause-broken g c = λ x arrived g' u h.
    let to = (goal.at.returns-in-Err-add_dropped-clause-broken g c).In-Ok in
    let z = offered g to x arrived g' u h in
    let y : Setup = played g to x in
    let begun = begun_of z.offer.on in (
      offered_by y (before g to) c.args.words.now z.events c.args.arriving.now,
      record { begun = begun; fronts = fronts_offered z.offer.offered z.under.written.given c.in-Ok-Made.ensures.only.same c.in-Err-add_dropped.ensures.stopped },
      with_stays y z.held (offer_of (before g to).shown.policy c.args.words.now.seed z.events (bare_arrival (arrival_of y.place c.args.arriving.now))) refl tt begun.events,
    )

pub returns-in-Err-add_dropped-clause-only : goal.returns-in-Err-add_dropped-clause-only
returns-in-Err-add_dropped-clause-only g c = then_err c.requires.under.3.written.given (only_spare c.in-Ok-Made.ensures.only) c.in-Err-add_dropped.ensures.only

-- without memory for the packet's bytes what was written before stays
pub returns-in-Err-offer-clause-broken : goal.returns-in-Err-offer-clause-broken
returns-in-Err-offer-clause-broken g c = λ x arrived g' u h.
    let d = c.in-Ok-Made.ensures.due x arrived c.args.words.now g' u (held_arrives h) in
    let y : Setup = classed (classing (g.C.Classify.placed c.args.classify.now) (g.C.Classify.dressed c.args.classify.now) c.args.names.now) x in
    let same = c.in-Ok-Made.ensures.only.same in
    let begun = begun_of (on d.1) in (
      d.0,
      record { begun = begun; fronts = fronts_files same.departures same.fates (fronts_of_texts d.1.written.given) },
      before_stays y h d.0 d.2.0 begun.events,
    )

pub returns-in-Err-offer-clause-only : goal.returns-in-Err-offer-clause-only
returns-in-Err-offer-clause-only g c =
    let only = c.in-Ok-Made.ensures.only in
    record { same = same_spare only.same; others = only.others; no_fault = tt; why = tt }
