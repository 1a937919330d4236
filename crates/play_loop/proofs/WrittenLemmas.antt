-- What a sending and an offer add to what is written of a play.
use Rattle.std.proofs.Common.{◌≡◌, ◌++◌, ◌∙◌, ◌+◌, ℕ, List, [], ◌∷◌, ap, sym, subst}
use Rattle.std.specs.declared.option.Option.{Option}
use Rattle.altq_model.specs.declared.Counts.{Counts}
use Rattle.altq_model.specs.declared.Placed.{Placed}
use Rattle.altq_model.specs.Arrivals.{Captured, bare_arrival}
use Rattle.altq_model.specs.History.{DrawnWords, LabelledEvent, unlabelled, drawn, offered, journal}
use Rattle.altq_model.specs.Play.{offer_of}
use Rattle.play_base.specs.View.{View}
use Rattle.play_text.specs.Names.{name_of}
use Rattle.play_core.specs.declared.turn.Departure.{Departure}
use Rattle.play_core.specs.declared.turn.Dropped.{Dropped}
use Rattle.play_core.specs.Turns.{departs, drop_of}
use Rattle.play_core.proofs.OfferLemmas.{is_bare_arrival}
use Rattle.play_loop.specs.declared.arriving.Arriving.{Arriving}
use Rattle.play_loop.specs.declared.kept.KeptFate.{KeptFate}
use Rattle.play_loop.specs.declared.outputs.Outputs.{Outputs}
use Rattle.play_loop.specs.declared.spare.Spare.{Spare}
use Rattle.class_counts.specs.Counting.{HasCounted}
use Rattle.play_loop.specs.KeptFates.{dropped_fates, kept_fates, sent_fate}
use Rattle.play_loop.specs.Outputs.{AddsDropped, AddsSent, HasFronts, SameFiles, StopsDropped, StopsSent, dropped_counts, dropped_rows}
use Rattle.play_loop.specs.Reading.{arrival_of}
use Rattle.play_loop.specs.Setup.{Setup, departures_of, fates_of}
use Rattle.play_loop.specs.Underway.{AreWritten, HasGiven, IsBroken, IsNextArrival, Moment}
use Rattle.class_counts.proofs.CountingLemmas.{counted_by, counted_sent}
use Rattle.play_loop.proofs.OutputLemmas.{fronts_files, fronts_same, texts_same}
use Rattle.play_loop.proofs.TextLemmas.{departures_offered, departures_sent, fates_offered, fates_sent, told_offered, told_sent}
use Rattle.play_loop.proofs.TurnLemmas.{IsOn, IsSent, begun_of}

module _ {x : Setup} {l : Moment} {arrived : List Captured} {w : DrawnWords} {g : List LabelledEvent} {d : Departure} (s : IsSent x l arrived w g d) where
  pub written_sent : {u v : View} {p q : Outputs} {told after : List KeptFate → Type 0} → AreWritten x u p told arrived g → AddsSent x.dress x.names u v p q d
      → ((ks : List KeptFate) → told ks → after (ks ++ sent_fate d ∷ [])) → AreWritten x v q after arrived (departs d ∷ g)
  written_sent {p = p} {after = after} y a tells =
      let C : List Counts → Type 0 = λ ks. HasCounted x.names arrived (journal (departs d ∷ g)) ks in
      record {
        given = texts_same (a.wrote _ _ y.given) (departures_sent g s.leaves x.dress s.mark_is) (fates_sent g s.leaves (name_of x.names));
        counted = subst C (sym a.counted) (counted_sent x.names arrived (journal g) d p.counts.items y.counted s.leaves.class s.leaves.len);
        was_told = subst after (told_sent g s.leaves) (tells _ y.was_told);
        fit = y.fit;
      }

  pub broken_sent : {u v : View} {o p : Outputs} → HasGiven x u p arrived g → SameFiles o p → StopsSent x.dress x.names u v p d → IsBroken x v o arrived (departs d ∷ g)
  broken_sent y same stops = record {
    begun = begun_of s.on;
    fronts = fronts_files same.departures same.fates
        (fronts_same (departures_sent g s.leaves x.dress s.mark_is) (fates_sent g s.leaves (name_of x.names)) (stops _ _ y));
  }

-- whatever memory is left to the next packet that is kept
pub written_spare : {x : Setup} {v : View} {o : Outputs} {spare : Spare} {told : List KeptFate → Type 0} {arrived : List Captured} {g : List LabelledEvent} → AreWritten x v o told arrived g
    → AreWritten x v (record o { spare = spare }) told arrived g
written_spare y = record { given = y.given; counted = y.counted; was_told = y.was_told; fit = y.fit }

-- the offer of the next packet, and what was told of it
pub record IsOffered (x : Setup) (m : Moment) (arrived : List Captured) (w : DrawnWords) (g : List LabelledEvent) (a : Arriving) (back : Option Dropped) : Type 0 where
  pub held : IsNextArrival x.place arrived g a
  pub words : w.drawn ≡ drawn (unlabelled g)
  pub back_is : back ≡ drop_of (m.shown.policy.answer (unlabelled g) w (bare_arrival (arrival_of x.place a))).verdict a.packet

-- the history with it
abbrev pub offered_by : Setup → Moment → DrawnWords → List LabelledEvent → Arriving → List LabelledEvent
offered_by x m w g a = offer_of m.shown.policy w.seed g (bare_arrival (arrival_of x.place a)) ∷ g

-- it was made, and the play goes on with it
pub record IsOfferMade (x : Setup) (m n : Moment) (arrived : List Captured) (w v : DrawnWords) (g : List LabelledEvent) (a : Arriving) (back : Option Dropped) : Type 0 where
  pub offered : IsOffered x m arrived w g a back
  pub on : IsOn x n arrived v (offered_by x m w g a)

module _ {x : Setup} {l : Moment} {arrived : List Captured} {w : DrawnWords} {g : List LabelledEvent} {a : Arriving} {back : Option Dropped} (o : IsOffered x l arrived w g a back) where
  back_of : back ≡ drop_of (l.shown.policy.answer (unlabelled g) (record { seed = w.seed; drawn = drawn (unlabelled g) }) (bare_arrival (arrival_of x.place a))).verdict a.packet
  back_of =
      o.back_is
      ∙ ap (λ (n : ℕ). drop_of (l.shown.policy.answer (unlabelled g) (record { seed = w.seed; drawn = n }) (bare_arrival (arrival_of x.place a))).verdict a.packet) o.words

  -- the row that it adds, what it tells, and what it counts
  rows_after : fates_of x arrived g ++ dropped_rows (name_of x.names) a.placed.class back ≡ fates_of x arrived (offered_by x l w g a)
  rows_after =
      let b : Captured = arrival_of x.place a in
      rw back_of (fates_offered l.shown.policy w.seed arrived g b a.packet (is_bare_arrival arrived g b o.held.there).numbered_is o.held.packet_is (name_of x.names) a.placed.class
      (ap (λ (k : Placed). k.class) o.held.placed_is))

  told_after : kept_fates arrived (journal g) ++ dropped_fates back ≡ kept_fates arrived (journal (offered_by x l w g a))
  told_after =
      let b : Captured = arrival_of x.place a in
      rw back_of (told_offered l.shown.policy w.seed arrived g b a.packet (is_bare_arrival arrived g b o.held.there).numbered_is o.held.packet_is)

  counted_after : (ks : List Counts) → HasCounted x.names arrived (journal g) ks
      → HasCounted x.names arrived (journal (offered_by x l w g a)) (dropped_counts x.names a.placed.class back ks)
  counted_after ks k =
      let b : Captured = arrival_of x.place a in
      rw back_of (counted_by x.names arrived (journal g) (offered (unlabelled g) + 1) a.placed.class
      (l.shown.policy.answer (unlabelled g) (record { seed = w.seed; drawn = drawn (unlabelled g) }) (bare_arrival b)).verdict a.packet ks k
      (ap (λ (q : Placed). q.class) o.held.placed_is ∙ ap (λ (q : Captured). q.class) (sym (is_bare_arrival arrived g b o.held.there).numbered_is)))

  pub written_offered : {u v : View} {p q : Outputs} {told after : List KeptFate → Type 0} → AreWritten x u p told arrived g → AddsDropped x.names u v p q a.placed.class back
      → ((ks : List KeptFate) → told ks → after (ks ++ dropped_fates back)) → AreWritten x v q after arrived (offered_by x l w g a)
  written_offered {p = p} {after = after} y adds tells =
      let C : List Counts → Type 0 = λ ks. HasCounted x.names arrived (journal (offered_by x l w g a)) ks in
      record {
        given = texts_same (adds.wrote _ _ y.given) (departures_offered x.dress l.shown.policy w.seed arrived g (bare_arrival (arrival_of x.place a))) rows_after;
        counted = subst C (sym adds.counted) (counted_after p.counts.items y.counted);
        was_told = subst after told_after (tells _ y.was_told);
        fit = y.fit;
      }

  -- where that is not written whole
  pub fronts_offered : {u v : View} {o p : Outputs} → HasGiven x u p arrived g → SameFiles o p → StopsDropped x.names u v p a.placed.class back
      → HasFronts v o (departures_of x arrived (offered_by x l w g a)) (fates_of x arrived (offered_by x l w g a))
  fronts_offered y same stops =
      fronts_files same.departures same.fates
      (fronts_same (departures_offered x.dress l.shown.policy w.seed arrived g (bare_arrival (arrival_of x.place a))) rows_after (stops _ _ y))
