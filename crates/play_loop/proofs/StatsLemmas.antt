-- The statistics are written behind the other outputs.
use Rattle.std.proofs.Common.{◌≡◌, ◌++◌, ◌∙◌, inl, inr, ℕ, List, [], take, drop, refl, ap, sym, subst}
use Rattle.std.specs.Prelude.{IsTrue}
use Rattle.altq_model.specs.Arrivals.{Captured}
use Rattle.altq_model.specs.History.{LabelledEvent}
use Rattle.capture_model.specs.Capture.{Record, End}
use Rattle.pcap_files.proofs.ReadingLaws.{one_reading}
use Rattle.play_base.specs.Holds.{HoldsAt}
use Rattle.play_base.specs.View.{View, WriteFault, Wrote, WroteFront}
use Rattle.play_base.proofs.HoldsLaws.{apart_kept, holds_beside, holds_wrote}
use Rattle.play_base.proofs.ViewLaws.{keeps_fewer, later_trans, part_of_there, rose_later, still_there}
use Rattle.play_text.specs.Statistics.{stats_of}
use Rattle.play_loop.specs.declared.outputs.Tally.{Tally}
use Rattle.play_core.specs.declared.totals.Totals.{Totals}
use Rattle.play_loop.specs.declared.fault.Opened.{Opened}
use Rattle.play_loop.specs.declared.fault.Output.TheVariants as output
use Rattle.play_loop.specs.declared.fault.PlayFault.{PlayFault}
use Rattle.play_loop.specs.declared.fault.PlayFault.TheVariants as play
use Rattle.play_loop.specs.declared.kept.KeptFate.{KeptFate}
use Rattle.play_loop.specs.Kept.{KeepsBeside, KeepsPlayed, OnlyPlayed, TookOnly}
use Rattle.play_loop.specs.Outputs.{IsBeforeStats, IsStatsCause}
use Rattle.play_loop.specs.Played.{AreBegun, AreReady, Explains, Fronts, HasStopped, HoldTexts, LeavesStats, Plays, Writes}
use Rattle.play_loop.specs.Setup.{Setup}
use Rattle.play_loop.specs.Told.{Tells}
use Rattle.gathered_writes.proofs.GatherLemmas.{take_drop}
use Rattle.play_loop.proofs.KeptLemmas.{tail_trans}
use Rattle.play_loop.proofs.PlayLemmas.{whole_front}

pub keeps_played : {u v : View} (o : Opened) → KeepsBeside o.arrivals o.departures o.fates u v → KeepsPlayed o u v
keeps_played o k = keeps_fewer _ _ _ _ _ _ (λ n h. (h.0, h.1)) (λ f h. (h.0, (h.1.0, h.1.1))) k

pub plays_told : (x : Setup) (stood : List LabelledEvent → Type 0) (kept : List KeptFate → Type 0) (u v : View) (o : Opened) (t : Totals) → Tells x stood kept u v o t → Plays x stood u v o t
plays_told x stood kept u v o t p = λ told rest l. (let y = p told rest l in (y.0, y.1, y.2.played))

-- a write of the statistics that failed failed for them, or for lack of memory
by_cause : (P : PlayFault → Type 0) (stats : ℕ) (u v : View) (f : PlayFault) → IsStatsCause stats u v f → (WriteFault u v stats → P (play.Write output.Statistics)) → P play.NoMemory → P f
by_cause P stats u v (play.Write output.Departures) h s n = absurd h
by_cause P stats u v (play.Write output.Fates) h s n = absurd h
by_cause P stats u v (play.Write output.Statistics) h s n = s h
by_cause P stats u v play.NoMemory h s n = n
by_cause P stats u v (play.Capture damage) h s n = absurd h
by_cause P stats u v play.Read h s n = absurd h
by_cause P stats u v (play.Limit limit) h s n = absurd h

pub explains_stats : (x : Setup) (stood : List LabelledEvent → Type 0) {u v : View} (w : View) (o : Opened) (f : PlayFault) → KeepsBeside o.arrivals o.departures o.fates u v
    → IsStatsCause o.stats v w f → Explains x stood u w o f
explains_stats x stood {u} {v} w o f k h =
    by_cause (λ q. Explains x stood u w o q) o.stats v w f h (λ y p at. rose_later _ _ _ (k.later.write p) (y p (k.part o.stats p at))) tt

pub leaves_none : (x : Setup) (u v : View) (o : Opened) (f : PlayFault) → IsBeforeStats f → HoldsAt v o.stats [] → LeavesStats x u v o f
leaves_none x u v o (play.Write output.Departures) b h = h
leaves_none x u v o (play.Write output.Fates) b h = h
leaves_none x u v o (play.Write output.Statistics) b h = absurd b
leaves_none x u v o play.NoMemory b h = inl h
leaves_none x u v o (play.Capture damage) b h = h
leaves_none x u v o play.Read b h = h
leaves_none x u v o (play.Limit limit) b h = h

module _ {u v : View} {o : Opened} (r : AreReady u o) (k : KeepsBeside o.arrivals o.departures o.fates u v) where
  -- before the statistics are written, nothing was
  pub no_stats : HoldsAt v o.stats []
  no_stats = record {
    there = still_there _ _ u v o.stats k r.stats.there;
    bytes = λ t.
        let told : IsTrue u.tells = sym k.tells ∙ t in
        let p = part_of_there (u.part o.stats) r.stats.there in
        ap v.bytes (k.name o.stats p.0 p.1)
        ∙ k.bytes (u.name o.stats) ((λ e. r.departures_from_stats told (sym e)), (λ e. r.fates_from_stats told (sym e))) ∙ r.stats.bytes told;
  }

  pub keeps_written : {w : View} {ys : List ℕ} → Wrote v w o.stats ys → KeepsPlayed o u w
  keeps_written {w} x =
      let p = part_of_there (u.part o.stats) r.stats.there in
      let named : v.name o.stats ≡ u.name o.stats = k.name o.stats p.0 p.1 in
      record {
        tells = x.keeps.tells ∙ k.tells;
        bytes = λ n h. x.keeps.bytes n (λ e. h.2 (e ∙ named)) ∙ k.bytes n (h.0, h.1);
        left = λ f q at h. x.keeps.left f q (k.part f q at) (λ e. h.1.2 (sym (k.name f q at) ∙ e ∙ named)) ∙ k.left f q at (h.0, (h.1.0, h.1.1));
        part = λ f q at. x.keeps.part f q (k.part f q at);
        name = λ f q at. x.keeps.name f q (k.part f q at) ∙ k.name f q at;
        later = later_trans u v w k.later x.keeps.later;
      }

  -- departures and fates stay as they were
  texts_beside : {x : Setup} {w : View} {arrived : List Captured} {g : List LabelledEvent} {ys : List ℕ} → Wrote v w o.stats ys → HoldTexts v o x arrived g → HoldTexts w o x arrived g
  texts_beside s h = record {
    departures = holds_beside v _ o.departures o.stats _ _ h.departures
        (apart_kept _ _ u v o.departures o.stats r.empty.departures.there r.stats.there r.departures_from_stats k) s;
    fates = holds_beside v _ o.fates o.stats _ _ h.fates (apart_kept _ _ u v o.fates o.stats r.empty.fates.there r.stats.there r.fates_from_stats k) s;
  }

  module _ (x : Setup) (stood : List LabelledEvent → Type 0) (kept : List KeptFate → Type 0) (w : View) (t : Tally) (p : Writes x stood kept u v o t) where
    pub tells_whole : Wrote v w o.stats (stats_of x.names t.counts.items) → Tells x stood kept u w o t.totals
    tells_whole s = λ told rest l.
        let y = p told rest l in
        let z = y.2 in
        let T : List ℕ → Type 0 = λ e. HoldsAt w o.stats e in (
          y.0,
          y.1,
          record {
            played = record {
              history = z.history;
              play = z.play;
              texts = texts_beside s z.texts;
              stats = subst T (ap (stats_of x.names) z.counted.counts_are) (holds_wrote v w o.stats [] _ no_stats s);
              reads = z.reads;
              stands = z.stands;
            };
            told = z.was_told;
          },
        )

    -- where they could not be written whole
    pub fronts_whole : {text : List ℕ} → WroteFront v w o.stats text → Fronts x u w o
    fronts_whole s = λ told rest l records last reads is_last.
        let y = p told rest l in
        let z = y.2 in
        let one = one_reading (o.first.now ++ rest) records y.0 last End reads is_last y.1 tt in
        let P : List Record → Type 0 = λ q. HasStopped x w o q in
        let texts = texts_beside s.1 z.texts in
        subst P (sym one.0) (record {
          history = z.history;
          begun = record { events = z.play.play.events; in_time = z.play.in_time };
          texts = record { departures = whole_front texts.departures; fates = whole_front texts.fates };
        })

    begins_stats : WroteFront v w o.stats (stats_of x.names t.counts.items) → AreBegun x u w o
    begins_stats s = λ told rest l.
        let y = p told rest l in
        let z = y.2 in
        let text : List ℕ = stats_of x.names t.counts.items in (
          y.0,
          y.1,
          record {
            history = z.history;
            play = z.play.play;
            texts = texts_beside s.1 z.texts;
            stats = record {
              written = take s.0 text;
              rest = drop s.0 text;
              holds = holds_wrote v w o.stats [] _ no_stats s.1;
              split = take_drop s.0 text ∙ ap (stats_of x.names) z.counted.counts_are;
            };
          },
        )

    pub leaves_stats : (f : PlayFault) → WroteFront v w o.stats (stats_of x.names t.counts.items) → IsStatsCause o.stats v w f → LeavesStats x u w o f
    leaves_stats f s h = by_cause (λ q. LeavesStats x u w o q) o.stats v w f h (λ _. begins_stats s) (inr (begins_stats s))

-- what was taken of the arrivals
pub took_played : {u v : View} (o : Opened) → AreReady u o → OnlyPlayed o.arrivals o.departures o.fates u v → TookOnly o u v
took_played {u} o r x = λ h. (let p = part_of_there (u.part o.arrivals) r.arrivals in x.took p.0 p.1 (h.0, h.1))

pub took_written : {u v w : View} {ys : List ℕ} (o : Opened) → AreReady u o → OnlyPlayed o.arrivals o.departures o.fates u v → Wrote v w o.stats ys → TookOnly o u w
took_written {u} {v} {w} o r x y = λ h.
    let p = part_of_there (u.part o.arrivals) r.arrivals in
    let s = part_of_there (u.part o.stats) r.stats.there in
    let k = x.keeps in
    tail_trans u v w o.arrivals (x.took p.0 p.1 (h.0, h.1))
    (λ all l. ([], all, refl, y.keeps.left o.arrivals p.0 (k.part o.arrivals p.0 p.1) (λ e. h.2 (sym (k.name o.arrivals p.0 p.1) ∙ e ∙ k.name o.stats s.0 s.1)) ∙ l))
