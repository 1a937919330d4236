-- The outputs hold fronts where none was created, and after a whole play.
use Rattle.std.proofs.Common.{◌≡◌, ℕ, List, [], append-nil, inl, inr, subst}
use Rattle.capture_model.specs.Capture.{Record, End}
use Rattle.file_plans.specs.End.{Untouched}
use Rattle.file_plans.specs.Plan.{Place, number_of}
use Rattle.pcap_files.proofs.ReadingLaws.{one_reading}
use Rattle.play_base.specs.View.{View}
use Rattle.interface_play.specs.Fronts.{Fronts, HasFronts}
use Rattle.interface_play.specs.Played.{WasPlayed}
use Rattle.interface_play.specs.Setup.{setup_of}
use Rattle.interface_play.specs.Source.{Places, Source, played_of}

-- the place was not created, and its name keeps its bytes
abbrev pub IsLeft : View → View → Place → Type 0
IsLeft u v e = Untouched u v (number_of e) × (v.bytes e.name ≡ u.bytes e.name)

pub fronts_none : (u v : View) (w : Places) (seed : ℕ) (s : Source) → IsLeft u v w.departures → IsLeft u v w.fates → IsLeft u v w.stats → Fronts u v w seed s
fronts_none u v w seed s d f z = record {
  heads = inr (inl (inl f), λ memory. inl d.0);
  texts = λ records last reads is_last. record {
    history = [];
    begun = record { events = tt; in_time = tt };
    departures = inl d;
    fates = inl f;
    stats = inl (inl z);
  };
}

pub played_fronts : (old new : View) (w : Places) (seed : ℕ) (s : Source) → WasPlayed new w seed s → Fronts old new w seed s
played_fronts old new w seed s h = record {
  heads = inl ((_, h.texts.departures), (_, h.texts.fates));
  texts = λ records last reads is_last.
      let one = one_reading (played_of s) h.records records End last h.capture tt reads is_last in
      let P : List Record → Type 0 = λ rs. HasFronts old new w (setup_of s.interface seed) rs in
      subst P one.0 (record {
        history = h.history;
        begun = record { events = h.play.play.events; in_time = h.play.in_time };
        departures = inr (_, [], h.texts.departures, append-nil _);
        fates = inr (_, [], h.texts.fates, append-nil _);
        stats = inr (h.history, h.play.play, h.texts, inr (_, [], h.stats, append-nil _));
      });
}
