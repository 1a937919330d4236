-- Files that were just created are ready for a play.
use Rattle.std.proofs.Common.{◌≡◌, ◌≤◌, ◌∙◌, ℕ, List, [], Some, length, sym}
use Rattle.std.specs.Prelude.{IsTrue}
use Rattle.play_base.specs.Holds.{HoldsAt}
use Rattle.play_base.specs.View.{Created, Opened, View}
use Rattle.play_base.proofs.HoldsLaws.{holds_beside_created, holds_created}
use Rattle.play_base.proofs.ViewLaws.{is_some_of}
use Rattle.play_loop.specs.declared.fault.Opened as loop
use Rattle.play_loop.specs.Played.{AreReady}
use Rattle.play_words.specs.Words.{AreDistinct}

pub are_ready : (a b c d e : View) (config arrivals departures fates stats : List ℕ) (o : loop.Opened) → length o.first.now ≤ 24
    → AreDistinct config arrivals departures fates stats → Opened a b 2 arrivals o.arrivals → Created b c 3 departures o.departures
    → Created c d 4 fates o.fates → Created d e 5 stats o.stats → AreReady e o
are_ready a b c d e config arrivals departures fates stats o few q x y z w =
    let f : ℕ = o.arrivals in
    let g : ℕ = o.departures in
    let h : ℕ = o.fates in
    let k : ℕ = o.stats in
    let fc : c.part f ≡ Some 2 = y.keeps.part f 2 x.is_new.part in
    let fd : d.part f ≡ Some 2 = z.keeps.part f 2 fc in
    let fe : e.part f ≡ Some 2 = w.keeps.part f 2 fd in
    let gd : d.part g ≡ Some 3 = z.keeps.part g 3 y.is_new.part in
    let ge : e.part g ≡ Some 3 = w.keeps.part g 3 gd in
    let he : e.part h ≡ Some 4 = w.keeps.part h 4 z.is_new.part in
    let tc : IsTrue a.tells → IsTrue c.tells = λ t. y.keeps.tells ∙ x.keeps.tells ∙ t in
    let td : IsTrue a.tells → IsTrue d.tells = λ t. z.keeps.tells ∙ tc t in
    let back : IsTrue e.tells → IsTrue a.tells = λ t. sym (w.keeps.tells ∙ z.keeps.tells ∙ y.keeps.tells ∙ x.keeps.tells) ∙ t in
    let nfe : IsTrue a.tells → e.name f ≡ arrivals = λ t. w.keeps.name f 2 fd ∙ z.keeps.name f 2 fc ∙ y.keeps.name f 2 x.is_new.part ∙ x.is_new.name t in
    let ngd : IsTrue a.tells → d.name g ≡ departures = λ t. z.keeps.name g 3 y.is_new.part ∙ y.is_new.name (x.keeps.tells ∙ t) in
    let nge : IsTrue a.tells → e.name g ≡ departures = λ t. w.keeps.name g 3 gd ∙ ngd t in
    let nhe : IsTrue a.tells → e.name h ≡ fates = λ t. w.keeps.name h 4 z.is_new.part ∙ z.is_new.name (tc t) in
    let nke : IsTrue a.tells → e.name k ≡ stats = λ t. w.is_new.name (td t) in
    let one : HoldsAt d g [] =
    holds_beside_created c d 4 fates h g [] (holds_created b c 3 departures g y) (λ t s. q.departures_fates (sym (y.is_new.name (sym y.keeps.tells ∙ t)) ∙ s)) z in
    record {
      arrivals = is_some_of (e.part f) 2 fe;
      few = few;
      empty = record {
        departures = holds_beside_created d e 5 stats k g [] one (λ t s. q.departures_stats (sym (ngd (back (w.keeps.tells ∙ t))) ∙ s)) w;
        fates = holds_beside_created d e 5 stats k h [] (holds_created c d 4 fates h z) (λ t s. q.fates_stats (sym (z.is_new.name (sym z.keeps.tells ∙ t)) ∙ s)) w;
        apart = λ t s. q.departures_fates (sym (nge (back t)) ∙ s ∙ nhe (back t));
      };
      from_departures = λ t s. q.arrivals_departures (sym (nfe (back t)) ∙ s ∙ nge (back t));
      from_fates = λ t s. q.arrivals_fates (sym (nfe (back t)) ∙ s ∙ nhe (back t));
      stats = holds_created d e 5 stats k w;
      departures_from_stats = λ t s. q.departures_stats (sym (nge (back t)) ∙ s ∙ nke (back t));
      fates_from_stats = λ t s. q.fates_stats (sym (nhe (back t)) ∙ s ∙ nke (back t));
    }
