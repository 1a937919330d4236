use Rattle.std.proofs.Common.{◌≡◌, ◌-◌, List, Ok}
use Rattle.altq_model.specs.Arrivals.{Captured}
use Rattle.altq_model.specs.History.{DrawnWords, LabelledEvent}
use Rattle.discipline.specs.View.{SameKind}
use Rattle.play_core.specs.Turns.{arrives}
use Rattle.play_loop.specs.Outputs.{AddsOnly}
use Rattle.play_loop.specs.Setup.{Setup}
use Rattle.play_loop.specs.Underway.{Classing, IsUnderway, Moment, SameOffers, classed, classing, moment}
use Rattle.play_loop.proofs.sending.send_due.Given as goal

abbrev pub invariant-turns : goal.invariant-turns
invariant-turns g l =
    let c : Classing = classing (g.C.Classify.placed l.classify) (g.C.Classify.dressed l.classify) l.names in
    let m : Moment = moment (g.D.Discipline.view l.fn.discipline) (g.F.Files.view l.fn.files) l.fn.outputs (g.K.Keeper.told l.fn.keeper) l.fn.progress in
    let n : Moment = moment (g.D.Discipline.view l.discipline) (g.F.Files.view l.files) l.outputs (g.K.Keeper.told l.keeper) l.progress in
    record {
      only : AddsOnly {A = Unit {0}} (g.F.Files.view l.fn.files) (g.F.Files.view l.files) l.fn.outputs l.outputs (Ok tt);
      fixed : g.K.Keeper.fixed l.keeper ≡ g.K.Keeper.fixed l.fn.keeper;
      kind : SameKind (g.D.Discipline.view l.fn.discipline) (g.D.Discipline.view l.discipline);
      under : (x : Setup) (arrived : List Captured) (w : DrawnWords) (k : List LabelledEvent) → IsUnderway (classed c x) m arrived w k → l.arrival ≡ arrives arrived k
          → (h : List LabelledEvent) × IsUnderway (classed c x) n arrived w h × SameOffers k h;
    }

abbrev pub decreases-turns : goal.decreases-turns
decreases-turns g l = 4000000 - l.progress.totals.sent
