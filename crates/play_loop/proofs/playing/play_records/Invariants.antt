use Rattle.std.proofs.Common.{◌≡◌, ◌-◌, ◌<◌, ◌^◌, List, None}
use Rattle.altq_model.specs.Arrivals.{Captured}
use Rattle.altq_model.specs.History.{LabelledEvent}
use Rattle.discipline.specs.View.{SameKind}
use Rattle.pcap_files.specs.Reading.{answered}
use Rattle.play_base.specs.View.{SameCounts}
use Rattle.play_loop.specs.Kept.{OnlyPlayed}
use Rattle.play_loop.specs.Outputs.{SameFiles}
use Rattle.play_loop.specs.Reading.{StartsOn}
use Rattle.play_loop.specs.Setup.{Setup, setup_of}
use Rattle.play_loop.specs.Underway.{Moment, moment}
use Rattle.play_loop.proofs.RecordLemmas.{IsReading}
use Rattle.play_loop.proofs.playing.play_records.Given as goal

abbrev pub invariant-records : goal.invariant-records
invariant-records g l =
    let x : Setup = setup_of (g.D.Discipline.view l.fn.discipline).policy (g.C.Classify.placed l.classify) (g.C.Classify.dressed l.classify) l.names l.fn.progress.clock.rate l.fn.words.seed in
    let m : Moment = moment (g.D.Discipline.view l.discipline) (g.F.Files.view l.files) l.outputs (g.K.Keeper.told l.keeper) l.progress in
    record {
      file : l.reader.file ≡ l.fn.reader.file;
      sound : l.reader.fault ≡ None;
      same : SameFiles l.fn.outputs l.outputs;
      others : OnlyPlayed l.fn.reader.file l.fn.outputs.departures l.fn.outputs.fates (g.F.Files.view l.fn.files) (g.F.Files.view l.files);
      fixed : g.K.Keeper.fixed l.keeper ≡ g.K.Keeper.fixed l.fn.keeper;
      kind : SameKind (g.D.Discipline.view l.fn.discipline) (g.D.Discipline.view l.discipline);
      no_fault : SameCounts (g.F.Files.view l.fn.files) (g.F.Files.view l.files);
      early : l.latest < 2 ^ 62;
      reading : (arrived : List Captured) × (k : List LabelledEvent) × IsReading x m l.words (StartsOn (g.F.Files.view l.fn.files) l.fn.reader) l.reader l.latest arrived k;
    }

abbrev pub decreases-records : goal.decreases-records
decreases-records g l = 4000000 - answered l.reader
