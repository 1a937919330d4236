-- The play ends before its capture, or with it, and then the statistics are written.
use Rattle.std.proofs.Common.{◌∙◌, ℕ, List, [], inl, refl, subst, arith}
use Rattle.altq_model.specs.declared.Counts.{Counts}
use Rattle.play_base.specs.View.{Wrote, WroteFront}
use Rattle.play_base.proofs.ViewLaws.{same_trans}
use Rattle.play_text.specs.Names.{NameList}
use Rattle.play_text.specs.Statistics.{stats_of}
use Rattle.play_loop.specs.Setup.{Setup, setup_of}
use Rattle.play_loop.specs.Told.{Tells}
use Rattle.play_loop.proofs.KeptLemmas.{grows_wrote, heads_on}
use Rattle.play_loop.proofs.PlayLemmas.{no_heads, stopped_empty}
use Rattle.play_loop.proofs.StatsLemmas.{explains_stats, fronts_whole, keeps_played, keeps_written, leaves_none, leaves_stats, no_stats, plays_told, tells_whole, took_played, took_written}
use Rattle.play_loop.proofs.playing.play_told.Given.{Over}
use Rattle.play_loop.proofs.playing.play_told.Goals.{In-Ok-write_stats}
use Rattle.play_loop.proofs.playing.play_told.Goals as goal

abbrev setup : (g : Over) → g.row.D.Denot → g.row.C.Denot → NameList → (rate seed : ℕ) → Setup
setup g d k names rate seed = setup_of (g.D.Discipline.view d).policy (g.C.Classify.placed k) (g.C.Classify.dressed k) names rate seed

pub returns-in_default-clause-front : goal.returns-in_default-clause-front
returns-in_default-clause-front g c = λ t rest l records last r s. stopped_empty _ _ c.args.opened.now records c.requires.ready

pub play_capture-requires-clause-sound : goal.play_capture-requires-clause-sound
play_capture-requires-clause-sound g c = record {
  positive = omega (arith, c.requires.least);
  lawful = g.met.D.Discipline.lawful c.args.discipline.now [] c.requires.new;
  steady = g.met.D.Discipline.steady c.args.discipline.now [] c.requires.new;
  distinct = g.met.D.Discipline.distinct c.args.discipline.now [] c.requires.new;
  held = c.requires.held;
  precs = c.requires.precs;
  named = c.requires.named;
}

pub returns-in-Err-clause-stats : goal.returns-in-Err-clause-stats
returns-in-Err-clause-stats g c = leaves_none (setup g c.args.discipline.now c.args.classify.now c.args.names.now c.args.rate c.args.words.now.seed) (g.F.Files.view c.args.files.now) (g.F.Files.view c.play_capture.new.files) c.args.opened.now c.in-Err.fault
    c.in-Err.ensures.answer.before_stats (no_stats c.requires.ready c.in-Err.ensures.others.keeps)

pub returns-in-Err-clause-keeps : goal.returns-in-Err-clause-keeps
returns-in-Err-clause-keeps g c = keeps_played c.args.opened.now c.in-Err.ensures.others.keeps

-- the whole play, told
told : (g : Over) (c : In-Ok-write_stats g)
    → Tells (setup g c.args.discipline.now c.args.classify.now c.args.names.now c.args.rate c.args.words.now.seed) (g.D.Discipline.view c.play_capture.new.discipline).represents
    (g.K.Keeper.told c.play_capture.new.keeper) (g.F.Files.view c.args.files.now) (g.F.Files.view c.write_stats.new.files) c.args.opened.now c.in-Ok-play_capture.tally.totals
told g c =
    let P : List Counts → Type 0 = λ ks. Wrote (g.F.Files.view c.play_capture.new.files) (g.F.Files.view c.write_stats.new.files) c.args.opened.now.stats (stats_of c.args.names.now ks) in
    tells_whole c.requires.ready c.in-Ok-play_capture.ensures.others.keeps _ _ _ _ c.in-Ok-play_capture.tally c.in-Ok-play_capture.ensures.answer.done
    (subst P c.as_slice.ensures.value c.in-Ok-write_stats.ensures.wrote)

pub returns-in_default-clause-took : goal.returns-in_default-clause-took
returns-in_default-clause-took g c = λ h all l. ([], all, refl, l)

pub returns-in-Err-clause-took : goal.returns-in-Err-clause-took
returns-in-Err-clause-took g c = took_played c.args.opened.now c.requires.ready c.in-Err.ensures.others

pub returns-in-Ok-write_stats-clause-took : goal.returns-in-Ok-write_stats-clause-took
returns-in-Ok-write_stats-clause-took g c = took_written c.args.opened.now c.requires.ready c.in-Ok-play_capture.ensures.others c.in-Ok-write_stats.ensures.wrote

pub returns-clause-took : goal.returns-clause-took
returns-clause-took g c = took_written c.args.opened.now c.requires.ready c.in-Ok-play_capture.ensures.others c.in-Err-write_stats.ensures.front.1

pub returns-in-Ok-write_stats-clause-done : goal.returns-in-Ok-write_stats-clause-done
returns-in-Ok-write_stats-clause-done g c = plays_told _ _ (g.K.Keeper.told c.play_capture.new.keeper) (g.F.Files.view c.args.files.now) (g.F.Files.view c.write_stats.new.files) c.args.opened.now c.in-Ok-play_capture.tally.totals (told g (goal.at.returns-in-Ok-write_stats-clause-done g c).In-Ok-write_stats)

pub returns-in-Ok-write_stats-clause-told : goal.returns-in-Ok-write_stats-clause-told
returns-in-Ok-write_stats-clause-told g c = told g (goal.at.returns-in-Ok-write_stats-clause-told g c).In-Ok-write_stats

pub returns-in-Ok-write_stats-clause-keeps : goal.returns-in-Ok-write_stats-clause-keeps
returns-in-Ok-write_stats-clause-keeps g c = keeps_written c.requires.ready c.in-Ok-play_capture.ensures.others.keeps c.in-Ok-write_stats.ensures.wrote

pub returns-clause-why : goal.returns-clause-why
returns-clause-why g c = explains_stats (setup g c.args.discipline.now c.args.classify.now c.args.names.now c.args.rate c.args.words.now.seed) _ (g.F.Files.view c.write_stats.new.files) c.args.opened.now c.in-Err-write_stats.fault c.in-Ok-play_capture.ensures.others.keeps c.in-Err-write_stats.ensures.why

pub returns-clause-front : goal.returns-clause-front
returns-clause-front g c = fronts_whole c.requires.ready c.in-Ok-play_capture.ensures.others.keeps _ _ _ _ c.in-Ok-play_capture.tally c.in-Ok-play_capture.ensures.answer.done
    c.in-Err-write_stats.ensures.front

pub returns-clause-stats : goal.returns-clause-stats
returns-clause-stats g c =
    let P : List Counts → Type 0 = λ ks. WroteFront (g.F.Files.view c.play_capture.new.files) (g.F.Files.view c.write_stats.new.files) c.args.opened.now.stats (stats_of c.args.names.now ks) in
    leaves_stats c.requires.ready c.in-Ok-play_capture.ensures.others.keeps _ _ _ _ c.in-Ok-play_capture.tally c.in-Ok-play_capture.ensures.answer.done c.in-Err-write_stats.fault
    (subst P c.as_slice.ensures.value c.in-Err-write_stats.ensures.front) c.in-Err-write_stats.ensures.why

pub returns-clause-keeps : goal.returns-clause-keeps
returns-clause-keeps g c = keeps_written c.requires.ready c.in-Ok-play_capture.ensures.others.keeps c.in-Err-write_stats.ensures.front.1

pub returns-in-Ok-write_stats-clause-no_fault : goal.returns-in-Ok-write_stats-clause-no_fault
returns-in-Ok-write_stats-clause-no_fault g c = same_trans _ _ _ c.in-Ok-play_capture.ensures.answer.no_fault c.in-Ok-write_stats.ensures.no_fault

pub returns-in-Ok-write_stats-clause-none : goal.returns-in-Ok-write_stats-clause-none
returns-in-Ok-write_stats-clause-none g c = λ f h. c.in-Ok-write_stats.ensures.wrote.none f (c.in-Ok-play_capture.ensures.others.none f h)

pub returns-in-Ok-write_stats-clause-said : goal.returns-in-Ok-write_stats-clause-said
returns-in-Ok-write_stats-clause-said g c = c.in-Ok-write_stats.ensures.wrote.said ∙ c.in-Ok-play_capture.ensures.others.said

pub returns-in-Ok-write_stats-clause-decided : goal.returns-in-Ok-write_stats-clause-decided
returns-in-Ok-write_stats-clause-decided g c = c.in-Ok-play_capture.ensures.answer.decided

pub returns-clause-none : goal.returns-clause-none
returns-clause-none g c = λ f h. c.in-Err-write_stats.ensures.front.1.none f (c.in-Ok-play_capture.ensures.others.none f h)

pub returns-clause-said : goal.returns-clause-said
returns-clause-said g c = c.in-Err-write_stats.ensures.front.1.said ∙ c.in-Ok-play_capture.ensures.others.said

pub returns-in-Err-clause-why : goal.returns-in-Err-clause-why
returns-in-Err-clause-why g c = c.in-Err.ensures.answer.why

pub returns-in-Err-clause-front : goal.returns-in-Err-clause-front
returns-in-Err-clause-front g c = c.in-Err.ensures.answer.front

pub returns-in_default-clause-heads : goal.returns-in_default-clause-heads
returns-in_default-clause-heads g c = no_heads _ c.args.opened.now c.requires.ready

pub returns-in-Err-clause-heads : goal.returns-in-Err-clause-heads
returns-in-Err-clause-heads g c = c.in-Err.ensures.answer.heads

pub returns-clause-heads : goal.returns-clause-heads
returns-clause-heads g c = λ t.
    let y = c.in-Ok-play_capture.ensures in
    let x = c.in-Err-write_stats.ensures.front.1 in
    inl (heads_on _ _ _ c.args.opened.now.departures c.args.opened.now.fates c.requires.ready.empty y.others.keeps x.keeps (grows_wrote x) t (y.answer.heads t))
