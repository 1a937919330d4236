-- Its inputs are not had, or its play ends it.
use Rattle.std.proofs.Common.{◌∙◌, Option, Some, ap, sym, subst}
use Rattle.conf_tree.specs.declared.interface.Interface.{Interface}
use Rattle.command_form.specs.Names.{names_read}
use Rattle.interface_play.specs.Setup.{IsConfigured}
use Rattle.play_command.proofs.PlayedLaws.{Begins, begins_behind, configured_of, play_ends, play_failed, play_unready}
use Rattle.play_command.proofs.playing.play.Given.{Over}
use Rattle.play_command.proofs.playing.play.Goals.{After-play_of-play}
use Rattle.play_command.proofs.playing.play.Goals as goal

pub returns-in-Err : goal.returns-in-Err
returns-in-Err g c = rw c.unready_failure.ensures (play_unready _ _ _ _ c.in-Err.unready c.in-Err.ensures.came c.in-Err.ensures.unready)

pub play_source-requires-clause-configured : goal.play_source-requires-clause-configured
play_source-requires-clause-configured g c =
    let h = c.in-Ok.ensures.had.accepted in
    subst IsConfigured (sym c.play_of-play.ensures.interface) (configured_of _ h.text _ _ h.read c.found-interface.ensures)

begins : (g : Over) (c : After-play_of-play g)
    → Begins (g.F.Files.view c.args.files.now) (g.F.Files.view c.read_inputs.new.files) (names_read c.args.words.now) c.args.words.now.seed c.play_of-play.result
    c.in-Ok.both.0 c.in-Ok.both.1
begins g c = record {
  come = c.in-Ok.ensures.came;
  had = c.in-Ok.ensures.had;
  counts = c.in-Ok.ensures.counts;
  found = c.found-interface.ensures ∙ ap {B = Option Interface} Some (sym c.play_of-play.ensures.interface);
  given = c.play_of-play.ensures.given;
  file = c.play_of-play.ensures.file;
  seeded = c.play_of-play.ensures.seed;
  places = c.play_of-play.ensures.places;
  distinct = c.requires;
}

pub returns-in-Ok-play_source : goal.returns-in-Ok-play_source
returns-in-Ok-play_source g c =
    let b = begins g (goal.at.returns-in-Ok-play_source g c).After-play_of-play in
    play_ends b c.in-Ok-play_source.ensures.only (c.in-Ok-play_source.ensures.ended _ _ _ (begins_behind b))

pub returns : goal.returns
returns g c =
    let b = begins g (goal.at.returns g c).After-play_of-play in
    play_failed b c.in-Err-play_source.ensures.only (c.in-Err-play_source.ensures.ended _ _ _ (begins_behind b)) c.play_failure.ensures
