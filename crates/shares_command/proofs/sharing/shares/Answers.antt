-- Its inputs, its play and its lines, each of which may end it.
use Rattle.std.proofs.Common.{◌∙◌, ℕ, List, Option, Some, ap, sym, subst}
use Rattle.command_form.specs.Names.{names_read}
use Rattle.conf_tree.specs.declared.interface.Interface.{Interface}
use Rattle.play_base.specs.View.{Said}
use Rattle.play_command.proofs.PlayedLaws.{Begins, begins_behind}
use Rattle.shares_command.proofs.SharesLemmas.{may_play, shares_failed, shares_said, shares_unready, shares_unsaid}
use Rattle.shares_command.proofs.sharing.shares.Given.{Over}
use Rattle.shares_command.proofs.sharing.shares.Goals.{After-play_of-play}
use Rattle.shares_command.proofs.sharing.shares.Goals as goal

pub returns-in-Err : goal.returns-in-Err
returns-in-Err g c = rw c.unready_failure.ensures (shares_unready _ _ _ _ c.in-Err.unready c.in-Err.ensures.came c.in-Err.ensures.unready)

begins : (g : Over) (c : After-play_of-play g)
    → Begins (g.F.Files.view c.args.files.now) (g.F.Files.view c.read_inputs.new.files) (names_read c.args.words.now) c.args.words.now.seed c.play_of-play.result
    c.in-Ok.both.0 c.in-Ok.both.1
begins g c = record {
  come = c.in-Ok.ensures.came;
  had = c.in-Ok.ensures.had;
  counts = c.in-Ok.ensures.counts;
  found = c.found-interface.ensures ∙ ap {B = Option Interface} Some (sym c.play_of-play.ensures.interface);
  given = c.play_of-play.ensures.given;
  file = c.play_of-play.ensures.file;
  seeded = c.play_of-play.ensures.seed;
  places = c.play_of-play.ensures.places;
  distinct = c.requires;
}

pub play_lines-requires : goal.play_lines-requires
play_lines-requires g c = may_play (begins g (goal.at.play_lines-requires g c).After-play_of-play)

pub returns-in-Err-play_lines : goal.returns-in-Err-play_lines
returns-in-Err-play_lines g c =
    let b = begins g (goal.at.returns-in-Err-play_lines g c).After-play_of-play in
    shares_failed b c.in-Err-play_lines.ensures.only (c.in-Err-play_lines.ensures.ended _ _ _ (begins_behind b)) c.play_failure.ensures

pub returns-in-Ok-say_answer : goal.returns-in-Ok-say_answer
returns-in-Ok-say_answer g c =
    let b = begins g (goal.at.returns-in-Ok-say_answer g c).After-play_of-play in
    let P : List ℕ → Type 0 = λ ls. Said (g.F.Files.view c.play_lines.new.files) (g.F.Files.view c.say_answer.new.files) ls in
    shares_said b c.in-Ok-play_lines.ensures.only (c.in-Ok-play_lines.ensures.ended _ _ _ (begins_behind b)).1
    (subst P c.as_bytes.ensures.value c.in-Ok-say_answer.ensures.said) c.in-Ok-say_answer.ensures.counts

pub returns : goal.returns
returns g c =
    let b = begins g (goal.at.returns g c).After-play_of-play in
    shares_unsaid b c.in-Ok-play_lines.ensures.only (c.in-Ok-play_lines.ensures.ended _ _ _ (begins_behind b)).1 c.in-Err-say_answer.ensures.refused
    c.in-Err-say_answer.ensures.why
