-- Its configuration, its arrivals, its play and its summary, each of which may end it.
use Rattle.std.proofs.Common.{◌≡◌, ◌≤◌, ◌∙◌, true, length, Option, Some, ap, sym, subst}
use Rattle.arrivals_front.specs.declared.given.Given.{Given}
use Rattle.command_form.specs.Names.{names_read}
use Rattle.conf_tree.specs.declared.interface.Interface.{Interface}
use Rattle.interface_play.specs.Setup.{IsConfigured}
use Rattle.play_command.proofs.PlayedLaws.{configured_of}
use Rattle.make_command.proofs.MadeLemmas.{Begins, make_failed, make_said, make_unsaid}
use Rattle.make_command.proofs.MakeLemmas.{Asks, make_unready, open_failed, write_failed}
use Rattle.make_command.proofs.making.make.Given.{Over}
use Rattle.make_command.proofs.making.make.Goals.{After-play_of-play, In-Ok}
use Rattle.make_command.proofs.making.make.Goals as goal

pub returns-in-Err : goal.returns-in-Err
returns-in-Err g c = rw c.unready_failure.ensures (make_unready _ _ _ _ _ c.in-Err.unready c.in-Err.ensures.came c.in-Err.ensures.unready)

asks : (g : Over) (c : In-Ok g)
    → Asks (g.F.Files.view c.args.files.now) (g.F.Files.view c.read_configuration.new.files) (names_read c.args.words.now.play) c.in-Ok.read
asks g c = record { come = c.in-Ok.ensures.came; had = c.in-Ok.ensures.had; counts = c.in-Ok.ensures.counts; distinct = c.requires.distinct }

pub returns-in-Err-write_arrivals : goal.returns-in-Err-write_arrivals
returns-in-Err-write_arrivals g c =
    let x = c.in-Err-write_arrivals.ensures in
    write_failed (asks g (goal.at.returns-in-Err-write_arrivals g c).In-Ok) c.args.words.now.play.seed c.args.words.now.count x.along x.front x.said x.why

pub returns-in-Err-open_arrivals : goal.returns-in-Err-open_arrivals
returns-in-Err-open_arrivals g c =
    let k = asks g (goal.at.returns-in-Err-open_arrivals g c).In-Ok in
    let x = c.in-Ok-write_arrivals.ensures in
    let y = c.in-Err-open_arrivals.ensures in
    open_failed (record { asks = k; file = x.came.0; came = x.came.1; whole = x.whole; counts = x.counts; said = x.said }) y.along y.said y.why

pub play_source-requires-clause-configured : goal.play_source-requires-clause-configured
play_source-requires-clause-configured g c =
    let h = c.in-Ok.ensures.had.accepted in
    subst IsConfigured (sym c.play_of-play.ensures.interface) (configured_of _ h.text _ _ h.read c.found-interface.ensures)

pub play_source-requires-clause-few : goal.play_source-requires-clause-few
play_source-requires-clause-few g c =
    let P : Given → Type 0 = λ y. y.rest ≡ true → length y.front.items ≤ 4 in
    subst P (sym c.play_of-play.ensures.given) (λ e. c.in-Ok-open_arrivals.ensures.few)

begins : (g : Over) (c : After-play_of-play g)
    → Asks (g.F.Files.view c.args.files.now) (g.F.Files.view c.read_configuration.new.files) (names_read c.args.words.now.play) c.in-Ok.read
    → Begins (g.F.Files.view c.args.files.now) (g.F.Files.view c.read_configuration.new.files) (g.F.Files.view c.write_arrivals.new.files)
    (g.F.Files.view c.open_arrivals.new.files) (names_read c.args.words.now.play) c.args.words.now.play.seed c.args.words.now.count c.play_of-play.result
    c.in-Ok.read c.in-Ok-open_arrivals.opened.0 c.in-Ok-open_arrivals.opened.1
begins g c k =
    let x = c.in-Ok-write_arrivals.ensures in
    let y = c.in-Ok-open_arrivals.ensures in
    let o = c.play_of-play.ensures in
    record {
      written = record { asks = k; file = x.came.0; came = x.came.1; whole = x.whole; counts = x.counts; said = x.said };
      opened = y.came;
      counts = y.counts;
      said = y.said;
      rest = y.rest;
      behind = y.behind;
      found = c.found-interface.ensures ∙ ap {B = Option Interface} Some (sym o.interface);
      given = o.given;
      at = o.file;
      seeded = o.seed;
      places = o.places;
    }

pub returns-in-Err-play_source : goal.returns-in-Err-play_source
returns-in-Err-play_source g c =
    let at = goal.at.returns-in-Err-play_source g c in
    make_failed (begins g at.After-play_of-play (asks g at.In-Ok)) c.in-Err-play_source.ensures.only c.in-Err-play_source.ensures.ended c.play_failure.ensures

pub returns-in-Ok-say_summary : goal.returns-in-Ok-say_summary
returns-in-Ok-say_summary g c =
    let at = goal.at.returns-in-Ok-say_summary g c in
    make_said (begins g at.After-play_of-play (asks g at.In-Ok)) c.in-Ok-play_source.ensures.only c.in-Ok-play_source.ensures.ended
    c.in-Ok-say_summary.ensures.said c.in-Ok-say_summary.ensures.counts

pub returns : goal.returns
returns g c =
    let at = goal.at.returns g c in
    make_unsaid (begins g at.After-play_of-play (asks g at.In-Ok)) c.in-Ok-play_source.ensures.only c.in-Ok-play_source.ensures.ended
    c.in-Err-say_summary.ensures.refused c.in-Err-say_summary.ensures.why
