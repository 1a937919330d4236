-- Each end of a chain.
use Rattle.std.proofs.Common.{◌≡◌, ◌∙◌, ℕ, List, Option, Some, Err, ap, subst, sym}
use Rattle.std.specs.Prelude.{Result}
use Rattle.command_form.specs.Names.{links_read}
use Rattle.conf_tree.specs.declared.interface.Interface.{Interface}
use Rattle.file_plans.specs.Plan.{Place}
use Rattle.interface_play.specs.Ended.{HasEnded, IsBehind, OnlyPlays}
use Rattle.interface_play.specs.Setup.{IsConfigured, Untold}
use Rattle.play_base.specs.View.{View}
use Rattle.play_chain.specs.Keeping.{Holds}
use Rattle.play_command.proofs.PlayedLaws.{configured_of}
use Rattle.play_core.specs.declared.totals.Totals.{Totals}
use Rattle.play_loop.specs.declared.fault.PlayFault.{PlayFault}
use Rattle.play_loop.specs.declared.kept.KeptFate.{KeptFate}
use Rattle.run_outcomes.specs.declared.outcome.Failure.{Failure}
use Rattle.chain_command.specs.Chaining.{ChainEnds}
use Rattle.chain_command.proofs.EndLemmas.{first_fails, input_ends, opening_ends, second_fails}
use Rattle.chain_command.proofs.FirstLemmas.{FirstEnded, Run, first_ended, next_is, same_some}
use Rattle.chain_command.proofs.PathEndLemmas.{chain_done, has_rate, path_ends}
use Rattle.chain_command.proofs.SecondLemmas.{Passed, SecondEnded, passed, second_ended}
use Rattle.chain_command.proofs.chaining.chain.Given.{Over}
use Rattle.chain_command.proofs.chaining.chain.Goals.{After-play_of-first, After-second_of-second}
use Rattle.chain_command.proofs.chaining.chain.Goals as goal

pub returns-in-Err : goal.returns-in-Err
returns-in-Err g c =
    let n = links_read c.args.words.now in
    let u = g.F.Files.view c.args.files.now in
    let a = g.F.Files.view c.read_inputs.new.files in
    subst (λ (f : Failure). ChainEnds u a n c.args.words.now.play.seed (Err f)) (sym c.unready_failure.ensures)
    (input_ends n c.args.words.now.play.seed u a c.in-Err.unready c.in-Err.ensures.came c.in-Err.ensures.unready)

-- what the chain begins with
abbrev run : (g : Over) → After-play_of-first g → Run
run g c = record {
  before = g.F.Files.view c.args.files.now;
  ready = g.F.Files.view c.read_inputs.new.files;
  links = links_read c.args.words.now;
  conf = c.in-Ok.both.0;
  arrivals = c.in-Ok.both.1;
  next = c.found-next.result.now;
  seed = c.args.words.now.play.seed;
  distinct = c.requires;
  come = c.in-Ok.ensures.came;
  had = c.in-Ok.ensures.had;
  counts = c.in-Ok.ensures.counts;
  is_next = next_is _ _ (ap (λ (o : Option Interface). Some o) (sym c.found-next.ensures) ∙ c.in-Ok.ensures.had.accepted.next);
}

found_is : (g : Over) (c : After-play_of-first g) → c.in-Ok.ensures.had.configured.found ≡ c.play_of-first.result.interface.now
found_is g c = same_some _ _ (sym c.in-Ok.ensures.had.accepted.found ∙ c.found-interface.ensures) ∙ sym c.play_of-first.ensures.interface

configured : (g : Over) (c : After-play_of-first g) → IsConfigured c.in-Ok.ensures.had.configured.found
configured g c = let a = c.in-Ok.ensures.had.accepted in configured_of _ a.text _ _ a.read a.found

pub play_source-requires-clause-configured : goal.play_source-requires-clause-configured
play_source-requires-clause-configured g c =
    let a = (goal.at.play_source-requires-clause-configured g c).After-play_of-first in subst IsConfigured (found_is g a) (configured g a)

pub play_source-requires-2-clause-configured : goal.play_source-requires-2-clause-configured
play_source-requires-2-clause-configured g c =
    let a = c.in-Ok.ensures.had.accepted in
    subst IsConfigured (sym c.second_of-second.ensures.interface) (configured_of _ a.text _ _ a.read c.found-next.ensures)

-- its first play ended
first : (g : Over) (c : After-play_of-first g) {kept : List KeptFate → Type 0} {v : View} {r : Result Totals PlayFault}
    → OnlyPlays (run g c).ready v c.play_of-first.result → ((u : View) (es : List Place) (fs : List ℕ)
    → IsBehind u (run g c).ready es fs c.play_of-first.result → HasEnded Untold kept u (run g c).ready v es fs c.play_of-first.result r)
    → FirstEnded (run g c) kept v r
first g c = let y = c.play_of-first.ensures in first_ended (run g c) c.play_of-first.result (found_is g c) y.given y.file y.seed y.places

pub returns-in-Err-play_source : goal.returns-in-Err-play_source
returns-in-Err-play_source g c =
    let a = (goal.at.returns-in-Err-play_source g c).After-play_of-first in
    let e = c.in-Err-play_source.ensures in
    first_fails (run g a) c.in-Err-play_source.fault (first g a e.only e.ended) c.play_failure.ensures c.play_of-first.ensures.places

pub returns-in-Err-open_next : goal.returns-in-Err-open_next
returns-in-Err-open_next g c =
    let a = (goal.at.returns-in-Err-open_next g c).After-play_of-first in
    let e = c.in-Ok-play_source.ensures in
    let o = c.in-Err-open_next.ensures in
    opening_ends (run g a) (first g a e.only e.ended) o.refused c.in-Err-open_next.trouble c.entry-departures.ensures o.failed c.failure_by.ensures

-- it is done, and what it sent was opened again; then the second play ended
abbrev begun : (g : Over) → After-second_of-second g → After-play_of-first g
begun g c = (goal.at.After-second_of-second g c).After-play_of-first

passes : (g : Over) (c : After-second_of-second g)
    → Passed (run g (begun g c)) (Holds c.play_source.new.keeper) (g.F.Files.view c.open_next.new.files) c.in-Ok-open_next.file
passes g c =
    let e = c.in-Ok-play_source.ensures in
    let o = c.in-Ok-open_next.ensures in
    passed (first g (begun g c) e.only e.ended) c.entry-departures.ensures o.came o.ready o.said o.counts

second : (g : Over) (c : After-second_of-second g) {held : List KeptFate → Type 0} {z : View} {r : Result Totals PlayFault}
    → OnlyPlays (g.F.Files.view c.open_next.new.files) z c.second_of-second.result → ((u : View) (es : List Place) (fs : List ℕ)
    → IsBehind u (g.F.Files.view c.open_next.new.files) es fs c.second_of-second.result
    → HasEnded Untold held u (g.F.Files.view c.open_next.new.files) z es fs c.second_of-second.result r) → SecondEnded (passes g c) held z r
second g c =
    let y = c.second_of-second.ensures in
    second_ended (passes g c) c.second_of-second.result _ y.interface y.given c.unread-sent.ensures.rest c.unread-sent.ensures.front y.file y.seed y.places

pub returns-in-Err-play_source-2 : goal.returns-in-Err-play_source-2
returns-in-Err-play_source-2 g c =
    let a = (goal.at.returns-in-Err-play_source-2 g c).After-second_of-second in
    let e = c.in-Err-play_source-2.ensures in
    second_fails (passes g a) c.in-Err-play_source-2.fault (second g a e.only e.ended) c.play_failure-in-Err-play_source-2.ensures
    c.second_of-second.ensures.places

pub returns-in-Ok-write_paths : goal.returns-in-Ok-write_paths
returns-in-Ok-write_paths g c =
    let a = (goal.at.returns-in-Ok-write_paths g c).After-second_of-second in
    let e = c.in-Ok-play_source-2.ensures in
    let w = c.in-Ok-write_paths.ensures in
    chain_done {p = passes g a} {seconds = c.into_seconds-seconds.result} (record {
      second = second g a e.only e.ended;
      adds = w.adds;
      rate = has_rate _ c.configurations_fit.ensures (configured g (begun g a));
      first_table = c.into_firsts-firsts.ensures c.in-Ok-play_source.ensures.fixed;
      second_table = c.into_seconds-seconds.ensures e.fixed;
    }) w.whole w.no_fault

pub returns : goal.returns
returns g c =
    let a = (goal.at.returns g c).After-second_of-second in
    let e = c.in-Ok-play_source-2.ensures in
    let w = c.in-Err-write_paths.ensures in
    path_ends {p = passes g a} {seconds = c.into_seconds-seconds.result} (record {
      second = second g a e.only e.ended;
      adds = w.adds;
      rate = has_rate _ c.configurations_fit.ensures (configured g (begun g a));
      first_table = c.into_firsts-firsts.ensures c.in-Ok-play_source.ensures.fixed;
      second_table = c.into_seconds-seconds.ensures e.fixed;
    }) c.in-Err-write_paths.trouble w.failed c.failure_by-in-Err-write_paths.ensures
