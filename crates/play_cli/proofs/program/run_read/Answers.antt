-- How a run ends, from its three steps.
use Rattle.play_cli.proofs.NameLaws.{are_fit}
use Rattle.play_cli.proofs.RunLaws.{run_ends, run_truly, run_words}
use Rattle.play_cli.proofs.program.run_read.Goals as goal

pub outcome_of-came-requires : goal.outcome_of-came-requires
outcome_of-came-requires g c = are_fit c.args.words.now c.read_words-read.result c.read_words-read.ensures.read

pub returns-clause-ends : goal.returns-clause-ends
returns-clause-ends g c =
    let read = c.read_words-read.ensures in
    let told = c.report-outcome.ensures in
    run_ends _ _ _ c.args.words.now c.read_words-read.result c.outcome_of-came.result c.report-outcome.result read.accepted read.refused read.read
    c.outcome_of-came.ensures told.same told.reported

pub returns-clause-truly : goal.returns-clause-truly
returns-clause-truly g c =
    let read = c.read_words-read.ensures in
    let told = c.report-outcome.ensures in
    run_truly _ _ _ c.args.words.now c.read_words-read.result c.outcome_of-came.result c.report-outcome.result read.accepted read.read
    c.outcome_of-came.ensures told.same told.reported

pub returns-clause-words : goal.returns-clause-words
returns-clause-words g c =
    let read = c.read_words-read.ensures in
    run_words _ _ c.args.words.now c.read_words-read.result c.outcome_of-came.result c.report-outcome.result read.refused c.outcome_of-came.ensures
    c.report-outcome.ensures.same
