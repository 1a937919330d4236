use Rattle.clap.specs.Words.{kind_of}
use Rattle.play_words.specs.Options.{app_by}
use Rattle.play_words.proofs.OptionLemmas.{told_why}
use Rattle.play_words.proofs.options.options_matched.Goals as goal

pub returns-in-Err-clause-refused : goal.returns-in-Err-clause-refused
returns-in-Err-clause-refused c =
    told_why (app_by c.args.options) c.args.words.now (kind_of c.in-Err.error) c.from.result c.in-Err.ensures.refused c.from.ensures
