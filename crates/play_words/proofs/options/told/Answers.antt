use Rattle.clap.specs.Words.{app_of}
use Rattle.play_words.specs.Options.{texts_of}
use Rattle.play_words.proofs.OptionLemmas.{matches_read, matches_refused, simple_of}
use Rattle.play_words.proofs.options.told.Goals as goal

pub returns-clause-read : goal.returns-clause-read
returns-clause-read c =
    matches_read (app_of c.args.command) (texts_of c.args.words.now) c.try_get_matches_from.result (simple_of (app_of c.args.command) c.requires)
    c.try_get_matches_from.ensures.matches

pub returns-clause-refused : goal.returns-clause-refused
returns-clause-refused c = matches_refused _ c.try_get_matches_from.result (c.try_get_matches_from.ensures.kinds c.requires)
