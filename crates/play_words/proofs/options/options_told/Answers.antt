use Rattle.std.proofs.Common.{◌≡◌, ◌≢◌, ◌∙◌, true, false, IfErr, IfOk, OnOk, ap, subst}
use Rattle.clap.specs.Words.{App, found_of, is_simple_and_free, kind_of, rows_of}
use Rattle.clap.specs.declared.error.kind.ErrorKind.TheVariants.{OutOfMemory}
use Rattle.play_words.specs.Options.{options_of, takes_options}
use Rattle.play_words.proofs.OptionLemmas.{simple_by}
use Rattle.play_words.proofs.options.options_told.Goals as goal

pub told-requires : goal.told-requires
told-requires c = ap is_simple_and_free c.in_ok-command_of.ensures ∙ simple_by c.args.options

pub returns-clause-taken : goal.returns-clause-taken
returns-clause-taken c =
    let P : App → Type 0 = λ app. OnOk c.told.result (takes_options app c.args.words.now ≡ true) in
    subst P c.in_ok-command_of.ensures c.told.ensures.taken

pub returns-clause-read : goal.returns-clause-read
returns-clause-read c =
    let P : App → Type 0 = λ app. IfOk c.told.result (λ m. rows_of (found_of m) ≡ options_of app c.args.words.now) in
    subst P c.in_ok-command_of.ensures c.told.ensures.read

pub returns-clause-refused : goal.returns-clause-refused
returns-clause-refused c =
    let P : App → Type 0 = λ app. IfErr c.told.result (λ e. kind_of e ≢ OutOfMemory → takes_options app c.args.words.now ≡ false) in
    subst P c.in_ok-command_of.ensures c.told.ensures.refused
