use Rattle.std.proofs.Common.{◌≡◌, take}
use Rattle.std.specs.Prelude.{map}
use Rattle.clap.specs.Words.{app_of, new_app}
use Rattle.play_words.specs.Options.{with_options}
use Rattle.play_words.proofs.options.command.Given as goal

abbrev pub invariant-loop-option : goal.invariant-loop-option
invariant-loop-option l = app_of l.command ≡ with_options (new_app l.name) (map (λ option. option.now) (take l.option-index l.options))
