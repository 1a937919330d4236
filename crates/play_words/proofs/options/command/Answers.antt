use Rattle.std.proofs.Common.{List, ◌∙◌, ap, sym}
use Rattle.std.proofs.lemmas.List.{take_all}
use Rattle.std.specs.Borrow.{Bor}
use Rattle.std.specs.Prelude.{map, ℕ}
use Rattle.clap.specs.Words.{new_app}
use Rattle.play_words.specs.Options.{with_options}
use Rattle.play_words.proofs.OptionLemmas.{added, one_more}
use Rattle.play_words.proofs.options.command.Goals as goal

pub loop-option-init : goal.loop-option-init
loop-option-init c = c.new-command.ensures.app

pub loop-option-preserved : goal.loop-option-preserved
loop-option-preserved c =
    added c.loop-option.command c.in_ok-command.command c.required.result _ _ c.in_ok-command.ensures c.required.ensures.local
    c.loop-option.invariant c.required.ensures.rule
    ∙ sym (one_more (new_app c.args.name.now) c.args.options.now c.loop-option.option-index _ c.loop-option-test.true)

pub returns : goal.returns
returns c = c.loop-option.invariant
    ∙ ap (λ (os : List (Bor (List ℕ))). with_options (new_app c.args.name.now) (map (λ option. option.now) os))
    (take_all c.loop-option.option-index c.args.options.now c.loop-option-test.false)
