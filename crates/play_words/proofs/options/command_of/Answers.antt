use Rattle.std.proofs.Common.{◌∙◌, ap, sym}
use Rattle.std.proofs.lemmas.Result.{IfOk-weaker}
use Rattle.play_words.specs.Options.{app_by}
use Rattle.play_words.proofs.OptionLemmas.{bound_built, chain_built, check_built, condition_built, make_built, play_built, verify_built}
use Rattle.play_words.proofs.options.command_of.Goals as goal

pub returns-in-Play : goal.returns-in-Play
returns-in-Play c = IfOk-weaker c.command.result _ _ (λ command is. is ∙ play_built ∙ sym (ap app_by c.in-Play.is)) c.command.ensures

pub returns-in-Check : goal.returns-in-Check
returns-in-Check c = IfOk-weaker c.command-in-Check.result _ _ (λ command is. is ∙ check_built ∙ sym (ap app_by c.in-Check.is)) c.command-in-Check.ensures

pub returns-in-Make : goal.returns-in-Make
returns-in-Make c = IfOk-weaker c.command-in-Make.result _ _ (λ command is. is ∙ make_built ∙ sym (ap app_by c.in-Make.is)) c.command-in-Make.ensures

pub returns-in-Verify : goal.returns-in-Verify
returns-in-Verify c = IfOk-weaker c.command-in-Verify.result _ _ (λ command is. is ∙ verify_built ∙ sym (ap app_by c.in-Verify.is)) c.command-in-Verify.ensures

pub returns-in-Chain : goal.returns-in-Chain
returns-in-Chain c = IfOk-weaker c.command-in-Chain.result _ _ (λ command is. is ∙ chain_built ∙ sym (ap app_by c.in-Chain.is)) c.command-in-Chain.ensures

pub returns-in-Condition : goal.returns-in-Condition
returns-in-Condition c = IfOk-weaker c.command-in-Condition.result _ _ (λ command is. is ∙ condition_built ∙ sym (ap app_by c.in-Condition.is)) c.command-in-Condition.ensures

pub returns-in-Bound : goal.returns-in-Bound
returns-in-Bound c = IfOk-weaker c.command-in-Bound.result _ _ (λ command is. is ∙ bound_built ∙ sym (ap app_by c.in-Bound.is)) c.command-in-Bound.ensures
