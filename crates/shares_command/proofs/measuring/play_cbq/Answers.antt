use Rattle.std.specs.Prelude.{string_bytes}
use Rattle.altq_model.specs.History.{unlabelled}
use Rattle.play_command.proofs.StayLaws.{done_as, failed_so}
use Rattle.shares_command.proofs.LineLemmas.{no_lines}
use Rattle.shares_command.proofs.measuring.play_cbq.Goals as goal

pub returns-in-Ok-clause-ended : goal.returns-in-Ok-clause-ended
returns-in-Ok-clause-ended g c before places opened b = (
  c.in-Ok.field-0,
  done_as
      (λ h s. no_lines c.args.play.now.interface.now (unlabelled h) (string_bytes c.new.result) c.requires.kind c.new.ensures.bytes)
      (λ k x. tt) (c.in-Ok.ensures.ended before places opened b),
)

pub returns-clause-ended : goal.returns-clause-ended
returns-clause-ended g c before places opened b = failed_so (c.in-Err.ensures.ended before places opened b)
