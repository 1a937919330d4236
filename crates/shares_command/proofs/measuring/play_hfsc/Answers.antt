use Rattle.std.proofs.Common.{◌∙◌}
use Rattle.play_command.proofs.StayLaws.{done_as, failed_so, memory_behind, unbegun_ends}
use Rattle.share_report.proofs.ClassLemmas.{same_classes}
use Rattle.shares_command.proofs.LineLemmas.{fits}
use Rattle.shares_command.proofs.measuring.play_hfsc.Goals as goal

pub watched_of-requires-clause-fit : goal.watched_of-requires-clause-fit
watched_of-requires-clause-fit g c = fits c.args.play.now.interface.now c.configurations_fit.ensures c.requires.may.configured

pub returns-in-Err-clause-ended : goal.returns-in-Err-clause-ended
returns-in-Err-clause-ended g c before places opened b = unbegun_ends b

pub returns-in-Err-play_watched-clause-ended : goal.returns-in-Err-play_watched-clause-ended
returns-in-Err-play_watched-clause-ended g c before places opened b = failed_so (c.in-Err-play_watched.ensures.ended before places opened b)

pub lines_of-requires-clause-fit : goal.lines_of-requires-clause-fit
lines_of-requires-clause-fit g c = fits c.args.play.now.interface.now c.configurations_fit.ensures c.requires.may.configured

pub lines_of-requires-clause-classes : goal.lines_of-requires-clause-classes
lines_of-requires-clause-classes g c = same_classes _ _ c.play_watched.ensures.kind.fixed ∙ c.in-Ok.ensures.classes

pub returns-in-Ok-lines_of-clause-ended : goal.returns-in-Ok-lines_of-clause-ended
returns-in-Ok-lines_of-clause-ended g c before places opened b = (
  c.in-Ok-play_watched.field-0,
  done_as c.in-Ok-lines_of.ensures (λ k x. tt) (c.in-Ok-play_watched.ensures.ended before places opened b),
)

pub returns-clause-ended : goal.returns-clause-ended
returns-clause-ended g c before places opened b = memory_behind (c.in-Ok-play_watched.ensures.ended before places opened b)
