use Rattle.hfsc_groups.proofs.NeverLimited.{never_limited_first}
use Rattle.hfsc_groups.proofs.group.Group.is_never_limited.Goals as goal

pub returns : goal.returns
returns c = λ e. never_limited_first c.args.self.now (c.is_never_limited.ensures e)
