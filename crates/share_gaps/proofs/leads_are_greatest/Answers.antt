use Rattle.share_gaps.proofs.Leads.{is_greatest}
use Rattle.share_gaps.proofs.leads_are_greatest.Goals as goal

pub returns : goal.returns
returns c = is_greatest
