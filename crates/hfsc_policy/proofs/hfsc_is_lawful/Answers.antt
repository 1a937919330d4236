use Rattle.hfsc_policy.proofs.Lawful as lemma
use Rattle.hfsc_policy.proofs.hfsc_is_lawful.Goals as goal

pub returns-clause-distinct : goal.returns-clause-distinct
returns-clause-distinct c = lemma.distinct
