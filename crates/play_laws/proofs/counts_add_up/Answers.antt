use Rattle.play_laws.proofs.CountsLemmas as lemma
use Rattle.play_laws.proofs.counts_add_up.Goals as goal

pub returns-clause-arrivals : goal.returns-clause-arrivals
returns-clause-arrivals c = lemma.arrivals_add

pub returns-clause-decisions : goal.returns-clause-decisions
returns-clause-decisions c = lemma.decisions_add

pub returns-clause-stay : goal.returns-clause-stay
returns-clause-stay c = lemma.decisions_stay
