use Rattle.play_laws.proofs.AgreeLemmas as lemma
use Rattle.play_laws.proofs.busy_is_never_idle.Goals as goal

pub returns-clause-same : goal.returns-clause-same
returns-clause-same c = lemma.same_sentence

pub returns-clause-order : goal.returns-clause-order
returns-clause-order c = lemma.in_order
