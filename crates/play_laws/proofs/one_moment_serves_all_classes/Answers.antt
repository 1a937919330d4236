use Rattle.play_laws.proofs.TimeLemmas as lemma
use Rattle.play_laws.proofs.one_moment_serves_all_classes.Goals as goal

pub returns-clause-moment : goal.returns-clause-moment
returns-clause-moment c = lemma.one_moment

pub returns-clause-arrived : goal.returns-clause-arrived
returns-clause-arrived c = lemma.all_arrived

pub returns-clause-next : goal.returns-clause-next
returns-clause-next c = lemma.next_later
