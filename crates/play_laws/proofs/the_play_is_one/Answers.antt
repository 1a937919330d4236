use Rattle.play_laws.proofs.OneLemmas as lemma
use Rattle.play_laws.proofs.the_play_is_one.Goals as goal

pub returns-clause-older_part : goal.returns-clause-older_part
returns-clause-older_part c = lemma.one_play

pub returns-clause-one : goal.returns-clause-one
returns-clause-one c = lemma.one_whole

pub returns-clause-exists : goal.returns-clause-exists
returns-clause-exists c = lemma.play_is

pub returns-clause-later_arrivals : goal.returns-clause-later_arrivals
returns-clause-later_arrivals c = lemma.later_arrivals
