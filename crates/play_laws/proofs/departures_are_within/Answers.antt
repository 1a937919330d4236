use Rattle.play_laws.proofs.SizeLemmas as lemma
use Rattle.play_laws.proofs.departures_are_within.Goals as goal

pub returns-clause-sized : goal.returns-clause-sized
returns-clause-sized c = lemma.reads_sized

pub returns-clause-within : goal.returns-clause-within
returns-clause-within c = lemma.departed_within
