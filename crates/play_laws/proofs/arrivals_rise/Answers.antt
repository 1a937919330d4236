use Rattle.play_laws.proofs.ArrivalLemmas as lemma
use Rattle.play_laws.proofs.arrivals_rise.Goals as goal

pub returns-clause-rising : goal.returns-clause-rising
returns-clause-rising c = lemma.arrivals_rise

pub returns-clause-one_each : goal.returns-clause-one_each
returns-clause-one_each c = lemma.arrivals_length

pub returns-clause-at : goal.returns-clause-at
returns-clause-at c = lemma.arrival_at

pub returns-clause-seen : goal.returns-clause-seen
returns-clause-seen c = lemma.bare_arrival_of_number

pub returns-clause-extend : goal.returns-clause-extend
returns-clause-extend c = lemma.arrivals_append

pub returns-clause-bare_arrivals_extend : goal.returns-clause-bare_arrivals_extend
returns-clause-bare_arrivals_extend c = lemma.bare_arrivals_append

pub returns-clause-held : goal.returns-clause-held
returns-clause-held c = lemma.arrivals_held
