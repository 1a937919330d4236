use Rattle.play_laws.proofs.DepartureLemmas as departure
use Rattle.play_laws.proofs.JournalLemmas as lemma
use Rattle.play_laws.proofs.journals_extend.Goals as goal

pub returns-clause-journal : goal.returns-clause-journal
returns-clause-journal c = lemma.journal-append

pub returns-clause-records : goal.returns-clause-records
returns-clause-records c = departure.written-append

pub returns-clause-departed : goal.returns-clause-departed
returns-clause-departed c = departure.departed-append

pub returns-clause-departures : goal.returns-clause-departures
returns-clause-departures c = departure.departures-append

pub returns-clause-departed_stay : goal.returns-clause-departed_stay
returns-clause-departed_stay c = departure.records_stay
