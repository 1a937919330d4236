use Rattle.traffic_marks.proofs.Lengths.{length-marked}
use Rattle.traffic_marks.proofs.Reading.{keeps_reading}
use Rattle.traffic_marks.proofs.Stays.{keeps_others}
use Rattle.traffic_marks.proofs.laws.marks_alone_change.Goals as goal

pub returns-clause-length : goal.returns-clause-length
returns-clause-length c = length-marked

pub returns-clause-reading : goal.returns-clause-reading
returns-clause-reading c = keeps_reading

pub returns-clause-others : goal.returns-clause-others
returns-clause-others c = keeps_others
