use Rattle.fate_busy.specs.Busy.{StartsAtOnce}
use Rattle.fate_judge.proofs.OneWay.{none_first, one_first}
use Rattle.fate_timely.specs.Timely.{EndsInTime}
use Rattle.fate_laws.proofs.OneDeparture.{never_both, one_departure}
use Rattle.fate_laws.proofs.laws.files_fail_one_way.Goals as goal

pub returns : goal.returns
returns c = record {
  one_departure = one_departure;
  departures_or_not = never_both;
  one_idle = λ arrived rows. one_first (StartsAtOnce arrived rows) rows;
  busy_or_not = λ arrived rows. none_first (StartsAtOnce arrived rows) rows;
  one_overdue = λ curves most. one_first (EndsInTime curves most);
  timely_or_not = λ curves most. none_first (EndsInTime curves most);
}
