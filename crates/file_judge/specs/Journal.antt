-- What files that pass every test are.
use Rattle.std.specs.Prelude.{◌≡◌, true, List}
use Rattle.fate_check.specs.declared.reading.Row.{Row}
use Rattle.fate_judge.specs.Given.{decisions}
use Rattle.journal_laws.specs.Journal.{IsBusy, IsJournal}
use Rattle.file_judge.specs.Given.{Given, arrived_in, is_unlimited}
use Rattle.file_judge.specs.Verdict.{AreRows, AreTheirDepartures, AreTimely}

-- The fates are the text of the rows of a journal that keeps the laws: each arrival has one fate, each class departs in the order of
-- arrival, no packet starts before it arrives, and each end is the link's. The link of HFSC without upper limits never idles while a
-- packet waits. The departures are those of the journal, marked where they may be. Where the real-time curves fit the link, each packet
-- ends in time.
pub record AreOfJournal (g : Given) : Type 0 where
  pub rows : List Row
  pub text : AreRows g rows
  pub journal : IsJournal g.interface.rate (arrived_in g) (decisions rows)
  pub busy : is_unlimited g.interface ≡ true → IsBusy (arrived_in g) (decisions rows)
  pub departures : AreTheirDepartures g rows
  pub timely : AreTimely g.interface rows
