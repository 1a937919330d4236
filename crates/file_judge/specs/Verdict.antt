-- Which given files pass, and the first row of the least test that others fail.
use Rattle.std.specs.Prelude.{◌≡◌, ℕ, true, List, [], Option, Some}
use Rattle.admission.specs.Fit.{Fits}
use Rattle.conf_tree.specs.declared.interface.Interface.{Interface}
use Rattle.fate_busy.specs.Busy.{StartsAtOnce}
use Rattle.fate_check.specs.declared.reading.Row.{Row}
use Rattle.fate_check.specs.Text.{FailsAt, Reads}
use Rattle.fate_departures.specs.Departures.{AreDepartures, DepartOtherwise}
use Rattle.fate_judge.specs.declared.given.Kind.{Kind}
use Rattle.fate_judge.specs.declared.given.Kind.TheVariants as kind
use Rattle.fate_judge.specs.Judged as order
use Rattle.fate_judge.specs.Walk.{EachRow, FirstFails}
use Rattle.fate_timely.specs.declared.given.Late.{Late}
use Rattle.fate_timely.specs.Timely.{EndsInTime, lates}
use Rattle.file_tests.specs.declared.Test.{Test}
use Rattle.file_tests.specs.declared.Test.TheVariants as test
use Rattle.interface_policy.specs.Policy.{queue_names}
use Rattle.link_fit.specs.Curves.{curves_of}
use Rattle.file_judge.specs.Given.{Given, arrived_in, case_of, curves_in, dress_of, is_unlimited, longest_time, packets_in}
use Rattle.file_judge.specs.declared.verdict.Unverified.{Unverified}
use Rattle.file_judge.specs.declared.verdict.Unverified.TheVariants.{At, NoMemory}

-- the fates are the text of these rows
abbrev pub AreRows : Given → List Row → Type 0
AreRows g rows = Reads (queue_names g.interface) g.fates rows

-- where the link may never idle, it does not
abbrev pub AreBusy : Given → List Row → Type 0
AreBusy g rows = is_unlimited g.interface ≡ true → EachRow (StartsAtOnce (arrived_in g) rows) [] rows

-- the departures are those of the rows
abbrev pub AreTheirDepartures : Given → List Row → Type 0
AreTheirDepartures g rows = AreDepartures (dress_of g) (packets_in g) rows g.departures

-- the real-time curves fit the link
abbrev pub FitTheLink : Interface → Type 0
FitTheLink i = Fits i.rate (curves_of i)

-- each packet of a leaf with a real-time curve ends at most the time of the longest packet after each moment that is due for it
abbrev pub EndsByDue : Interface → (rows before : List Row) → Row → Type 0
EndsByDue i rows before r = EndsInTime (curves_in i) (longest_time i.rate rows) before r

abbrev pub AreTimely : Interface → List Row → Type 0
AreTimely i rows = FitTheLink i → EachRow (EndsByDue i rows) [] rows

-- the rows pass every test
pub record ArePassed (g : Given) (rows : List Row) : Type 0 where
  pub read : AreRows g rows
  pub order : order.PassesAll (case_of g rows)
  pub busy : AreBusy g rows
  pub departures : AreTheirDepartures g rows
  pub timely : AreTimely g.interface rows

-- the files pass every test, and each leaf with a real-time curve came so late
pub record AreVerified (g : Given) (came : List Late) : Type 0 where
  pub rows : List Row
  pub passed : ArePassed g rows
  pub late : came ≡ lates (curves_in g.interface) rows

-- this row is the first that fails a test of rows, and these pass every lesser test
pub record FailsRow (g : Given) (row : ℕ) (k : Kind) : Type 0 where
  pub rows : List Row
  pub read : AreRows g rows
  pub fails : order.IsRefuted (case_of g rows) row k

-- the link idles first before this row
pub record Idles (g : Given) (row : ℕ) : Type 0 where
  pub rows : List Row
  pub read : AreRows g rows
  pub order : order.PassesAll (case_of g rows)
  pub unlimited : is_unlimited g.interface ≡ true
  pub fails : FirstFails (StartsAtOnce (arrived_in g) rows) rows row

-- this row's departure is the first that is another one
pub record DepartsOtherwise (g : Given) (row : ℕ) : Type 0 where
  pub rows : List Row
  pub read : AreRows g rows
  pub order : order.PassesAll (case_of g rows)
  pub busy : AreBusy g rows
  pub fails : DepartOtherwise (dress_of g) (packets_in g) rows g.departures row

-- this row's packet is the first that ends too late
pub record EndsLate (g : Given) (row : ℕ) : Type 0 where
  pub rows : List Row
  pub read : AreRows g rows
  pub order : order.PassesAll (case_of g rows)
  pub busy : AreBusy g rows
  pub departures : AreTheirDepartures g rows
  pub fit : FitTheLink g.interface
  pub fails : FirstFails (EndsByDue g.interface rows) rows row

-- the least test that fails, and its first row
abbrev pub IsRefuted : Given → (row : ℕ) → Test → Type 0
IsRefuted g row test.Text = FailsAt (queue_names g.interface) g.fates row
IsRefuted g row test.Reading = FailsRow g row kind.Reading
IsRefuted g row test.EachOnce = FailsRow g row kind.EachOnce
IsRefuted g row test.Order = FailsRow g row kind.Order
IsRefuted g row test.Moments = FailsRow g row kind.Moments
IsRefuted g row test.Ends = FailsRow g row kind.Ends
IsRefuted g row test.Busy = Idles g row
IsRefuted g row test.Departures = DepartsOtherwise g row
IsRefuted g row test.Due = EndsLate g row

abbrev pub IsUnverified : Given → Unverified → Type 0
IsUnverified g (At row t) = IsRefuted g row t
IsUnverified g NoMemory = Unit {0}

-- where a test fails: a fact of its row
abbrev pub IfTest : Test → ((row : ℕ) → Type 0) → Unverified → Type 0
IfTest t P (At row u) = (u ≡ t) × P row
IfTest t P NoMemory = Unit {0}

-- the test of a kind of test of rows
abbrev pub test_of : Kind → Test
test_of kind.Reading = test.Reading
test_of kind.EachOnce = test.EachOnce
test_of kind.Order = test.Order
test_of kind.Moments = test.Moments
test_of kind.Ends = test.Ends

abbrev pub IfRows : ((row : ℕ) → Kind → Type 0) → Unverified → Type 0
IfRows P (At row u) = (k : Kind) × (u ≡ test_of k) × P row k
IfRows P NoMemory = Unit {0}

-- how late a packet may end, where the curves fit the link
pub record IsMost (i : Interface) (rows : List Row) (most : Option ℕ) : Type 0 where
  pub fits : FitTheLink i → most ≡ Some (longest_time i.rate rows)
  pub only : (m : ℕ) → most ≡ Some m → FitTheLink i × (m ≡ longest_time i.rate rows)
