-- The numbers of the tests that given files are held to.
use Rattle.std.specs.Prelude.{ℕ}
use Rattle.file_tests.specs.declared.Test.{Test}
use Rattle.file_tests.specs.declared.Test.TheVariants.{Text, Reading, EachOnce, Order, Moments, Ends, Busy, Departures, Due}

abbrev pub test_number : Test → ℕ
test_number Text = 1
test_number Reading = 2
test_number EachOnce = 3
test_number Order = 4
test_number Moments = 5
test_number Ends = 6
test_number Busy = 7
test_number Departures = 8
test_number Due = 9
