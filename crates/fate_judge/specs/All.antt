-- All tests of rows at once.
use Rattle.std.specs.Prelude.{◌≡◌, ◌≤◌, ◌*◌, ◌^◌, ℕ, List, vec_len}
use Rattle.altq_model.specs.History.{Arrival}
use Rattle.fate_check.specs.declared.reading.Row.{Row}
use Rattle.fate_judge.specs.declared.all.AllTests.{AllTests}
use Rattle.fate_judge.specs.declared.given.Allowed.{Allowed}
use Rattle.fate_judge.specs.Ends.{HasEnd, IsLink}
use Rattle.fate_judge.specs.Order.{RowIsInOrder, IsOrder}
use Rattle.fate_judge.specs.Reading.{IsOfArrival}
use Rattle.fate_judge.specs.Tests.{AreSeen, IsFree, IsInTime, IsNewPacket}

-- a row passes each test
pub record PassesEach (rate : ℕ) (classes : List Allowed) (arrived : List Arrival) (before : List Row) (r : Row) : Type 0 where
  pub read : IsOfArrival classes arrived r
  pub new : IsNewPacket before r
  pub order : RowIsInOrder arrived before r
  pub moments : IsInTime arrived before r
  pub end : HasEnd rate arrived before r

-- the tests were told of the rows before
pub record AreTold (rate : ℕ) (arrived : List Arrival) (before : List Row) (t : AllTests) : Type 0 where
  pub seen : AreSeen t.seen.numbers.items before
  pub order : IsOrder arrived before t.order.sent.items t.order.start t.order.drop t.order.moment
  pub free : IsFree before t.free.end
  pub link : IsLink rate arrived before t.run

-- they have a place for each number and each class, and the units of a run are few
pub record HaveRoom (rate numbers classes : ℕ) (t : AllTests) : Type 0 where
  pub seen : vec_len t.seen.numbers ≡ numbers
  pub order : vec_len t.order.sent ≡ classes
  pub few : t.run.sent ≤ rate * 2 ^ 64
