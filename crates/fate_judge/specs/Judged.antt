-- Which rows pass, and the first row of the least test that fails.
use Rattle.std.specs.Prelude.{ℕ, List, [], length}
use Rattle.altq_model.specs.History.{Arrival}
use Rattle.fate_check.specs.declared.reading.Row.{Row}
use Rattle.fate_judge.specs.declared.given.Allowed.{Allowed}
use Rattle.fate_judge.specs.declared.given.Kind.{Kind}
use Rattle.fate_judge.specs.declared.given.Kind.TheVariants as kind
use Rattle.fate_judge.specs.declared.given.Refuted.{Refuted}
use Rattle.fate_judge.specs.declared.given.Refuted.TheVariants.{At, NoMemory}
use Rattle.fate_judge.specs.Ends.{HasEnd}
use Rattle.fate_judge.specs.Order.{RowIsInOrder}
use Rattle.fate_judge.specs.Reading.{IsRead}
use Rattle.fate_judge.specs.Tests.{HaveOne, IsInTime, LacksOne}
use Rattle.fate_judge.specs.Walk.{EachRow, FirstFails}

-- rows, and what they are held to
pub record Case : Type 0 where
  pub rate : ℕ
  pub classes : List Allowed
  pub arrived : List Arrival
  pub rows : List Row

abbrev pub Passes : Case → Kind → Type 0
Passes c kind.Reading = EachRow (IsRead c.classes c.arrived) [] c.rows
Passes c kind.EachOnce = HaveOne (length c.arrived) c.rows
Passes c kind.Order = EachRow (RowIsInOrder c.arrived) [] c.rows
Passes c kind.Moments = EachRow (IsInTime c.arrived) [] c.rows
Passes c kind.Ends = EachRow (HasEnd c.rate c.arrived) [] c.rows

abbrev pub FailsFirst : Case → Kind → (row : ℕ) → Type 0
FailsFirst c kind.Reading row = FirstFails (IsRead c.classes c.arrived) c.rows row
FailsFirst c kind.EachOnce row = LacksOne (length c.arrived) c.rows row
FailsFirst c kind.Order row = FirstFails (RowIsInOrder c.arrived) c.rows row
FailsFirst c kind.Moments row = FirstFails (IsInTime c.arrived) c.rows row
FailsFirst c kind.Ends row = FirstFails (HasEnd c.rate c.arrived) c.rows row

-- every lesser test passes
abbrev pub PassesBelow : Case → Kind → Type 0
PassesBelow c kind.Reading = Unit {0}
PassesBelow c kind.EachOnce = Passes c kind.Reading
PassesBelow c kind.Order = Passes c kind.Reading × Passes c kind.EachOnce
PassesBelow c kind.Moments = Passes c kind.Reading × Passes c kind.EachOnce × Passes c kind.Order
PassesBelow c kind.Ends = Passes c kind.Reading × Passes c kind.EachOnce × Passes c kind.Order × Passes c kind.Moments

-- this row is the first that fails the least test that fails
pub record IsRefuted (c : Case) (row : ℕ) (k : Kind) : Type 0 where
  pub lesser : PassesBelow c k
  pub first : FailsFirst c k row

abbrev pub PassesAll : Case → Type 0
PassesAll c = (k : Kind) → Passes c k

abbrev pub IfAt : ((row : ℕ) → Kind → Type 0) → Refuted → Type 0
IfAt P (At row k) = P row k
IfAt P NoMemory = Unit {0}
