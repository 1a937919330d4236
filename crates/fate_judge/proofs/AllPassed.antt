-- Rows that one pass lets through.
use Rattle.std.proofs.Common.{◌≡◌, ◌<◌, ◌≤◌, ℕ, Bool, true, false, List, [], length, get_or, take}
use Rattle.fate_judge.specs.All.{PassesEach}
use Rattle.fate_judge.specs.declared.given.Kind.{Kind}
use Rattle.fate_judge.specs.declared.given.Kind.TheVariants as kind
use Rattle.fate_judge.specs.Ends.{HasEnd}
use Rattle.fate_judge.specs.Judged.{Case, Passes, PassesAll}
use Rattle.fate_judge.specs.Order.{RowIsInOrder}
use Rattle.fate_judge.specs.Reading.{IsRead}
use Rattle.fate_judge.specs.Tests.{AreSeen, HaveOne, IsInTime, IsNewPacket}
use Rattle.fate_judge.specs.Walk.{EachRow}
use Rattle.fate_judge.proofs.Counted.{have_one}
use Rattle.fate_judge.proofs.Passing.{each_weaker}
use Rattle.fate_judge.proofs.Walking.{EachBelow, all_rows, before_at}

passes_kind : (c : Case) → EachRow (PassesEach c.rate c.classes c.arrived) [] c.rows → HaveOne (length c.arrived) c.rows → (k : Kind) → Passes c k
passes_kind c each one kind.Reading =
    each_weaker (PassesEach c.rate c.classes c.arrived) (IsRead c.classes c.arrived) [] c.rows (λ b r so. so.read) each
passes_kind c each one kind.EachOnce = one
passes_kind c each one kind.Order =
    each_weaker (PassesEach c.rate c.classes c.arrived) (RowIsInOrder c.arrived) [] c.rows (λ b r so. so.order) each
passes_kind c each one kind.Moments =
    each_weaker (PassesEach c.rate c.classes c.arrived) (IsInTime c.arrived) [] c.rows (λ b r so. so.moments) each
passes_kind c each one kind.Ends =
    each_weaker (PassesEach c.rate c.classes c.arrived) (HasEnd c.rate c.arrived) [] c.rows (λ b r so. so.end) each

-- each row passes each test, and each number is seen
pub all_passed : (c : Case) (i : ℕ) (seen : List Bool) → length c.rows ≤ i → EachBelow (PassesEach c.rate c.classes c.arrived) c.rows i
    → AreSeen seen (before_at c.rows i) → length seen ≡ length c.arrived
    → ((k : ℕ) → k < length c.arrived → get_or seen k false ≡ true) → PassesAll c
all_passed c i seen le each stands long set =
    let all = all_rows (PassesEach c.rate c.classes c.arrived) c.rows i le each in
    let P = PassesEach c.rate c.classes c.arrived in
    passes_kind c all (have_one c.rows i (length c.arrived) seen le (each_weaker P IsNewPacket [] (take i c.rows) (λ b r so. so.new) each) stands long set)
