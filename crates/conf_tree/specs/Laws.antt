-- What holds of every reading.
use Rattle.std.specs.Prelude.{◌≡◌, ◌⊎◌, List, ◌++◌, All, Ok, Err}
use Rattle.conf_lines.specs.declared.fault.ConfPlace.{ConfPlace}
use Rattle.conf_lines.specs.declared.statement.Statement.{Statement}
use Rattle.conf_lines.specs.declared.fault.ConfKind.TheVariants.{NoDefault}
use Rattle.conf_tree.specs.declared.interface.Interface.{Interface}
use Rattle.conf_tree.specs.Meters.{IsMeterIfAny}
use Rattle.conf_tree.specs.Reading.{reading}

-- No continuation mends a fault: what follows the statements changes it only where it is that of their end, which a class
-- that follows may mend.
abbrev pub FaultsStand : Type 0
FaultsStand =
    (statements more : List Statement) (fault : ConfPlace) → reading statements ≡ Err fault
    → (fault.kind ≡ NoDefault) ⊎ (reading (statements ++ more) ≡ Err fault)

-- The meter of each class of each interface is within its ranges.
abbrev pub MetersFit : Type 0
MetersFit =
    (statements : List Statement) (interfaces : List Interface) → reading statements ≡ Ok interfaces
    → All (λ i. All (λ c. IsMeterIfAny c.meter) i.classes) interfaces
