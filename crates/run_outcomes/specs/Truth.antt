-- What a status says of faults is so.
use Rattle.std.specs.Prelude.{◌≡◌, ◌⊎◌, ℕ, List, [], ◌∷◌}
use Rattle.play_base.specs.View.{View, IsAbsent, SameCounts}
use Rattle.file_plans.specs.declared.part.Part.{Part}
use Rattle.file_plans.specs.declared.plan.Way.TheVariants as way
use Rattle.file_plans.specs.Parts.{part_number, printed}
use Rattle.file_plans.specs.Plan.{Place}
use Rattle.run_outcomes.specs.Faults.{ReadFailed, WriteFailed}
use Rattle.run_outcomes.specs.Outcome.{read_kind, unsaid_kind, write_kind}
use Rattle.run_outcomes.specs.declared.status.Status.{Status}

-- the plan reads this part under this name
abbrev pub HasReadPlace : List Place → Part → (name : List ℕ) → Type 0
HasReadPlace [] p m = ⊥
HasReadPlace (e ∷ es) p m = ((e.way ≡ way.Read) × (e.part ≡ p) × (e.name ≡ m)) ⊎ HasReadPlace es p m

-- the name under which the plan reads this part is told not to be there
abbrev pub IsAbsentOf : List Place → View → Part → Type 0
IsAbsentOf plan old p = (name : List ℕ) × HasReadPlace plan p name × IsAbsent old name

-- a run that is done met no fault, and a fault that is told was met, of the file that it names; of a disk too
pub record TellsTruly (plan : List Place) (old new : View) (s : Status) : Type 0 where
  pub no_fault : s.code ≡ 0 → SameCounts old new
  pub read : s.code ≡ 5 → (p : Part) × (s.kind ≡ read_kind p) × (ReadFailed old new (part_number p) ⊎ IsAbsentOf plan old p)
  pub write : s.code ≡ 6 → ((p : Part) × (s.kind ≡ write_kind p) × WriteFailed old new (part_number p))
      ⊎ ((s.kind ≡ unsaid_kind) × WriteFailed old new printed)
