-- The classes of each priority.
use Rattle.std.specs.Prelude.{◌≡◌, ◌==◌, ◌≤◌, ◌<◌, ℕ, List, [], length, get_or, if◌then◌else◌}
use Rattle.cbq_model.specs.declared.CbqClass.{CbqClass}
use Rattle.cbq_model.specs.Tree.{class_of}
use Rattle.class_sets.specs.Marked.{marked}

-- of the classes exactly those of a priority are marked
abbrev pub IsRing : List CbqClass → (priority : ℕ) → List ℕ → Type 0
IsRing cs p words = (c : ℕ) → c < length cs → marked words c ≡ (if (class_of cs c).priority == p then 1 else 0)

-- every class whose priority is below one is below `top`, which is no greater
pub record IsTop (cs : List CbqClass) (level top : ℕ) : Type 0 where
  pub low : top ≤ level
  pub below : (c : ℕ) → c < length cs → (class_of cs c).priority < level → (class_of cs c).priority < top

-- a ring for each of the priorities 0 to 7, and a top for each of 0 to 8
pub record AreRings (cs : List CbqClass) (sets : List (List ℕ)) (tops : List ℕ) : Type 0 where
  pub few : (c : ℕ) → c < length cs → (class_of cs c).priority < 8
  pub set_each : length sets ≡ 8
  pub top_each : length tops ≡ 9
  pub ring_of : (p : ℕ) → p < 8 → IsRing cs p (get_or sets p [])
  pub top_of : (p : ℕ) → p ≤ 8 → IsTop cs p (get_or tops p 0)
