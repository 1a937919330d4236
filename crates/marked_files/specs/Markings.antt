-- What a marker stands for: the bytes that it holds, and what becomes of those behind them.
use Rattle.std.specs.Prelude.{◌≡◌, ℕ, ◌++◌, List, [], Option}
use Rattle.altq_model.specs.declared.Placed.{Placed}
use Rattle.traffic_meter.specs.declared.rule.MeterRule.{MeterRule}
use Rattle.marked_files.specs.Courses.{Course, begun, made}
use Rattle.marked_files.specs.Held.{PendingBytes}
use Rattle.marked_files.specs.declared.stage.Stage.{Stage}
use Rattle.marked_files.specs.declared.stage.Stage.TheVariants.{Start}

-- the classes of frames, what stands next, how far it has come, and the bytes that it holds
pub record Marking (C : Type 0) : Type 0 where
  pub classes : C
  pub stage : Stage
  pub course : Course
  pub held : PendingBytes

-- what is given of a file that has these bytes left, where classes place frames so
abbrev pub given : {C : Type 0} → (C → List ℕ → Placed) → Marking C → (left : List ℕ) → List ℕ
given placed m left = m.held.ready ++ made m.stage (placed m.classes) m.course (m.held.pending ++ left)

-- its buckets are full, and it holds the first bytes of a capture: the rule of each class stands at the class's number
pub record IsUnused {C : Type 0} (classes_given : C) (rules : List (Option MeterRule)) (first : List ℕ) (m : Marking C) : Type 0 where
  pub classes : m.classes ≡ classes_given
  pub stage : m.stage ≡ Start
  pub course : m.course ≡ begun rules
  pub ready : m.held.ready ≡ []
  pub pending : m.held.pending ≡ first
