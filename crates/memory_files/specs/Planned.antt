-- Failures that are planned for files in memory, the calls that are counted for them, and the bounds on a read and a write.
use Rattle.std.specs.Prelude.{◌≡◌, ◌≢◌, ◌+◌, ◌-◌, ◌^◌, ◌==◌, ◌&&◌, ℕ, Bool, min, List, slice_index}
use Rattle.std.specs.List.{list_any}
use Rattle.memory_files.specs.declared.planned.Call.{Call}
use Rattle.memory_files.specs.declared.planned.Call.TheVariants.{Open, Create, Read, Write, Say}
use Rattle.memory_files.specs.declared.planned.Failing.{Failing}
use Rattle.memory_files.specs.declared.memory.MemoryFiles.{MemoryFiles}

-- the place at which calls of a kind are counted
abbrev pub place_of : Call → ℕ
place_of Open = 0
place_of Create = 1
place_of Read = 2
place_of Write = 3
place_of Say = 4

-- how many calls of this kind were made
abbrev pub made : MemoryFiles → Call → ℕ
made m call = slice_index m.calls (place_of call)

-- the nth call of a kind, from 0, is planned to fail
abbrev pub is_planned : List Failing → Call → ℕ → Bool
is_planned plan call n = list_any (λ f. (place_of f.call == place_of call) && (f.nth == n)) plan

-- the next call of this kind is to fail
abbrev pub is_due : MemoryFiles → Call → Bool
is_due m call = is_planned m.failing.items call (made m call)

-- the same failures are planned, and the same calls were made
pub record IsSamePlan (old new : MemoryFiles) : Type 0 where
  pub plan : new.failing.items ≡ old.failing.items
  pub calls : (c : Call) → made new c ≡ made old c

-- one call more was made of this kind, and none of another; the plan and the bounds on a read and a write stand
pub record Counted (call : Call) (old new : MemoryFiles) : Type 0 where
  pub plan : new.failing.items ≡ old.failing.items
  pub one : made new call ≡ min (made old call + 1) (2 ^ 64 - 1)
  pub others : (c : Call) → c ≢ call → made new c ≡ made old c
  pub most : new.chunk.most ≡ old.chunk.most
  pub short : new.short.most ≡ old.short.most
