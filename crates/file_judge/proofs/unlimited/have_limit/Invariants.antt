use Rattle.std.proofs.Common.{◌≡◌, take}
use Rattle.std.specs.Prelude.{false}
use Rattle.std.specs.List.{list_any}
use Rattle.file_judge.specs.Given.{has_limit}
use Rattle.file_judge.proofs.unlimited.have_limit.Given as goal

abbrev pub invariant-loop-class : goal.invariant-loop-class
invariant-loop-class l = list_any has_limit (take l.class-index l.classes) ≡ false
