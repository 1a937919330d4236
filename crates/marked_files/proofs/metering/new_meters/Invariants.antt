use Rattle.std.proofs.Common.{◌≡◌, map, take}
use Rattle.marked_files.specs.Metering.{new_meter}
use Rattle.marked_files.proofs.metering.new_meters.Given as goal

abbrev pub invariant-loop-rule : goal.invariant-loop-rule
invariant-loop-rule l = l.meters.items ≡ map new_meter (take l.rule-index l.rules)
