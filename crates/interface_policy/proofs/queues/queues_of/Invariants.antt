use Rattle.std.proofs.Common.{◌≡◌, length, map, take}
use Rattle.std.specs.Prelude.{All}
use Rattle.class_rows.specs.Rows.{IsNewQueue}
use Rattle.rio_precedence.specs.Any.{most_of, says_of, stands_of}
use Rattle.interface_policy.specs.Policy.{queue_says}
use Rattle.interface_policy.proofs.queues.queues_of.Given as goal

abbrev pub invariant-loop-class : goal.invariant-loop-class
invariant-loop-class l = record {
  says : map says_of l.queues.items ≡ map (queue_says l.rate) (take l.class-index l.classes);
  count : length l.queues.items ≡ l.class-index;
  new : All (IsNewQueue stands_of most_of) l.queues.items;
}
