use Rattle.std.proofs.Common.{◌≡◌, ◌≤◌, ◌+◌, ◌-◌, ◌*◌, vec_len}
use Rattle.generated.specs.Generating.{Continues}
use Rattle.generated.proofs.writing.add_records.Given as goal

abbrev pub invariant-loop-added : goal.invariant-loop-added
invariant-loop-added l = record {
  within : l.added ≤ l.more;
  seed : l.generator.seed ≡ l.fn.generator.seed;
  made : l.generator.made ≡ l.fn.generator.made + l.added;
  behind : Continues l.fn.generator.seed l.fn.generator.made l.piece.items (l.fn.generator.made + l.added);
  long : vec_len l.piece ≡ 58 * l.added;
}

abbrev pub decreases-loop-added : goal.decreases-loop-added
decreases-loop-added l = l.more - l.added
