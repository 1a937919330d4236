use Rattle.std.proofs.Common.{◌≡◌, ◌≤◌, ◌<◌, ◌++◌, ◌-◌, ℕ, Some, length}
use Rattle.hfsc_model.specs.Tree.{path, path_up}
use Rattle.share_gaps.proofs.place.path_of.Given as goal

abbrev pub invariant-loop : goal.invariant-loop
invariant-loop l = record {
  rest : l.up.items ++ path_up (8 - l.counter) l.classes l.next ≡ path l.classes l.class;
  low : (c : ℕ) → l.next ≡ Some c → c < length l.classes;
  count : l.counter ≤ 8;
}
