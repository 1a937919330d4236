use Rattle.std.proofs.Common.{◌≡◌, ◌≤◌, ◌<◌, ◌-◌, ℕ, true, false, get_or, vec_len}
use Rattle.fate_busy.proofs.left.Left.skip_gone.Given as goal

abbrev pub invariant-loop-self : goal.invariant-loop-self
invariant-loop-self l = record {
  same : l.self.gone ≡ l.fn.self.gone;
  free : l.self.free ≡ l.fn.self.free;
  later : l.fn.self.first ≤ l.self.first;
  gone : (k : ℕ) → l.fn.self.first ≤ k → k < l.self.first → get_or l.self.gone.items k false ≡ true;
}

abbrev pub decreases-loop-self : goal.decreases-loop-self
decreases-loop-self l = vec_len l.self.gone - l.self.first
