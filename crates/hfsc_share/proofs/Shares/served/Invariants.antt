use Rattle.std.proofs.Common.{◌≡◌, ◌∷◌, ℕ, Bool, List}
use Rattle.std.specs.Prelude.{not}
use Rattle.hfsc_model.specs.declared.HfscClass.{HfscClass}
use Rattle.hfsc_model.specs.Event.{HfscHistory, Sent}
use Rattle.hfsc_groups.specs.Classes.{AreSmall, waits_in}
use Rattle.hfsc_share.specs.Walk.{IsOnWay, Walks, steps_left}
use Rattle.hfsc_share.specs.Shares.{Represents}
use Rattle.hfsc_share.proofs.Shares.served.Given as goal

abbrev pub invariant-loop-next : goal.invariant-loop-next
invariant-loop-next l = record {
  walks : (cs : List HfscClass) (h : HfscHistory) (real : Bool) (start : ℕ) → Represents l.fn.self cs h
      → waits_in (Sent l.leaf l.len real start ∷ h) l.leaf ≡ not l.empty → AreSmall cs (Sent l.leaf l.len real start ∷ h)
      → Walks cs h (Sent l.leaf l.len real start ∷ h) l.fn.self.woken l.leaf l.next l.self.nodes.items;
  way : IsOnWay l.leaf (not l.empty) l.next l.fn.self.nodes.items l.self.nodes.items;
  woken : l.self.woken ≡ l.fn.self.woken;
}

abbrev pub decreases-loop-next : goal.decreases-loop-next
decreases-loop-next l = steps_left l.next
