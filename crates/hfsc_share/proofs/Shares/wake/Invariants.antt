use Rattle.std.proofs.Common.{◌≡◌, ◌∷◌, ℕ, List, true}
use Rattle.hfsc_model.specs.declared.HfscClass.{HfscClass}
use Rattle.hfsc_model.specs.Event.{HfscHistory, Enqueued}
use Rattle.hfsc_groups.specs.Classes.{AreSmall}
use Rattle.hfsc_share.specs.Walk.{IsOnWay, Walks, steps_left}
use Rattle.hfsc_share.specs.Shares.{Represents}
use Rattle.hfsc_share.proofs.Shares.wake.Given as goal

abbrev pub invariant-loop-next : goal.invariant-loop-next
invariant-loop-next l = record {
  walks : (cs : List HfscClass) (h : HfscHistory) (len : ℕ) → Represents l.fn.self cs h → AreSmall cs (Enqueued l.leaf l.at len ∷ h)
      → Walks cs h (Enqueued l.leaf l.at len ∷ h) l.at l.leaf l.next l.self.nodes.items;
  way : IsOnWay l.leaf true l.next l.fn.self.nodes.items l.self.nodes.items;
  woken : l.self.woken ≡ l.at;
}

abbrev pub decreases-loop-next : goal.decreases-loop-next
decreases-loop-next l = steps_left l.next
