-- Both choices of HFSC together: the histories that they stand for, and what is chosen.
use Rattle.std.specs.Prelude.{◌≡◌, ◌≤◌, ◌<◌, ℕ, not, Bool, true, false, List, [], drop, Option, None, Some, All}
use Rattle.hfsc_model.specs.declared.HfscClass.{HfscClass}
use Rattle.hfsc_model.specs.Event.{HfscHistory}
use Rattle.hfsc_model.specs.Leaf.{leaf, head_len, is_waiting}
use Rattle.hfsc_model.specs.RealTime.{AreOpenBy}
use Rattle.hfsc_model.specs.Timely.{IsHead}
use Rattle.hfsc_model.specs.Tree.{is_leaf, reals}
use Rattle.hfsc_policy.specs.Classes.{IsClassTree}
use Rattle.hfsc_policy.specs.Heads.{AreHeads, IsSized, kept_in}
use Rattle.hfsc_policy.specs.Policy.{earlier_of}
use Rattle.hfsc_eligible.specs.Real.{CanCarry}
use Rattle.hfsc_eligible.specs.Eligible.{Represents as RealStands, pick_now as real_pick_now, soonest_now as real_soonest_now}
use Rattle.hfsc_groups.specs.Classes.{AreClasses}
use Rattle.hfsc_share.specs.Shares.{Represents as ShareStands, last_wake, pick_now as share_pick_now, soonest_now as share_soonest_now}
use Rattle.hfsc_core.specs.declared.chooser.Chooser.{Chooser}
use Rattle.hfsc_core.specs.declared.chooser.Chosen.{Chosen}
use Rattle.hfsc_core.specs.declared.chooser.Chosen.TheVariants.{Real, Shared, Later, Nothing}

-- the classes that an interface may have
pub record MayBuild (cs : List HfscClass) : Type 0 where
  pub tree : IsClassTree cs
  pub share : AreClasses cs
  pub real : All CanCarry (reals cs)

abbrev pub classes_of : Chooser → List HfscClass
classes_of x = x.classes.items

-- the moment of the last packet that came to an empty leaf
abbrev pub woken_at : Chooser → ℕ
woken_at x = last_wake x.shares

-- both choices stand for a history, in which packets came to leaves alone
pub record Represents (x : Chooser) (h : HfscHistory) : Type 0 where
  pub tree : IsClassTree (classes_of x)
  pub real : RealStands x.eligible (reals (classes_of x)) h
  pub share : ShareStands x.shares (classes_of x) h
  pub opened : AreOpenBy h (woken_at x)
  pub packets : AreHeads h
  pub inside : (c : ℕ) → is_leaf (classes_of x) c ≡ false → (leaf h c).waiting ≡ []
  pub few : kept_in h ≤ 4000000

-- a packet may be kept in a leaf, which is empty or not
pub record MayKeep (x : Chooser) (h : HfscHistory) (class at len : ℕ) (empty : Bool) : Type 0 where
  pub stands : Represents x h
  pub of_leaf : is_leaf (classes_of x) class ≡ true
  pub waits : is_waiting (leaf h class).waiting ≡ not empty
  pub sized : IsSized len
  pub few : kept_in h < 4000000
  pub later : woken_at x ≤ at

-- the head of a leaf may be sent, behind which another is the head
pub record MayLeave (x : Chooser) (h : HfscHistory) (class len : ℕ) (head : Option ℕ) : Type 0 where
  pub stands : Represents x h
  pub front : IsHead (leaf h class).waiting len
  pub next : head ≡ head_len (drop 1 (leaf h class).waiting)

abbrev pub till : Option ℕ → Chosen
till None = Nothing
till (Some t) = Later t

abbrev pub shared_or : Option ℕ → Chosen → Chosen
shared_or None x = x
shared_or (Some c) x = Shared c

abbrev pub real_or : Option ℕ → Chosen → Chosen
real_or None x = x
real_or (Some c) x = Real c

-- what is chosen at a moment, by what is held
abbrev pub chosen_now : Chooser → ℕ → Chosen
chosen_now x now =
    real_or (real_pick_now x.eligible now) (shared_or (share_pick_now x.shares now) (till (earlier_of (real_soonest_now x.eligible)
    (share_soonest_now x.shares))))
