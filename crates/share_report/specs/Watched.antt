-- The histories that a watched discipline stands for.
use Rattle.std.specs.Prelude.{◌≡◌, ◌≤◌, ℕ, List}
use Rattle.altq_model.specs.History.{LabelledEvent, unlabelled, offered}
use Rattle.altq_model.specs.Play.{Policy}
use Rattle.altq_model.specs.Policies.{Answering}
use Rattle.hfsc_model.specs.declared.HfscClass.{HfscClass}
use Rattle.hfsc_policy.specs.Events.{hfsc_history}
use Rattle.hfsc_policy.specs.Heads.{kept_in}
use Rattle.hfsc_policy.specs.Policy.{hfsc_policy}
use Rattle.share_gaps.specs.declared.watch.Watch.{Watch}
use Rattle.share_gaps.specs.Watching.{Represents, classes_of}
use Rattle.share_report.specs.declared.watched.Watched.{Watched}

-- the policy is that of HFSC over these classes, however their queues answer
pub record IsHfscOver (cs : List HfscClass) (p : Policy) : Type 0 where
  pub answer : Answering
  pub is : p ≡ hfsc_policy cs answer

-- those that the discipline stands for, and the watch for what HFSC sees of them; `kept` packets were kept
pub record BothStand (inner : List LabelledEvent → Type 0) (p : Policy) (watch : Watch) (kept : ℕ) (h : List LabelledEvent) : Type 0 where
  pub stands : inner h
  pub shares : IsHfscOver (classes_of watch) p
  pub watches : Represents watch (hfsc_history (unlabelled h))
  pub kept_is : kept_in (hfsc_history (unlabelled h)) ≡ kept
  pub counted : kept ≤ offered (unlabelled h)

-- the classes that are watched
abbrev pub classes_in : {D : Type 0} → Watched D → List HfscClass
classes_in d = classes_of d.watch
