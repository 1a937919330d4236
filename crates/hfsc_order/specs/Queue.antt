-- A tree of HFSC that is one queue.
use Rattle.std.specs.Prelude.{◌≡◌, ℕ, List, [], ◌∷◌, None}
use Rattle.altq_model.specs.declared.Rule.TheVariants.{Share}
use Rattle.altq_model.specs.Play.{Policy}
use Rattle.altq_model.specs.Policies.{Answering, strict}
use Rattle.hfsc_model.specs.declared.HfscClass.{HfscClass}
use Rattle.hfsc_model.specs.RealTime.{curve_of}
use Rattle.hfsc_model.specs.Tree.{reals}
use Rattle.hfsc_policy.specs.Classes.{HaveNoLimits, leaves}

-- the classes have one leaf, and no class has an upper limit, or a real-time curve but one that is 0 everywhere. Link-sharing curves
-- may be any
pub record IsOneQueue (cs : List HfscClass) (l : ℕ) : Type 0 where
  pub leaf : leaves cs ≡ l ∷ []
  pub no_limits : HaveNoLimits cs
  pub no_real_time : (c : ℕ) → curve_of (reals cs) c ≡ None

-- one queue, that of a class, which is always sent by share and at any moment
abbrev pub queue_of : (l : ℕ) → Answering → Policy
queue_of l answer = strict (l ∷ []) Share answer
