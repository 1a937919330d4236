-- The gap of two siblings over a history: how far apart, at most, their work was in a stretch in which both were active.
use Rattle.std.specs.Prelude.{◌≡◌, ◌⊎◌, ◌+◌, ◌*◌, ℕ, List}
use Rattle.hfsc_model.specs.declared.HfscClass.{HfscClass}
use Rattle.hfsc_model.specs.Event.{HfscHistory}
use Rattle.fair_shares.specs.Fairness.{AreBothActive, DifferBy, IsStretch, work}

-- in some stretch of g, after each event of which both are active, the work of c by the rate of d is x more than that of d by the
-- rate of c
pub record IsAhead (cs : List HfscClass) (g : HfscHistory) (c d rate other x : ℕ) : Type 0 where
  pub stretch : HfscHistory
  pub before : HfscHistory
  pub part : IsStretch g stretch before
  pub both : AreBothActive cs c d stretch before
  pub ahead : work cs stretch c * other ≡ work cs stretch d * rate + x

-- x is the greatest difference over all such stretches, whichever is ahead; 0 where there is none, as of no event
pub record IsGreatest (cs : List HfscClass) (g : HfscHistory) (c d rate other x : ℕ) : Type 0 where
  pub most : (stretch h : HfscHistory) → IsStretch g stretch h → AreBothActive cs c d stretch h
      → DifferBy x (work cs stretch c * other) (work cs stretch d * rate)
  pub there : IsAhead cs g c d rate other x ⊎ IsAhead cs g d c other rate x
