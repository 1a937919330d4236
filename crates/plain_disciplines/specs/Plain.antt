-- What a plain discipline knows of its policy.
use Rattle.altq_model.specs.Lawful.{IsLawful, IsSteady}
use Rattle.altq_model.specs.Play.{Policy}
use Rattle.discipline.specs.Laws.{AreDistinct}

-- it is lawful and steady, and no class is twice in it
pub record IsPlain (p : Policy) : Type 0 where
  pub lawful : IsLawful p
  pub steady : IsSteady p
  pub distinct : AreDistinct p.classes
