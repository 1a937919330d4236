-- What a running curve stands for: a curve, and the openings that it was given, the newest first; and what it answers.
use Rattle.std.specs.Prelude.{◌≡◌, ℕ, Bool, List, [], Option, None, Some}
use Rattle.service_curve.specs.declared.Curve.{Curve}
use Rattle.runtime_curve.specs.declared.Opening.{Opening}
use Rattle.runtime_curve.specs.declared.Running.{Running}
use Rattle.runtime_curve.specs.Opening.{eligible_curve, newest}
use Rattle.runtime_curve.specs.Deadline.{deadline, reaches, soonest_from}
use Rattle.runtime_curve.specs.Held.{AreUpTo, Stand, last_held, both, three}

-- no opening is later than the last or of greater count
abbrev pub AreUpToLast : Option Opening → List Opening → Type 0
AreUpToLast None os = os ≡ []
AreUpToLast (Some last) os = AreUpTo last os

-- the last opening that it was given
unfoldable pub last_of : Running → Option Opening
last_of running = last_held (three running.kept)

pub record Represents (running : Running) (s : Curve) (os : List Opening) : Type 0 where
  pub curve : running.curve ≡ s
  pub last : last_of running ≡ newest os
  pub up_to : AreUpToLast (newest os) os
  pub held : Stand s (three running.kept) os

-- its answers, by what it holds
unfoldable pub deadline_now : Running → ℕ → Option ℕ
deadline_now running count = deadline running.curve (both (three running.kept)) count

unfoldable pub eligible_now : Running → ℕ → ℕ → Bool
eligible_now running now count = reaches (eligible_curve running.curve) (both (three running.kept)) now count

unfoldable pub soonest_now : Running → ℕ → Option ℕ
soonest_now running count = soonest_from (last_of running) running.curve (both (three running.kept)) count
