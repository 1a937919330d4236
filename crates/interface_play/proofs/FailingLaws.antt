-- When a fault of a play comes, by what is said of its source.
use Rattle.std.proofs.Common.{◌⊎◌, ℕ, refl, inl, inr}
use Rattle.capture_model.specs.Capture.{Fault, Limit}
use Rattle.file_plans.specs.End.{Untouched}
use Rattle.file_plans.specs.Plan.{number_of}
use Rattle.play_base.specs.View.{View}
use Rattle.play_loop.specs.declared.fault.Limit.TheVariants as limit
use Rattle.play_loop.specs.declared.fault.Output.TheVariants as output
use Rattle.play_loop.specs.declared.fault.PlayFault.{PlayFault}
use Rattle.play_loop.specs.declared.fault.PlayFault.TheVariants as play
use Rattle.run_outcomes.specs.declared.outcome.Link.{Link}
use Rattle.interface_play.specs.Failing.{FailsAs, HasWholeTexts, IsCutShort, IsLate, IsOffered, PlayFails, play_failure}
use Rattle.interface_play.specs.Source.{Places, Source}

module _ (Of By : (Source → Type 0) → Type 0) (w : Places) (seed : ℕ) (old new : View) where
  pub fails_by : (f : PlayFault) → ((P : Source → Type 0) → Of P → By P) → PlayFails Of w seed old new f → PlayFails By w seed old new f
  fails_by (play.Capture d) k x = k (λ s. IsOffered new w seed s (Fault d)) x
  fails_by play.Read k x = (x.0, k (IsCutShort old new w seed) x.1)
  fails_by (play.Write output.Departures) k x = x
  fails_by (play.Write output.Fates) k x = x
  fails_by (play.Write output.Statistics) k x = (x.0, by x.1)
    where
      by : Untouched old new (number_of w.stats) ⊎ Of (HasWholeTexts new w seed) → Untouched old new (number_of w.stats) ⊎ By (HasWholeTexts new w seed)
      by (inl h) = inl h
      by (inr h) = inr (k (HasWholeTexts new w seed) h)
  fails_by (play.Limit limit.Capture) k x = k (λ s. IsOffered new w seed s Limit) x
  fails_by (play.Limit limit.Clock) k x = k (IsLate old new w seed) x
  fails_by play.NoMemory k x = tt

  -- so a command fails
  pub failed_as : (link : Link) (f : PlayFault) → ((P : Source → Type 0) → Of P → By P) → PlayFails Of w seed old new f
      → FailsAs By link w seed old new (play_failure link w f)
  failed_as link f k x = record { fault = f; same = refl; fails = fails_by f k x }
