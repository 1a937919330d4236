-- The counts of a play.
use Rattle.std.specs.Prelude.{◌≡◌, ◌+◌, ℕ, List, [], ◌∷◌}
use Rattle.altq_model.specs.declared.Fate.{Fate}
use Rattle.altq_model.specs.declared.Fate.TheVariants.{Dropped, Sent}
use Rattle.altq_model.specs.History.{Decision, LabelledEvent, unlabelled, offered, journal}
use Rattle.altq_model.specs.Link.{link}
use Rattle.play_core.specs.declared.totals.Totals.{Totals}

abbrev pub one_sent : Fate → ℕ
one_sent (Dropped reason) = 0
one_sent (Sent start end rule) = 1

abbrev pub one_dropped : Fate → ℕ
one_dropped (Dropped reason) = 1
one_dropped (Sent start end rule) = 0

-- how many of these decisions are sendings, and how many are drops
abbrev pub count_sent : List Decision → ℕ
count_sent [] = 0
count_sent (d ∷ js) = one_sent d.1 + count_sent js

abbrev pub count_dropped : List Decision → ℕ
count_dropped [] = 0
count_dropped (d ∷ js) = one_dropped d.1 + count_dropped js

-- the counts of decisions, given how many packets were offered and the last end
pub record IsCounted (js : List Decision) (offers free : ℕ) (t : Totals) : Type 0 where
  pub arrived : t.arrived ≡ offers
  pub sent : t.sent ≡ count_sent js
  pub dropped : t.dropped ≡ count_dropped js
  pub last_end : t.last_end ≡ free

-- the totals are the counts of a history: of its offers, its sendings and its drops, and the end of the last sending, 0 where there
-- is none
abbrev pub AreTotals : (rate : ℕ) → List LabelledEvent → Totals → Type 0
AreTotals rate g t = IsCounted (journal g) (offered (unlabelled g)) (link rate (unlabelled g)).free t
