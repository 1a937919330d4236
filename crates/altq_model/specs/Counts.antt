-- What the statistics count, as sums over the arrivals and the decisions. Bytes are sums of lengths.
use Rattle.std.specs.Prelude.{◌+◌, ◌==◌, ◌&&◌, ℕ, Bool, true, false, List, [], ◌∷◌, if◌then◌else◌}
use Rattle.altq_model.specs.declared.Counts.{Counts}
use Rattle.altq_model.specs.declared.Fate.{Fate}
use Rattle.altq_model.specs.declared.Fate.TheVariants.{Dropped, Sent}
use Rattle.altq_model.specs.declared.Reason.TheVariants.{Full, Early, Forced}
use Rattle.altq_model.specs.Arrivals.{Captured, arrival}
use Rattle.altq_model.specs.History.{Decision}

-- the sum of `amount` over a list
abbrev pub total : {X : Type 0} → (X → ℕ) → List X → ℕ
total amount [] = 0
total amount (x ∷ xs) = amount x + total amount xs

abbrev pub is_sent : Fate → Bool
is_sent (Dropped reason) = false
is_sent (Sent start end rule) = true

-- whether a fate is a drop for this reason
abbrev pub is_full : Fate → Bool
is_full (Dropped Full) = true
is_full (Dropped Early) = false
is_full (Dropped Forced) = false
is_full (Sent start end rule) = false

abbrev pub is_early : Fate → Bool
is_early (Dropped Full) = false
is_early (Dropped Early) = true
is_early (Dropped Forced) = false
is_early (Sent start end rule) = false

abbrev pub is_forced : Fate → Bool
is_forced (Dropped Full) = false
is_forced (Dropped Early) = false
is_forced (Dropped Forced) = true
is_forced (Sent start end rule) = false

-- the sum of `amount` over the arrivals that `meant` accepts
abbrev pub of_arrivals : (meant : Captured → Bool) → (amount : Captured → ℕ) → List Captured → ℕ
of_arrivals meant amount arrived = total (λ a. if meant a then amount a else 0) arrived

-- the sum of `amount` over the decisions whose arrival `meant` accepts and whose fate `told` accepts
abbrev pub of_decisions : (meant : Captured → Bool) → (told : Fate → Bool) → (amount : Captured → ℕ) → List Captured → List Decision → ℕ
of_decisions meant told amount arrived js =
    total (λ d. if meant (arrival arrived d.0) && told d.1 then amount (arrival arrived d.0) else 0) js

abbrev pub one : Captured → ℕ
one a = 1

-- the counts of the arrivals that `meant` accepts, and of what was decided of them
abbrev pub counts_where : (meant : Captured → Bool) → List Captured → List Decision → Counts
counts_where meant arrived js = record {
  arrived = of_arrivals meant one arrived;
  arrived_bytes = of_arrivals meant (λ a. a.len) arrived;
  raised = of_arrivals (λ a. meant a && a.raised) one arrived;
  sent = of_decisions meant is_sent one arrived js;
  sent_bytes = of_decisions meant is_sent (λ a. a.len) arrived js;
  full = of_decisions meant is_full one arrived js;
  early = of_decisions meant is_early one arrived js;
  forced = of_decisions meant is_forced one arrived js;
}

-- those of a class
abbrev pub counts_of : (c : ℕ) → List Captured → List Decision → Counts
counts_of c arrived js = counts_where (λ a. a.class == c) arrived js

-- those of all
abbrev pub counts_of_all : List Captured → List Decision → Counts
counts_of_all arrived js = counts_where (λ a. true) arrived js
