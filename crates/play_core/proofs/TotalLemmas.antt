-- The counts of one decision more.
use Rattle.std.proofs.Common.{◌≡◌, ◌+◌, ◌++◌, List, [], ◌∷◌, ℕ, ap, arith}
use Rattle.std.proofs.lemmas.List.{append-nil}
use Rattle.altq_model.specs.declared.Fate.TheVariants.{Dropped}
use Rattle.altq_model.specs.declared.Verdict.{Verdict}
use Rattle.altq_model.specs.declared.Verdict.TheVariants.{Keep, Mark, Drop}
use Rattle.altq_model.specs.History.{Decision, dropped_by}
use Rattle.play_core.specs.Totals.{one_sent, one_dropped, count_sent, count_dropped}

pub sent_push : (js : List Decision) (d : Decision) → count_sent (js ++ d ∷ []) ≡ count_sent js + one_sent d.1
sent_push [] d = omega arith
sent_push (j ∷ js) d = omega (arith, sent_push js d)

pub dropped_push : (js : List Decision) (d : Decision) → count_dropped (js ++ d ∷ []) ≡ count_dropped js + one_dropped d.1
dropped_push [] d = omega arith
dropped_push (j ∷ js) d = omega (arith, dropped_push js d)

-- a verdict decides of no sending, and of a drop where it drops
abbrev pub one_lost : Verdict → ℕ
one_lost Keep = 0
one_lost Mark = 0
one_lost (Drop r) = 1

pub sent_offer : (js : List Decision) (v : Verdict) (n : ℕ) → count_sent (js ++ dropped_by v n) ≡ count_sent js
sent_offer js Keep n = ap count_sent (append-nil js)
sent_offer js Mark n = ap count_sent (append-nil js)
sent_offer js (Drop r) n = let q = sent_push js (n, Dropped r) in omega (arith, q)

pub dropped_offer : (js : List Decision) (v : Verdict) (n : ℕ) → count_dropped (js ++ dropped_by v n) ≡ count_dropped js + one_lost v
dropped_offer js Keep n = let q = ap count_dropped (append-nil js) in omega (arith, q)
dropped_offer js Mark n = let q = ap count_dropped (append-nil js) in omega (arith, q)
dropped_offer js (Drop r) n = let q = dropped_push js (n, Dropped r) in omega (arith, q)
