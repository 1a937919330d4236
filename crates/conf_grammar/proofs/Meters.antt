-- The numbers of a meter lead from where they are wanted to behind them.
use Rattle.std.proofs.Common.{◌≡◌, ℕ, ◌+◌, ◌^◌, List, [], ◌∷◌, ◌++◌, None, Result, Ok, Err, refl, codes}
use Rattle.conf_lines.proofs.Readings.{past}
use Rattle.conf_lines.specs.Grammar.{Place, at_pir, end, step}
use Rattle.conf_lines.specs.Slots.{are_plain, rate_in, whole_in}
use Rattle.conf_lines.specs.declared.fault.ConfKind.{ConfKind}
use Rattle.conf_lines.specs.declared.item.What.{What}
use Rattle.conf_lines.specs.declared.item.What.TheVariants as what
use Rattle.conf_lines.specs.declared.options.Slots.TheVariants as slots
use Rattle.conf_grammar.proofs.Leads.{Found, Good, Leads, NoFault, found_more, one_more, ◌>+◌}
use Rattle.conf_grammar.proofs.OneWord.{rate_back, rate_by, rate_read, rate_then, whole_by, whole_leads, whole_then}
use Rattle.conf_grammar.proofs.Places.{after, resumed, wanting}
use Rattle.conf_grammar.specs.Phrases.{◌▷◌, then}
use Rattle.conf_grammar.specs.Spells.{OneRate}
use Rattle.conf_grammar.specs.Words.{IsRate, Rate, rate, TwoRates, two_rates, Whole, whole}

-- ONE RATE: behind CIR, which is there for instance as 1000
behind_cir : Place → Place
unfolding step rate_in are_plain
behind_cir q = after (wanting slots.Single q) (step (wanting slots.Single q) (codes "1000"))

cir_leads : (q : Place) → Leads q.form (Rate 1000 (10 ^ 12)) (wanting slots.Single q) (behind_cir q)
unfolding step end rate_in are_plain behind_cir
cir_leads q =
    rate_by q.form 1000 (10 ^ 12) (wanting slots.Single q) (behind_cir q)
    (λ w. rate_then (wanting slots.Single q) (behind_cir q) (rate_in 1000 (10 ^ 12) w)) (λ e. cc)

cbs_leads : (q : Place) → Leads q.form (Whole 1 (2 ^ 30)) (behind_cir q) (wanting (slots.Whole 0 (2 ^ 30)) q)
unfolding step end rate_in are_plain behind_cir
cbs_leads q =
    whole_by q.form 1 (2 ^ 30) (behind_cir q) (wanting (slots.Whole 0 (2 ^ 30)) q)
    (λ w. whole_then (behind_cir q) (wanting (slots.Whole 0 (2 ^ 30)) q) (whole_in 1 (2 ^ 30) w)) (λ e. cc)

pub one_rate_leads : (q : Place) → Leads q.form OneRate (wanting slots.Single q) (resumed q)
one_rate_leads q = cir_leads q >+ cbs_leads q >+ whole_leads 0 (2 ^ 30) q

-- TWO RATES
abbrev behind_pir : Place → ℕ → Place
behind_pir q pir = after (wanting slots.Two q) (at_pir (Ok pir) (wanting slots.Two q))

behind_pbs : Place → ℕ → Place
unfolding step whole_in are_plain
behind_pbs q pir = after (behind_pir q pir) (step (behind_pir q pir) (codes "1"))

pbs_leads : (q : Place) (pir : ℕ) → Leads q.form (Whole 1 (2 ^ 30)) (behind_pir q pir) (behind_pbs q pir)
unfolding step end whole_in are_plain behind_pbs
pbs_leads q pir =
    whole_by q.form 1 (2 ^ 30) (behind_pir q pir) (behind_pbs q pir) (λ w. whole_then (behind_pir q pir) (behind_pbs q pir) (whole_in 1 (2 ^ 30) w)) (λ e. cc)

below_leads : (q : Place) (pir : ℕ) → Leads q.form (Rate 1000 pir) (behind_pbs q pir) (wanting (slots.Whole 1 (2 ^ 30)) q)
unfolding step end whole_in are_plain behind_pbs
below_leads q pir =
    rate_by q.form 1000 pir (behind_pbs q pir) (wanting (slots.Whole 1 (2 ^ 30)) q)
    (λ w. rate_then (behind_pbs q pir) (wanting (slots.Whole 1 (2 ^ 30)) q) (rate_in 1000 pir w)) (λ e. cc)

abbrev BehindPir : ℕ → List (List ℕ) → List What → Type 0
BehindPir pir = Whole 1 (2 ^ 30) ▷ Rate 1000 pir ▷ Whole 1 (2 ^ 30)

behind_leads : (q : Place) (pir : ℕ) → Leads q.form (BehindPir pir) (behind_pir q pir) (resumed q)
behind_leads q pir = pbs_leads q pir >+ below_leads q pir >+ whole_leads 1 (2 ^ 30) q

with_pir : (w : List ℕ) (pir : ℕ) {words : List (List ℕ)} {says : List What} → IsRate 1000 (10 ^ 12) w pir → BehindPir pir words says
    → TwoRates (w ∷ words) (what.Rate pir ∷ says)
with_pir w pir is (then (whole a) (then (rate b) (whole c))) = two_rates is a b c

read_two : (q : Place) {words more : List (List ℕ)} {says rest : List What} → TwoRates words says → Good q.form (resumed q) more rest
    → Good q.form (wanting slots.Two q) (words ++ more) (says ++ rest)
unfolding step
read_two q (two_rates {t = t} {pir = pir} a b c d) good =
    one_more (wanting slots.Two q) (behind_pir q pir) t (what.Rate pir) (rw (rate_read 1000 (10 ^ 12) t pir a) refl)
    ((behind_leads q pir).read (then (whole b) (then (rate c) (whole d))) good)

find_two : (q : Place) (line : ℕ) (words : List (List ℕ)) (at : ℕ) → NoFault line words (wanting slots.Two q) at → Found TwoRates (resumed q) line words
unfolding step end
find_two q line [] at h = absurd cc
find_two q line (w ∷ words) at h = go (rate_in 1000 (10 ^ 12) w) refl h
  where
    go : (r : Result ℕ ConfKind) → rate_in 1000 (10 ^ 12) w ≡ r → (past line words (wanting slots.Two q) at (at_pir r (wanting slots.Two q))).fault ≡ None
        → Found TwoRates (resumed q) line (w ∷ words)
    go (Err kind) e h = absurd cc
    go (Ok pir) e h =
        found_more w (what.Rate pir) (λ ws xs v. with_pir w pir (rate_back 1000 (10 ^ 12) w pir e) v) ((behind_leads q pir).found line words (at + 1) h)

pub two_rates_lead : (q : Place) → Leads q.form TwoRates (wanting slots.Two q) (resumed q)
two_rates_lead q = record { read = read_two q; found = find_two q }
