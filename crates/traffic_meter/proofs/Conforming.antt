-- What passes a meter conforms.
use Rattle.std.proofs.Common.{◌≡◌, ◌≤◌, ◌+◌, ◌-◌, ◌*◌, ℕ, Bool, refl, ap, ◌∙◌, List, [], ◌∷◌, ◌++◌, arith}
use Rattle.std.specs.Prelude.{if◌then◌else◌}
use Rattle.play_base.specs.Units.{units}
use Rattle.traffic_meter.specs.declared.rule.MeterRule.{MeterRule}
use Rattle.traffic_meter.specs.declared.rule.MeterRule.TheVariants.{Single, Two}
use Rattle.traffic_meter.specs.declared.rule.Colour.{Colour}
use Rattle.traffic_meter.specs.declared.rule.Colour.TheVariants.{Green, Yellow, Red}
use Rattle.traffic_meter.specs.Buckets.{Buckets, committed_rate, committed_burst, filled, paid}
use Rattle.traffic_meter.specs.History.{Metered, buckets, colour_after, colour_of, latest, ArrivalsAreInOrder}
use Rattle.traffic_meter.specs.Conforming.{GreenConforms, PassedConforms, allowed, coloured, earliest, is_green, is_passed}
use Rattle.traffic_meter.proofs.Buckets.{Pays, given_on, green_pays, single_pays, two_pays}

paid_moment : (rule : MeterRule) (k : Colour) (b : Buckets) (U : ℕ) → (paid rule k b U).moment ≡ b.moment
paid_moment rule Red b U = refl
paid_moment rule Yellow b U = refl
paid_moment (Single cir cbs ebs af) Green b U = refl
paid_moment (Two pir pbs cir cbs af) Green b U = refl

filled_moment : (rule : MeterRule) (b : Buckets) (t : ℕ) → (filled rule b t).moment ≡ t
filled_moment (Single cir cbs ebs af) b t = refl
filled_moment (Two pir pbs cir cbs af) b t = refl

-- the buckets are as of the newest packet
pub after_moment : (rule : MeterRule) (h : List Metered) → (buckets rule h).moment ≡ latest h
after_moment rule [] = refl
after_moment rule (a ∷ h) =
    paid_moment rule (colour_of rule (buckets rule h) a) (filled rule (buckets rule h) a.moment) (units a.len)
    ∙ filled_moment rule (buckets rule h) a.moment

pub earliest_first : (a : Metered) (s h : List Metered) → ArrivalsAreInOrder (a ∷ s ++ h) → earliest (a ∷ s) ≤ a.moment
earliest_first a [] h order = omega arith
earliest_first a (b ∷ s) h order =
    let rest = earliest_first b s h order.1 in
    omega (arith, order.0)

one_more : (mine rest left full was cap gap time all : ℕ) → mine + left ≤ full → full ≤ was + gap → rest + was ≤ cap + time
    → gap + time ≡ all → (mine + rest) + left ≤ cap + all
one_more mine rest left full was cap gap time all pays gains before sum = omega arith

-- what has paid in a stretch and what is left are at most the cap and what the rate gives in its time
pub kept : (test : Colour → Bool) (rule : MeterRule) (held : Buckets → ℕ) (rate cap : ℕ) → Pays test rule held rate cap
    → (a : Metered) (s h : List Metered) → ArrivalsAreInOrder (a ∷ s ++ h)
    → coloured test rule (a ∷ s) h + held (buckets rule (a ∷ s ++ h)) ≤ cap + rate * (a.moment - earliest (a ∷ s))
kept test rule held rate cap p a [] h order =
    let pays = p.pays (filled rule (buckets rule h) a.moment) (units a.len) in
    let capped = p.capped (buckets rule h) a.moment in
    omega (arith, pays, capped)
kept test rule held rate cap p a (b ∷ s) h order =
    let before : Buckets = buckets rule (b ∷ s ++ h) in
    let mine : ℕ = (if test (colour_of rule before a) then units a.len else 0) in
    let same = ap (λ t. rate * (a.moment - t)) (after_moment rule (b ∷ s ++ h)) in
    let gains = p.gains before a.moment in
    one_more mine (coloured test rule (b ∷ s) h) (held (buckets rule (a ∷ b ∷ s ++ h))) (held (filled rule before a.moment))
    (held before) cap (rate * (a.moment - b.moment)) (rate * (b.moment - earliest (b ∷ s)))
    (rate * (a.moment - earliest (b ∷ s))) (p.pays (filled rule before a.moment) (units a.len)) (omega (arith, gains, same))
    (kept test rule held rate cap p b s h order.1)
    (given_on rate (earliest (b ∷ s)) b.moment a.moment (earliest_first b s h order.1) order.0)

pub conforms : (test : Colour → Bool) (rule : MeterRule) (held : Buckets → ℕ) (rate burst : ℕ)
    → Pays test rule held rate (units burst) → (s h : List Metered) → ArrivalsAreInOrder (s ++ h)
    → coloured test rule s h ≤ allowed rate burst s
conforms test rule held rate burst p [] h order = omega arith
conforms test rule held rate burst p (a ∷ s) h order =
    let all = kept test rule held rate (units burst) p a s h order in
    omega (arith, all)

pub green : (rule : MeterRule) (s h : List Metered) → ArrivalsAreInOrder (s ++ h) → GreenConforms rule s h
green rule = conforms is_green rule (λ b. b.committed) (committed_rate rule) (committed_burst rule) (green_pays rule)

-- a green packet is one of the green and yellow ones
green_passes : (k : Colour) (U : ℕ) → (if is_green k then U else 0) ≤ (if is_passed k then U else 0)
green_passes Green U = omega arith
green_passes Yellow U = omega arith
green_passes Red U = omega arith

fewer_green : (rule : MeterRule) (s h : List Metered) → coloured is_green rule s h ≤ coloured is_passed rule s h
fewer_green rule [] h = omega arith
fewer_green rule (a ∷ s) h =
    let rest = fewer_green rule s h in
    let one = green_passes (colour_after rule (s ++ h) a) (units a.len) in
    omega (arith, one, rest)

pub passed : (rule : MeterRule) (s h : List Metered) → ArrivalsAreInOrder (s ++ h) → PassedConforms rule s h
passed (Single cir cbs ebs af) s h order =
    conforms is_passed (Single cir cbs ebs af) (λ b. b.committed + b.other) cir (cbs + ebs) (single_pays cir cbs ebs af) s h order
passed (Two pir pbs cir cbs af) s h order =
    let all : coloured is_passed (Two pir pbs cir cbs af) s h ≤ allowed pir pbs s
    = conforms is_passed (Two pir pbs cir cbs af) (λ b. b.other) pir pbs (two_pays pir pbs cir cbs af) s h order in
    let fewer = fewer_green (Two pir pbs cir cbs af) s h in
    (all, omega (arith, all, fewer))
