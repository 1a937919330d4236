-- What a moment and a packet change in the buckets.
use Rattle.std.proofs.Common.{◌≡◌, ◌≤◌, ◌+◌, ◌-◌, ◌*◌, ℕ, Bool, true, false, refl, ap, arith}
use Rattle.std.specs.Prelude.{nat_le, if◌then◌else◌}
use Rattle.std.proofs.lemmas.Bool.Decides.{nat_tests}
use Rattle.play_base.specs.Units.{units}
use Rattle.traffic_meter.specs.declared.rule.MeterRule.{MeterRule}
use Rattle.traffic_meter.specs.declared.rule.MeterRule.TheVariants.{Single, Two}
use Rattle.traffic_meter.specs.declared.rule.Colour.{Colour}
use Rattle.traffic_meter.specs.declared.rule.Colour.TheVariants.{Green, Yellow, Red}
use Rattle.traffic_meter.specs.Buckets.{Buckets, committed_rate, committed_burst, filled, judged, paid}
use Rattle.traffic_meter.specs.Conforming.{is_green, is_passed}

-- what a rate gives in two times that follow one another
pub given_on : (rate a b c : ℕ) → a ≤ b → b ≤ c → rate * (c - b) + rate * (b - a) ≡ rate * (c - a)
given_on rate a b c h k =
    let both : (c - b) + (b - a) ≡ c - a = omega arith in
    let product = ap (λ n. rate * n) both in
    omega arith

-- the colour by what the committed bucket and the other one are enough for
abbrev pub single_colour : (committed other : Bool) → Colour
single_colour c o = if c then Green else if o then Yellow else Red

abbrev pub two_colour : (committed other : Bool) → Colour
two_colour c o = if o then if c then Green else Yellow else Red

-- a packet of a colour that meets a test pays from a measure of the buckets
abbrev Paying : (Colour → Bool) → MeterRule → (Buckets → ℕ) → Buckets → (U : ℕ) → Colour → Type 0
Paying test rule held b U k = (if test k then U else 0) + held (paid rule k b U) ≤ held b

-- a measure that is at most a cap, and gains no more than a rate gives
pub record Pays (test : Colour → Bool) (rule : MeterRule) (held : Buckets → ℕ) (rate cap : ℕ) : Type 0 where
  pub capped : (b : Buckets) (t : ℕ) → held (filled rule b t) ≤ cap
  pub gains : (b : Buckets) (t : ℕ) → held (filled rule b t) ≤ held b + rate * (t - b.moment)
  pub pays : (b : Buckets) (U : ℕ) → Paying test rule held b U (judged rule b U)

single_green : (cir cbs ebs af : ℕ) (b : Buckets) (U : ℕ) (c o : Bool) → nat_le U b.committed ≡ c
    → Paying is_green (Single cir cbs ebs af) (λ x. x.committed) b U (single_colour c o)
single_green cir cbs ebs af b U true o e = grind (arith, nat_tests)
single_green cir cbs ebs af b U false true e = omega arith
single_green cir cbs ebs af b U false false e = omega arith

two_green : (pir pbs cir cbs af : ℕ) (b : Buckets) (U : ℕ) (c o : Bool) → nat_le U b.committed ≡ c
    → Paying is_green (Two pir pbs cir cbs af) (λ x. x.committed) b U (two_colour c o)
two_green pir pbs cir cbs af b U true true e = grind (arith, nat_tests)
two_green pir pbs cir cbs af b U false true e = omega arith
two_green pir pbs cir cbs af b U c false e = omega arith

single_passed : (cir cbs ebs af : ℕ) (b : Buckets) (U : ℕ) (c o : Bool) → nat_le U b.committed ≡ c → nat_le U b.other ≡ o
    → Paying is_passed (Single cir cbs ebs af) (λ x. x.committed + x.other) b U (single_colour c o)
single_passed cir cbs ebs af b U true o e f = grind (arith, nat_tests)
single_passed cir cbs ebs af b U false true e f = grind (arith, nat_tests)
single_passed cir cbs ebs af b U false false e f = omega arith

two_passed : (pir pbs cir cbs af : ℕ) (b : Buckets) (U : ℕ) (c o : Bool) → nat_le U b.other ≡ o
    → Paying is_passed (Two pir pbs cir cbs af) (λ x. x.other) b U (two_colour c o)
two_passed pir pbs cir cbs af b U true true e = grind (arith, nat_tests)
two_passed pir pbs cir cbs af b U false true e = grind (arith, nat_tests)
two_passed pir pbs cir cbs af b U c false e = omega arith

pub green_pays : (rule : MeterRule) → Pays is_green rule (λ x. x.committed) (committed_rate rule) (units (committed_burst rule))
green_pays (Single cir cbs ebs af) = record {
  capped = λ b t. omega arith;
  gains = λ b t. omega arith;
  pays = λ b U. single_green cir cbs ebs af b U (nat_le U b.committed) (nat_le U b.other) refl;
}
green_pays (Two pir pbs cir cbs af) = record {
  capped = λ b t. omega arith;
  gains = λ b t. omega arith;
  pays = λ b U. two_green pir pbs cir cbs af b U (nat_le U b.committed) (nat_le U b.other) refl;
}

pub single_pays : (cir cbs ebs af : ℕ)
    → Pays is_passed (Single cir cbs ebs af) (λ x. x.committed + x.other) cir (units (cbs + ebs))
single_pays cir cbs ebs af = record {
  capped = λ b t. omega arith;
  gains = λ b t. omega arith;
  pays = λ b U. single_passed cir cbs ebs af b U (nat_le U b.committed) (nat_le U b.other) refl refl;
}

pub two_pays : (pir pbs cir cbs af : ℕ) → Pays is_passed (Two pir pbs cir cbs af) (λ x. x.other) pir (units pbs)
two_pays pir pbs cir cbs af = record {
  capped = λ b t. omega arith;
  gains = λ b t. omega arith;
  pays = λ b U. two_passed pir pbs cir cbs af b U (nat_le U b.committed) (nat_le U b.other) refl;
}
