-- A stamp by whole seconds and the part of one.
use Rattle.std.specs.Prelude.{◌≡◌, ◌≤◌, ◌<◌, ◌+◌, ◌-◌, ◌*◌, ◌/◌, ◌%◌, ◌^◌, ℕ, None, Some}
use Rattle.std.specs.declared.option.Option.{Option}
use Rattle.std.proofs.Common.{◌∙◌, refl, ap, arith, inl, inr}
use Rattle.std.proofs.Math.Nat.{add-mul-div_left, div-add-mod}
use Rattle.std.proofs.lemmas.Bool.{cases_lt}
use Rattle.pcapng_model.specs.Interface.{Offset, Later, Earlier, early, moved}
use Rattle.pcapng_files.specs.Views.{seconds_by}
use Rattle.pcapng_files.proofs.OptionLemmas.{is_less, not_less}

-- a count in nanoseconds
nanos_of : (count units : ℕ) → 1 ≤ units → count * 10 ^ 9 / units ≡ count / units * 10 ^ 9 + count % units * 10 ^ 9 / units
nanos_of count units some =
    let q = count / units in
    let r = count % units in
    let parts : count * 10 ^ 9 ≡ r * 10 ^ 9 + units * (q * 10 ^ 9) = omega (arith, div-add-mod count units) in
    ap (λ (n : ℕ). n / units) parts ∙ add-mul-div_left (r * 10 ^ 9) (q * 10 ^ 9) (omega (arith, some)) ∙ omega arith

small_part : (r units : ℕ) → r < units → r * 10 ^ 9 / units < 10 ^ 9
small_part r units h = grind (arith, h)

abbrev pub of_seconds : Option ℕ → ℕ → Option ℕ
of_seconds None part = None
of_seconds (Some seconds) part = Some (seconds * 10 ^ 9 + part)

later : (more q part n : ℕ) → n ≡ q * 10 ^ 9 + part → part < 10 ^ 9 → early (moved (Later more) n) ≡ of_seconds (seconds_by (Later more) q) part
later more q part n e small = elim (cases_lt (q + more) (2 ^ 32)) [
  | inl h ↦ rw (is_less (n + more * 10 ^ 9) (2 ^ 32 * 10 ^ 9) (omega (arith, e, h, small)), is_less (q + more) (2 ^ 32) h) (ap Some (omega (arith, e)))
  | inr h ↦ rw (not_less (n + more * 10 ^ 9) (2 ^ 32 * 10 ^ 9) (omega (arith, e, h)), not_less (q + more) (2 ^ 32) h) refl
]

earlier_late : (less q part n : ℕ) → n ≡ q * 10 ^ 9 + part → part < 10 ^ 9 → less ≤ q
    → early (moved (Earlier less) n) ≡ of_seconds (seconds_by (Earlier less) q) part
earlier_late less q part n e small le = elim (cases_lt (q - less) (2 ^ 32)) [
  | inl h ↦ rw (
    not_less n (less * 10 ^ 9) (omega (arith, e, le)),
    is_less (n - less * 10 ^ 9) (2 ^ 32 * 10 ^ 9) (omega (arith, e, h, small, le)),
    not_less q less le,
    is_less (q - less) (2 ^ 32) h,
  ) (ap Some (omega (arith, e, le)))
  | inr h ↦ rw (
    not_less n (less * 10 ^ 9) (omega (arith, e, le)),
    not_less (n - less * 10 ^ 9) (2 ^ 32 * 10 ^ 9) (omega (arith, e, h, le)),
    not_less q less le,
    not_less (q - less) (2 ^ 32) h,
  ) refl
]

stamp_of : (o : Offset) (q part n : ℕ) → n ≡ q * 10 ^ 9 + part → part < 10 ^ 9 → early (moved o n) ≡ of_seconds (seconds_by o q) part
stamp_of (Later more) q part n e small = later more q part n e small
stamp_of (Earlier less) q part n e small = elim (cases_lt q less) [
  | inl h ↦ rw (is_less n (less * 10 ^ 9) (omega (arith, e, h, small)), is_less q less h) refl
  | inr h ↦ earlier_late less q part n e small h
]

pub stamp_by : (o : Offset) (count units : ℕ) → 1 ≤ units
    → early (moved o (count * 10 ^ 9 / units)) ≡ of_seconds (seconds_by o (count / units)) (count % units * 10 ^ 9 / units)
stamp_by o count units some =
    stamp_of o (count / units) (count % units * 10 ^ 9 / units) (count * 10 ^ 9 / units) (nanos_of count units some)
    (small_part (count % units) units (omega (arith, some)))
