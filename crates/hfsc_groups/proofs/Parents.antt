-- Which classes have a child.
use Rattle.std.proofs.Common.{◌≡◌, ◌≤◌, ◌<◌, ◌+◌, ℕ, zero, suc, Bool, true, false, Some, None, refl, arith, eqb}
use Rattle.std.specs.Prelude.{Option}
use Rattle.std.specs.Option.{option_eq}
use Rattle.std.specs.List.{list_any, range_with_len}
use Rattle.hfsc_model.specs.Tree.{is_number}

-- no class of a range passes
pub no_any : (f : ℕ → Bool) (a n : ℕ) → ((d : ℕ) → a ≤ d → d < a + n → f d ≡ false) → list_any f (range_with_len a n) ≡ false
no_any f a zero g = refl
no_any f a (suc n) g = rw (g a (omega arith) (omega arith)) (no_any f (a + 1) n (λ d l m. g d (omega (arith, l)) (omega (arith, m))))

pub same_number : (o : Option ℕ) (c : ℕ) → option_eq eqb o (Some c) ≡ true → is_number c o ≡ true
same_number None c e = absurd cc
same_number (Some p) c e = e
