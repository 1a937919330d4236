use Rattle.std.proofs.Common.{◌≡◌, false, true, refl}
use Rattle.verify_laws.proofs.rows.worked_fates.Goals as goal

-- false is not true
no : false ≡ true → ⊥
no e = cc

pub returns : goal.returns
returns c = record {
  full = (refl, tt);
  early_without_red = λ x. no x.0;
  early_with_red = (refl, tt);
  forced_with_rio = (refl, tt);
  shared = (refl, tt);
  real_time = (refl, tt);
  real_time_without_curve = λ x. no x.0;
  real_time_by_zero_curve = λ x. no x.0;
  own_in_hfsc = λ x. no x.0;
  own = (refl, tt);
  borrowed = (refl, tt);
  borrowed_without_right = λ x. no x.0;
  shared_in_cbq = λ x. no x.0;
  marked = (λ e. refl, (tt, tt));
  marked_incapable = λ x. no (x.0 refl);
  marked_by_red = λ x. no (x.0 refl);
  marked_by_tail = λ x. no (x.0 refl);
  refuted = λ v w row test x. x.never_refuted row test refl;
}
