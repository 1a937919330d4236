-- Children none of which ever opened late.
use Rattle.std.proofs.Common.{◌≡◌, ℕ, Bool, true, false, List, [], ◌∷◌, None, Some, length, refl, sym, ap, arith, ◌∙◌}
use Rattle.std.specs.Prelude.{Option, ◌==◌, ◌&&◌, slice_get, if◌then◌else◌}
use Rattle.std.specs.List.{find}
use Rattle.std.proofs.lemmas.Bool.Decides.{nat_tests}
use Rattle.ranking.specs.Order.{is_in, key_of}
use Rattle.ranking.specs.Ranking.{order_of}
use Rattle.ranking.proofs.Ranks.{same_test}
use Rattle.hfsc_model.specs.RealTime.{has_come}
use Rattle.hfsc_groups.specs.NeverLimited.{IsNeverLimited}
use Rattle.hfsc_groups.specs.Late.{HasLatePlace, IsDelayed, StaysNeverLimited, first_key, is_late, late_keys, late_order}
use Rattle.hfsc_groups.specs.Lists.{HasKeys}
use Rattle.hfsc_groups.specs.Group.{first_moment, first_open}
use Rattle.hfsc_groups.specs.declared.late.LimitedChildren.{LimitedChildren}
use Rattle.hfsc_groups.specs.declared.group.Group.{Group}

now_zero : (opens : Option ℕ) → is_late opens ≡ false → Some 0 ≡ opens
now_zero None e = absurd cc
now_zero (Some t) e = let zero : 0 ≡ t = grind (arith, nat_tests, e) in ap (λ n. Some n) zero

-- one more that opens at once leaves the list as it is
pub never_limited_stays : (l : LimitedChildren) (class : ℕ) (is : Bool) (opens : Option ℕ) → HasLatePlace l class → StaysNeverLimited opens l.ranking → IsDelayed class is opens l l
never_limited_stays l class is opens place s = record {
  places = λ c p. p;
  classes = λ c. absent c ∙ sym (ap (λ b. if class == c then is && b else is_in c (late_order l)) s.at_once ∙ ap (λ b. if class == c then is && false else b) (absent c) ∙ never is (class == c));
  keyed = s.never_limited.keys class place ∙ now_zero opens s.at_once;
  others = λ c n. refl;
}
  where
    absent : (c : ℕ) → is_in c (late_order l) ≡ false
    absent c = ap (λ (xs : List ℕ). is_in c xs) s.never_limited.none

    never : (a b : Bool) → (if b then a && false else false) ≡ false
    never true true = refl
    never false true = refl
    never a false = refl

-- the first opens at once
pub never_limited_first : (g : Group) → IsNeverLimited g.moments.ranking → first_moment g ≡ Some 0
never_limited_first g never_limited = go (length (late_order g.moments) == length (order_of g.times))
  where
    go : (b : Bool) → (if b then first_key (late_keys g.moments) (late_order g.moments) else Some 0) ≡ Some 0
    go true = ap (λ (xs : List ℕ). first_key (late_keys g.moments) xs) never_limited.none
    go false = refl

pub never_limited_open : (g : Group) (now : ℕ) → IsNeverLimited g.moments.ranking → HasKeys g.times g.moments → slice_get (order_of g.times) 0 ≡ first_open now g
never_limited_open g now never_limited has = go (order_of g.times) refl
  where
    zero_come : has_come (Some 0) now ≡ true
    zero_come = grind (arith, nat_tests)

    go : (xs : List ℕ) → order_of g.times ≡ xs → slice_get xs 0 ≡ find (λ c. has_come (key_of (late_keys g.moments) c) now) xs
    go [] e = refl
    go (x ∷ xs) e =
        let one : is_in x (x ∷ xs) ≡ true = rw (same_test x) refl in
        let there : is_in x (order_of g.times) ≡ true = ap (λ (ys : List ℕ). is_in x ys) e ∙ one in
        let come : has_come (key_of (late_keys g.moments) x) now ≡ true = ap (λ (k : Option ℕ). has_come k now) (never_limited.keys x (has x there)) ∙ zero_come in
        rw come refl
