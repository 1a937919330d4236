-- The first of the moments of some classes.
use Rattle.std.proofs.Common.{◌≡◌, ◌≤◌, ◌<◌, ◌+◌, ◌∙◌, inl, inr, ℕ, suc, List, [], ◌∷◌, None, Some, length, min, refl, ap, arith}
use Rattle.std.specs.declared.option.Option.{Option}
use Rattle.std.proofs.lemmas.Bool.{cases_lt}
use Rattle.altq_model.specs.Play.{lesser}
use Rattle.cbq_model.specs.declared.CbqClass.{CbqClass}
use Rattle.cbq_model.specs.Tree.{each_from}
use Rattle.cbq_rounds.specs.Due.{first_of}
use Rattle.cbq_rounds.specs.Looked.{IsNoLater, IsOfOne}

-- it is that of one of them
from_rest : (f : ℕ → Option ℕ) (b n u : ℕ) → IsOfOne f (b + 1) n u → IsOfOne f b (suc n) u
from_rest f b n u x = record { class = x.class; low = omega (arith, x.low); high = omega (arith, x.high); is = x.is }

from_here : (f : ℕ → Option ℕ) (b n u v : ℕ) → f b ≡ Some v → v ≡ u → IsOfOne f b (suc n) u
from_here f b n u v e same = record { class = b; low = omega arith; high = omega arith; is = e ∙ ap (λ (m : ℕ). Some m) same }

of_two : (f : ℕ → Option ℕ) (b n u v w : ℕ) → f b ≡ Some v → ((x : ℕ) → w ≡ x → IsOfOne f (b + 1) n x) → min v w ≡ u → IsOfOne f b (suc n) u
of_two f b n u v w e rest m = elim (cases_lt w v) [
  | inl l ↦ from_rest f b n u (rest u (omega (arith, m, l)))
  | inr l ↦ from_here f b n u v e (omega (arith, m, l))
]

one_case : (f : ℕ → Option ℕ) (b n u : ℕ) (o p : Option ℕ) → f b ≡ o → lesser o p ≡ Some u → ((v : ℕ) → p ≡ Some v → IsOfOne f (b + 1) n v)
    → IsOfOne f b (suc n) u
one_case f b n u None p e m rest = from_rest f b n u (rest u m)
one_case f b n u (Some v) None e m rest = let same : v ≡ u = cc in from_here f b n u v e same
one_case f b n u (Some v) (Some w) e m rest =
    let same : min v w ≡ u = cc in
    of_two f b n u v w e (λ x k. rest x (ap (λ (y : ℕ). Some y) k)) same

pub of_one : (f : ℕ → Option ℕ) (b : ℕ) (cs : List CbqClass) (u : ℕ) → first_of (each_from (λ c k. f c) b cs) ≡ Some u → IsOfOne f b (length cs) u
of_one f b [] u e = absurd (cc)
of_one f b (k ∷ ks) u e =
    one_case f b (length ks) u (f b) (first_of (each_from (λ c x. f c) (b + 1) ks)) refl e (λ v m. of_one f (b + 1) ks v m)

-- and no later than any
here_case : (o p : Option ℕ) (v : ℕ) → o ≡ Some v → IsNoLater (lesser o p) v
here_case None p v e = absurd (cc)
here_case (Some w) None v e = let same : w ≡ v = cc in record { first = w; is = refl; most = omega (arith, same) }
here_case (Some w) (Some x) v e = let same : w ≡ v = cc in record { first = min w x; is = refl; most = omega (arith, same) }

rest_case : (o p : Option ℕ) (v : ℕ) → IsNoLater p v → IsNoLater (lesser o p) v
rest_case None p v x = x
rest_case (Some w) None v x = let e = x.is in absurd (cc)
rest_case (Some w) (Some y) v x = let e = x.is in let same : y ≡ x.first = cc in record { first = min w y; is = refl; most = omega (arith, same, x.most) }

pub no_later : (f : ℕ → Option ℕ) (b c : ℕ) (cs : List CbqClass) (v : ℕ) → b ≤ c → c < b + length cs → f c ≡ Some v
    → IsNoLater (first_of (each_from (λ d k. f d) b cs)) v
no_later f b c [] v l h e = absurd (omega arith)
no_later f b c (k ∷ ks) v l h e = elim (cases_lt b c) [
  | inl m ↦ rest_case (f b) (first_of (each_from (λ d x. f d) (b + 1) ks)) v (no_later f (b + 1) c ks v (omega (arith, m)) (omega (arith, h)) e)
  | inr m ↦
      let same : b ≡ c = omega (arith, l, m) in
      here_case (f b) (first_of (each_from (λ d x. f d) (b + 1) ks)) v (ap f same ∙ e)
]

-- classes that give the same moments have the same first one
pub first_same : (f g : ℕ → Option ℕ) (b : ℕ) (cs : List CbqClass) → ((c : ℕ) → b ≤ c → c < b + length cs → f c ≡ g c)
    → first_of (each_from (λ c k. f c) b cs) ≡ first_of (each_from (λ c k. g c) b cs)
first_same f g b [] e = refl
first_same f g b (k ∷ ks) e =
    ap (λ (o : Option ℕ). lesser o (first_of (each_from (λ c x. f c) (b + 1) ks))) (e b (omega arith) (omega arith))
    ∙ ap (lesser (g b)) (first_same f g (b + 1) ks (λ c l h. e c (omega (arith, l)) (omega (arith, h))))

none_by : (f : ℕ → Option ℕ) (b c : ℕ) (cs : List CbqClass) (o : Option ℕ) → f c ≡ o → first_of (each_from (λ d k. f d) b cs) ≡ None → b ≤ c
    → c < b + length cs
    → f c ≡ None
none_by f b c cs None e n l h = e
none_by f b c cs (Some v) e n l h = let x = no_later f b c cs v l h e in let y = x.is in absurd (cc)

-- there is none exactly where no class has one
pub first_none : (f : ℕ → Option ℕ) (b c : ℕ) (cs : List CbqClass) → first_of (each_from (λ d k. f d) b cs) ≡ None → b ≤ c → c < b + length cs
    → f c ≡ None
first_none f b c cs e l h = none_by f b c cs (f c) refl e l h

pub all_none : (f : ℕ → Option ℕ) (b : ℕ) (cs : List CbqClass) → ((c : ℕ) → f c ≡ None) → first_of (each_from (λ d k. f d) b cs) ≡ None
all_none f b [] e = refl
all_none f b (k ∷ ks) e = ap (λ (o : Option ℕ). lesser o (first_of (each_from (λ c x. f c) (b + 1) ks))) (e b) ∙ all_none f (b + 1) ks e
