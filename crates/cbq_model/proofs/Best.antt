-- The first of some classes, by priority, rounds and ring.
use Rattle.std.proofs.Common.{◌≡◌, inl, inr, ℕ, Bool, true, false, List, [], ◌∷◌, None, Some, refl, subst, arith}
use Rattle.std.specs.declared.option.Option.{Option}
use Rattle.std.specs.Prelude.{if◌then◌else◌}
use Rattle.std.proofs.lemmas.Bool.Decides.{nat_tests}
use Rattle.altq_model.specs.Play.{IsOneOf}
use Rattle.cbq_model.specs.declared.CbqClass.{CbqClass}
use Rattle.cbq_model.specs.declared.Rank.{Rank}
use Rattle.cbq_model.specs.Choice.{Situation, best, goes_before, rank_in}

-- the order is transitive, and no class goes before itself
pub before_trans : (a b c : Rank) → goes_before a b ≡ true → goes_before b c ≡ true → goes_before a c ≡ true
before_trans a b c e f = grind (arith, nat_tests)

pub not_before_itself : (a : Rank) → goes_before a a ≡ false
not_before_itself a = grind (arith, nat_tests)

-- what does not go before one that does not go before another does not go before that either
pub not_before_trans : (a b c : Rank) → goes_before a b ≡ false → goes_before b c ≡ false → goes_before a c ≡ false
not_before_trans a b c e f = grind (arith, nat_tests)

-- nor does what another goes before
behind_by : (a b c : Rank) (t : Bool) → goes_before a c ≡ t → goes_before b a ≡ true → goes_before b c ≡ false → goes_before a c ≡ false
behind_by a b c true e f g = let h : goes_before b c ≡ true = before_trans b a c f e in absurd (cc)
behind_by a b c false e f g = e

-- the first of a class and the rest is one of them, and none of them goes before it
pub record Leads (cs : List CbqClass) (rate : ℕ) (s : Situation) (b : ℕ) (rest : List ℕ) (o : Option Rank) : Type 0 where
  pub one : ℕ
  pub there : IsOneOf one (b ∷ rest)
  pub is : o ≡ Some (rank_in cs rate s one)
  pub first : (d : ℕ) → IsOneOf d (b ∷ rest) → goes_before (rank_in cs rate s d) (rank_in cs rate s one) ≡ false

module _ (cs : List CbqClass) (rate : ℕ) (s : Situation) where
  abbrev r : ℕ → Rank
  r c = rank_in cs rate s c

  abbrev IsBehind : (one d : ℕ) → Type 0
  IsBehind one d = goes_before (r d) (r one) ≡ false

  -- c goes before b, and so leads what b led
  behind_new : (b c one d : ℕ) (rest : List ℕ) → goes_before (r c) (r b) ≡ true → ((d : ℕ) → IsOneOf d (c ∷ rest) → IsBehind one d)
      → IsOneOf d (b ∷ c ∷ rest)
      → IsBehind one d
  behind_new b c one d rest e f (inl same) = subst (IsBehind one) same (behind_by (r b) (r c) (r one) (goes_before (r b) (r one)) refl e (f c (inl refl)))
  behind_new b c one d rest e f (inr m) = f d m

  -- or it does not
  behind_old : (b c one d : ℕ) (rest : List ℕ) → goes_before (r c) (r b) ≡ false → ((d : ℕ) → IsOneOf d (b ∷ rest) → IsBehind one d)
      → IsOneOf d (b ∷ c ∷ rest)
      → IsBehind one d
  behind_old b c one d rest e f (inl same) = f d (inl same)
  behind_old b c one d rest e f (inr (inl same)) = subst (IsBehind one) same (not_before_trans (r c) (r b) (r one) e (f b (inl refl)))
  behind_old b c one d rest e f (inr (inr m)) = f d (inr m)

  with_one : (b c one : ℕ) (rest : List ℕ) → IsOneOf one (b ∷ rest) → IsOneOf one (b ∷ c ∷ rest)
  with_one b c one rest (inl e) = inl e
  with_one b c one rest (inr m) = inr (inr m)

  leads_by : (b c : ℕ) (rest : List ℕ) (t : Bool) → goes_before (r c) (r b) ≡ t
      → ((d : ℕ) → Leads cs rate s d rest (best cs rate s (Some (r d)) rest))
      → Leads cs rate s b (c ∷ rest) (best cs rate s (if t then Some (r c) else Some (r b)) rest)
  leads_by b c rest true e f =
      let x = f c in
      record { one = x.one; there = inr x.there; is = x.is; first = λ d m. behind_new b c x.one d rest e x.first m }
  leads_by b c rest false e f =
      let x = f b in
      record { one = x.one; there = with_one b c x.one rest x.there; is = x.is; first = λ d m. behind_old b c x.one d rest e x.first m }

  behind_self : (b d : ℕ) → IsOneOf d (b ∷ []) → IsBehind b d
  behind_self b d (inl same) = subst (IsBehind b) same (not_before_itself (r b))
  behind_self b d (inr m) = absurd m

  pub leads : (b : ℕ) (rest : List ℕ) → Leads cs rate s b rest (best cs rate s (Some (r b)) rest)
  leads b [] = record { one = b; there = inl refl; is = refl; first = λ d m. behind_self b d m }
  leads b (c ∷ rest) = leads_by b c rest (goes_before (r c) (r b)) refl (λ d. leads d rest)

-- the first of some classes is one of them, and none of them goes before it
pub record IsBest (cs : List CbqClass) (rate : ℕ) (s : Situation) (classes : List ℕ) : Type 0 where
  pub one : ℕ
  pub there : IsOneOf one classes
  pub is : best cs rate s None classes ≡ Some (rank_in cs rate s one)
  pub first : (d : ℕ) → IsOneOf d classes → goes_before (rank_in cs rate s d) (rank_in cs rate s one) ≡ false

pub best_of : (cs : List CbqClass) (rate : ℕ) (s : Situation) (c : ℕ) (classes : List ℕ) → IsOneOf c classes → IsBest cs rate s classes
best_of cs rate s c [] m = absurd m
best_of cs rate s c (d ∷ rest) m = let x = leads cs rate s d rest in record { one = x.one; there = x.there; is = x.is; first = x.first }
