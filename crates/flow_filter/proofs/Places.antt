-- The winner by its place among all, those that do not pass the test included.
use Rattle.std.proofs.Common.{◌≡◌, ◌⊎◌, inl, inr, ⊎_elim, ℕ, zero, suc, ◌<◌, ◌≤◌, ◌==◌, Bool, true, false, cond, not, IsTrue, List, [], ◌∷◌, Some, refl, ap, ◌∙◌, sym, subst, arith}
use Rattle.std.specs.Prelude.{All, find, filter, slice_get}
use Rattle.std.proofs.lemmas.Bool.{cases_lt}
use Rattle.std.proofs.lemmas.List.Elements.{All-nil, All-cons, All-head, All-tail}
use Rattle.flow_filter.proofs.Best.{IsFirstGreatest, itself, differs}

-- it stands at a place and passes, no other one that passes has a greater number, and none before it the same
pub record Leads {X : Type 0} (rule : X → ℕ) (test : X → Bool) (xs : List X) (place : ℕ) (b : X) : Type 0 where
  pub stands : slice_get xs place ≡ Some b
  pub passes : test b ≡ true
  pub greatest : (i : ℕ) (y : X) → slice_get xs i ≡ Some y → test y ≡ true → rule y ≤ rule b
  pub first : (i : ℕ) (y : X) → i < place → slice_get xs i ≡ Some y → test y ≡ true → rule y < rule b

behind : {X : Type 0} (rule : X → ℕ) (test : X → Bool) (x : X) (xs : List X) (place : ℕ) (b : X) → Leads rule test (x ∷ xs) (suc place) b → Leads rule test xs place b
behind rule test x xs place b h = record {
  stands = h.stands;
  passes = h.passes;
  greatest = λ i y at t. h.greatest (suc i) y at t;
  first = λ i y less at t. h.first (suc i) y (omega arith) at t;
}

keep_most : {X : Type 0} (P : X → Type 0) (t : Bool) (x : X) (ys : List X) → (t ≡ true → P x) → All P ys → All P (cond t (x ∷ ys) ys)
keep_most P true x ys here all = All-cons P x ys (here refl) all
keep_most P false x ys here all = all

most_of : {X : Type 0} (rule : X → ℕ) (test : X → Bool) (r : ℕ) (xs : List X) → ((i : ℕ) (y : X) → slice_get xs i ≡ Some y → test y ≡ true → rule y ≤ r)
    → All (λ x. rule x ≤ r) (filter test xs)
most_of rule test r [] h = All-nil (λ x. rule x ≤ r)
most_of rule test r (x ∷ xs) h =
    keep_most (λ x. rule x ≤ r) (test x) x (filter test xs) (h 0 x refl) (most_of rule test r xs (λ i. h (suc i)))

-- one that does not pass, or whose number is less, is passed over
pass_over : {X : Type 0} (rule : X → ℕ) (t : Bool) (n : ℕ) (x : X) (ys : List X) → (t ≡ true → rule x < n)
    → find (λ y. rule y == n) (cond t (x ∷ ys) ys) ≡ find (λ y. rule y == n) ys
pass_over rule true n x ys less = rw (differs (rule x) n (less refl)) refl
pass_over rule false n x ys less = refl

found_at : {X : Type 0} (rule : X → ℕ) (test : X → Bool) (xs : List X) (place : ℕ) (b : X) → Leads rule test xs place b → find (λ y. rule y == rule b) (filter test xs) ≡ Some b
found_at rule test [] place b h = let none = h.stands in cc
found_at rule test (x ∷ xs) zero b h =
    let same : x ≡ b = let here = h.stands in cc in
    let passes : test x ≡ true = ap test same ∙ h.passes in
    let equal : (rule x == rule b) ≡ true = ap (λ y. rule x == rule y) (sym same) ∙ itself (rule x) in
    rw (passes, equal) (ap (λ y. Some y) same)
found_at rule test (x ∷ xs) (suc place) b h =
    pass_over rule (test x) (rule b) x (filter test xs) (h.first 0 x (omega arith) refl) ∙ found_at rule test xs place b (behind rule test x xs place b h)

pub leads_is : {X : Type 0} (rule : X → ℕ) (test : X → Bool) (xs : List X) (place : ℕ) (b : X) → Leads rule test xs place b → IsFirstGreatest rule (filter test xs) b
leads_is rule test xs place b h = record { found = found_at rule test xs place b h; most = most_of rule test (rule b) xs h.greatest }

-- where none passes the filter keeps none
dropped : {X : Type 0} (t : Bool) (x : X) (ys : List X) → IsTrue (not t) → ys ≡ [] → cond t (x ∷ ys) ys ≡ []
dropped true x ys h e = cc
dropped false x ys h e = e

pub none_left : {X : Type 0} (test : X → Bool) (xs : List X) → All (λ x. IsTrue (not (test x))) xs → filter test xs ≡ []
none_left test [] h = refl
none_left test (x ∷ xs) h =
    let here : IsTrue (not (test x)) = All-head (λ x. IsTrue (not (test x))) x xs h in
    let rest : filter test xs ≡ [] = none_left test xs (All-tail (λ x. IsTrue (not (test x))) x xs h) in
    dropped (test x) x (filter test xs) here rest

-- one leads, or none passes
abbrev pub LeadsOrNone : {X : Type 0} → (X → ℕ) → (X → Bool) → List X → Type 0
LeadsOrNone {X} rule test xs = ((place : ℕ) × (b : X) × Leads rule test xs place b) ⊎ All (λ x. IsTrue (not (test x))) xs

-- an element is the first, or stands behind it
at_cases : {X : Type 0} (Q : X → Type 0) (x : X) (xs : List X) (i : ℕ) (y : X) → slice_get (x ∷ xs) i ≡ Some y → Q x
    → ((j : ℕ) → slice_get xs j ≡ Some y → Q y) → Q y
at_cases Q x xs zero y at here more = let same : x ≡ y = cc in subst Q same here
at_cases Q x xs (suc i) y at here more = more i at

-- the first leads where it passes and none behind has a greater number
at_first : {X : Type 0} (rule : X → ℕ) (test : X → Bool) (x : X) (xs : List X) → test x ≡ true
    → ((i : ℕ) (y : X) → slice_get xs i ≡ Some y → test y ≡ true → rule y ≤ rule x) → Leads rule test (x ∷ xs) 0 x
at_first rule test x xs passes least = record {
  stands = refl;
  passes = passes;
  greatest = λ i y at t. at_cases (λ z. rule z ≤ rule x) x xs i y at (omega arith) (λ j later. least j y later t);
  first = λ i y less at t. absurd (omega arith);
}

-- one that leads behind the first leads if that one does not pass or has a lesser number
first_less : {X : Type 0} (rule : X → ℕ) (test : X → Bool) (x : X) (xs : List X) (place : ℕ) (b : X) → Leads rule test xs place b
    → (test x ≡ true → rule x < rule b) → (i : ℕ) (y : X) → i < suc place → slice_get (x ∷ xs) i ≡ Some y → test y ≡ true → rule y < rule b
first_less rule test x xs place b h less zero y near at t = let same : x ≡ y = cc in let passes : test x ≡ true = ap test same ∙ t in
    let equal : rule x ≡ rule y = ap rule same in let lesser : rule x < rule b = less passes in omega arith
first_less rule test x xs place b h less (suc i) y near at t = h.first i y (omega arith) at t

further : {X : Type 0} (rule : X → ℕ) (test : X → Bool) (x : X) (xs : List X) (place : ℕ) (b : X) → Leads rule test xs place b
    → (test x ≡ true → rule x < rule b) → Leads rule test (x ∷ xs) (suc place) b
further rule test x xs place b h less = record {
  stands = h.stands;
  passes = h.passes;
  greatest = λ i y at t. at_cases (λ z. test z ≡ true → rule z ≤ rule b) x xs i y at (λ p. let lesser : rule x < rule b = less p in omega arith)
      (λ j later p. h.greatest j y later p) t;
  first = first_less rule test x xs place b h less;
}

-- none of which passes
none_at : {X : Type 0} (test : X → Bool) (xs : List X) (i : ℕ) (y : X) → All (λ x. IsTrue (not (test x))) xs → slice_get xs i ≡ Some y → test y ≡ true → ⊥
none_at test [] i y all at t = cc
none_at test (x ∷ xs) i y all at t =
    let fails : IsTrue (not (test y)) = at_cases (λ z. IsTrue (not (test z))) x xs i y at (All-head (λ x. IsTrue (not (test x))) x xs all)
    (λ j later. absurd (none_at test xs j y (All-tail (λ x. IsTrue (not (test x))) x xs all) later t)) in
    let wrong : not (test y) ≡ false = ap not t in
    cc

with_first : {X : Type 0} (rule : X → ℕ) (test : X → Bool) (x : X) (xs : List X) (t : Bool) → test x ≡ t → LeadsOrNone rule test xs → LeadsOrNone rule test (x ∷ xs)
with_first rule test x xs true e (inr none) = inl (0, x, at_first rule test x xs e (λ i y at passes. absurd (none_at test xs i y none at passes)))
with_first rule test x xs false e (inr none) = inr (All-cons (λ x. IsTrue (not (test x))) x xs (ap not e) none)
with_first rule test x xs true e (inl w) =
    ⊎_elim (λ less. inl (suc w.0, w.1, further rule test x xs w.0 w.1 w.2 (λ p. less)))
    (λ least. inl (0, x, at_first rule test x xs e (λ i y at passes. let le : rule y ≤ rule w.1 = w.2.greatest i y at passes in omega arith)))
    (cases_lt (rule x) (rule w.1))
with_first rule test x xs false e (inl w) =
    inl (suc w.0, w.1, further rule test x xs w.0 w.1 w.2 (λ p. let wrong : true ≡ false = sym p ∙ e in cc))

pub leads_or_none : {X : Type 0} (rule : X → ℕ) (test : X → Bool) (xs : List X) → LeadsOrNone rule test xs
leads_or_none rule test [] = inr (All-nil (λ x. IsTrue (not (test x))))
leads_or_none rule test (x ∷ xs) = with_first rule test x xs (test x) refl (leads_or_none rule test xs)
