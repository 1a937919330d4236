-- Places of a list that are changed one after another.
use Rattle.std.proofs.Common.{◌≡◌, ◌<◌, ◌+◌, ℕ, zero, suc, Bool, true, false, List, [], ◌∷◌, ◌++◌, None, Some, length, drop, take, get_or, refl, ap, sym, subst, arith, ◌∙◌}
use Rattle.std.specs.Prelude.{Option, option_map, replicate, slice_get, slice_set, if◌then◌else◌, ◌==◌, ◌||◌}
use Rattle.std.proofs.lemmas.Bool.Decides.{nat_tests}
use Rattle.std.proofs.lemmas.List.{length-set}
use Rattle.std.proofs.lemmas.Option.{slice_get-get_or, slice_get_within}
use Rattle.std.proofs.Math.Seq.{drop-cons}
use Rattle.hfsc_groups.proofs.Places.{get_here, get_other}
use Rattle.share_gaps.specs.Rows.{is_in}
use Rattle.share_gaps.specs.Serve.{update_all, update_at}

-- the next place of a list of places
pub update_next : {X : Type 0} (f : ℕ → X → X) (is : List ℕ) (k : ℕ) (xs : List X) → k < length is
    → update_all f (drop k is) xs ≡ update_all f (drop (k + 1) is) (update_at f (get_or is k 0) xs)
update_next {X} f is k xs low =
    ap (λ (js : List ℕ). update_all f js xs) (drop-cons is k 0 low)
    ∙ ap (λ (n : ℕ). update_all f (drop n is) (update_at f (get_or is k 0) xs)) (let one : suc k ≡ k + 1 = omega arith in one)

pub update_here : {X : Type 0} (f : ℕ → X → X) (i : ℕ) (xs : List X) (x : X) → i < length xs → update_at f i xs ≡ slice_set xs i (f i (get_or xs i x))
update_here {X} f i xs x low =
    ap (λ (o : Option X). elim o [ None ↦ xs | Some y ↦ slice_set xs i (f i y) ]) (slice_get-get_or xs i x low)

-- no place comes twice
abbrev pub AreApart : List ℕ → Type 0
AreApart [] = Unit {0}
AreApart (i ∷ is) = (is_in i is ≡ false) × AreApart is

get_at : {X : Type 0} (f : ℕ → X → X) (i : ℕ) (xs : List X) → slice_get (update_at f i xs) i ≡ option_map (f i) (slice_get xs i)
get_at {X} f i xs = go (slice_get xs i) refl
  where
    go : (o : Option X) → slice_get xs i ≡ o → slice_get (elim o [ None ↦ xs | Some x ↦ slice_set xs i (f i x) ]) i ≡ option_map (f i) o
    go None e = e
    go (Some x) e = get_here xs i (f i x) (slice_get_within xs i x e)

get_off : {X : Type 0} (f : ℕ → X → X) (i c : ℕ) (xs : List X) → (c ≡ i → ⊥) → slice_get (update_at f i xs) c ≡ slice_get xs c
get_off {X} f i c xs n = go (slice_get xs i)
  where
    go : (o : Option X) → slice_get (elim o [ None ↦ xs | Some x ↦ slice_set xs i (f i x) ]) c ≡ slice_get xs c
    go None = refl
    go (Some x) = get_other xs i c (f i x) n

pub length_at : {X : Type 0} (f : ℕ → X → X) (i : ℕ) (xs : List X) → length (update_at f i xs) ≡ length xs
length_at {X} f i xs = go (slice_get xs i)
  where
    go : (o : Option X) → length {A = X} (elim o [ None ↦ xs | Some x ↦ slice_set xs i (f i x) ]) ≡ length xs
    go None = refl
    go (Some x) = length-set xs i (f i x)

pub length_all : {X : Type 0} (f : ℕ → X → X) (is : List ℕ) (xs : List X) → length (update_all f is xs) ≡ length xs
length_all {X} f [] xs = refl
length_all {X} f (i ∷ is) xs = length_all f is (update_at f i xs) ∙ length_at f i xs

-- what is at a place after them all
pub updated : {X : Type 0} (f : ℕ → X → X) (is : List ℕ) (xs : List X) (c : ℕ) → AreApart is
    → slice_get (update_all f is xs) c ≡ (if is_in c is then option_map (f c) (slice_get xs c) else slice_get xs c)
updated {X} f [] xs c apart = refl
updated {X} f (i ∷ is) xs c apart = updated f is (update_at f i xs) c apart.1 ∙ go (i == c) refl (is_in c is) refl
  where
    go : (b : Bool) → (i == c) ≡ b → (d : Bool) → is_in c is ≡ d
        → (if d then option_map (f c) (slice_get (update_at f i xs) c) else slice_get (update_at f i xs) c)
        ≡ (if b || d then option_map (f c) (slice_get xs c) else slice_get xs c)
    go true e true k = let same : i ≡ c = grind (arith, nat_tests, e) in let no : is_in c is ≡ false = ap (λ m. is_in m is) (sym same) ∙ apart.0 in absurd cc
    go true e false k =
        let same : c ≡ i = grind (arith, nat_tests, e) in
        ap (λ m. slice_get (update_at f i xs) m) same ∙ get_at f i xs ∙ ap (λ m. option_map (f m) (slice_get xs m)) (sym same)
    go false e true k = ap (option_map (f c)) (get_off f i c xs (λ s. grind (arith, nat_tests, e, s)))
    go false e false k = get_off f i c xs (λ s. grind (arith, nat_tests, e, s))

-- a list that was written back whole
pub taken : {X : Type 0} (n : ℕ) (xs ys : List X) → length xs ≡ n → take n (xs ++ ys) ≡ xs
taken {X} n xs ys e = ap (λ (m : ℕ). take m (xs ++ ys)) (sym e) ∙ all xs
  where
    all : (zs : List X) → take (length zs) (zs ++ ys) ≡ zs
    all [] = take_none ys
      where
        take_none : (ws : List X) → take 0 ws ≡ []
        take_none [] = refl
        take_none (w ∷ ws) = refl
    all (z ∷ zs) = ap (λ (ws : List X). z ∷ ws) (all zs)

pub length_if : {X : Type 0} (f : ℕ → X → X) (b : Bool) (is : List ℕ) (xs : List X) → length {A = X} (if b then update_all f is xs else xs) ≡ length xs
length_if {X} f true is xs = length_all f is xs
length_if {X} f false is xs = refl

pub length_push : {X : Type 0} (xs : List X) (x : X) → length (xs ++ x ∷ []) ≡ length xs + 1
length_push {X} [] x = omega arith
length_push {X} (y ∷ ys) x = let rest = length_push ys x in omega (arith, rest)

-- what holds of each element and of one more holds of all
pub push_each : {X : Type 0} (P : ℕ → X → Type 0) (xs : List X) (x : X) → ((c : ℕ) (y : X) → slice_get xs c ≡ Some y → P c y) → P (length xs) x
    → (c : ℕ) (y : X) → slice_get (xs ++ x ∷ []) c ≡ Some y → P c y
push_each {X} P [] x each last zero y e = let same : x ≡ y = cc in subst (P 0) same last
push_each {X} P [] x each last (suc c) y e = absurd (none c e)
  where
    none : (c : ℕ) → slice_get {X = X} [] c ≡ Some y → ⊥
    none zero f = cc
    none (suc c) f = cc
push_each {X} P (z ∷ zs) x each last zero y e = each 0 y e
push_each {X} P (z ∷ zs) x each last (suc c) y e = push_each (λ (j : ℕ) (w : X). P (suc j) w) zs x (λ j w f. each (suc j) w f) last c y e

pub get_same : {X : Type 0} (n c : ℕ) (x : X) → c < n → slice_get (replicate n x) c ≡ Some x
get_same {X} zero c x low = absurd (omega (arith, low))
get_same {X} (suc n) zero x low = refl
get_same {X} (suc n) (suc c) x low = get_same n c x (omega (arith, low))
