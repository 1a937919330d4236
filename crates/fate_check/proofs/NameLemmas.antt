-- The class of a name, and the name of a class.
use Rattle.std.proofs.Common.{◌≡◌, ℕ, ◌<◌, Bool, true, false, cond, List, [], ◌∷◌, Option, Some, None, suc, length, get_or, nat_lt, eqb, eq-eqb, refl, sym, ap, subst, ◌∙◌, arith, lt-ltb}
use Rattle.std.specs.Prelude.{IsSome, unwrap_or, option_map}
use Rattle.std.specs.List.{AllPairs, AllByRecursion, find, position_or_len}
use Rattle.std.specs.Str.{bytes_eq}
use Rattle.std.proofs.lemmas.Bool.{eqb-true, ltb-true}
use Rattle.std.proofs.lemmas.List.Elements.{recursion_from_All}
use Rattle.std.proofs.lemmas.List.Folds.{find_at}
use Rattle.std.proofs.lemmas.Option.{slice_get_within, slice_get-get_or}
use Rattle.std.proofs.lemmas.Slice.Eq.{bytes_eq-Decides}
use Rattle.play_text.specs.Names.{NameList, AreNames, HasClass, class_named, name_of}

-- a pair of this class, the first
abbrev pub pair_of : NameList → (class : ℕ) → Option (ℕ × List ℕ)
pair_of names class = find (λ pair. eqb pair.0 class) names

some_if : (b : Bool) (k : ℕ) → IsSome (cond b (Some k) None) → b ≡ true
some_if true k h = refl
some_if false k h = absurd (cc)

-- a class that is there has a pair
pub pair_there : (names : NameList) (class : ℕ) → HasClass names class → (pair : ℕ × List ℕ) × (pair_of names class ≡ Some pair)
pair_there names class h =
    let k : ℕ = position_or_len (λ pair. eqb pair.0 class) names in
    let inside : k < length names = ltb-true k (length names) (some_if (nat_lt k (length names)) k h) in
    (get_or names k (0, []), find_at (λ pair. eqb pair.0 class) names ∙ slice_get-get_or names k (0, []) inside)

-- and where it has a pair, it is there
pub class_there : (names : NameList) (class : ℕ) (pair : ℕ × List ℕ) → pair_of names class ≡ Some pair → HasClass names class
class_there names class pair e =
    let k : ℕ = position_or_len (λ pair. eqb pair.0 class) names in
    let inside : k < length names = slice_get_within names k pair (sym (find_at (λ pair. eqb pair.0 class) names) ∙ e) in
    let P : Bool → Type 0 = λ b. IsSome (cond b (Some k) None) in
    subst P (sym (lt-ltb k (length names) inside)) refl

same_name : (name : List ℕ) → bytes_eq name name ≡ true
same_name name = (bytes_eq-Decides name name).1 refl

-- the name of a pair is found
named_by : (x : ℕ × List ℕ) (names : NameList) (class : ℕ) (pair : ℕ × List ℕ) (here named : Bool) → eqb x.0 class ≡ here → bytes_eq x.1 pair.1 ≡ named
    → cond here (Some x) (pair_of names class) ≡ Some pair
    → (pair_of names class ≡ Some pair → (c : ℕ) × (class_named names pair.1 ≡ Some c))
    → (c : ℕ) × (option_map (λ p. p.0) (cond named (Some x) (find (λ p. bytes_eq p.1 pair.1) names)) ≡ Some c)
named_by x names class pair here true e f h more = (x.0, refl)
named_by x names class pair true false e f h more =
    let same : x ≡ pair = cc in
    let t : bytes_eq x.1 pair.1 ≡ true = ap (λ (p : ℕ × List ℕ). bytes_eq x.1 p.1) (sym same) ∙ same_name x.1 in
    absurd (cc)
named_by x names class pair false false e f h more = more h

pub named_there : (names : NameList) (class : ℕ) (pair : ℕ × List ℕ) → pair_of names class ≡ Some pair → (c : ℕ) × (class_named names pair.1 ≡ Some c)
named_there [] class pair e = absurd (cc)
named_there (x ∷ names) class pair e =
    named_by x names class pair (eqb x.0 class) (bytes_eq x.1 pair.1) refl refl e (named_there names class pair)

-- the class of a name has that name, where the classes rise
RisesAfter : ℕ → NameList → Type 0
RisesAfter class names = AllByRecursion (λ (q : ℕ × List ℕ). class < q.0) names

Rises : NameList → Type 0
Rises [] = Unit {0}
Rises (x ∷ names) = RisesAfter x.0 names × Rises names

rises : (names : NameList) → AllPairs (λ x y. x.0 < y.0) names → Rises names
unfolding Rises RisesAfter
rises [] h = tt
rises (x ∷ names) h = (
  recursion_from_All (λ (q : ℕ × List ℕ). x.0 < q.0) names (λ k d inside. h 0 (suc k) d (omega arith) (omega arith)),
  rises names (λ i j d less inside. h (suc i) (suc j) d (omega arith) (omega arith)),
)

above_case : (class : ℕ) (x : ℕ × List ℕ) (names : NameList) (name : List ℕ) (c : ℕ) (b : Bool) → class < x.0
    → option_map (λ p. p.0) (cond b (Some x) (find (λ p. bytes_eq p.1 name) names)) ≡ Some c → (class_named names name ≡ Some c → class < c) → class < c
above_case class x names name c true l e more = let same : x.0 ≡ c = cc in omega (arith, l, same)
above_case class x names name c false l e more = more e

above : (class : ℕ) (names : NameList) (name : List ℕ) (c : ℕ) → RisesAfter class names → class_named names name ≡ Some c → class < c
unfolding RisesAfter
above class [] name c h e = absurd (cc)
above class (x ∷ names) name c h e = above_case class x names name c (bytes_eq x.1 name) h.0 e (above class names name c h.1)

not_here : (m n : ℕ) → m < n → eqb m n ≡ false
not_here m n l = elim (eqb m n) as (λ b. eqb m n ≡ b → b ≡ false) [ true ↦ λ t. absurd (omega (arith, l, eqb-true m n t)) | false ↦ λ t. refl ] refl

-- the pair of the class that a name has
IsPair : NameList → (name : List ℕ) → (c : ℕ) → Type 0
IsPair names name c = (pair : ℕ × List ℕ) × (pair_of names c ≡ Some pair) × (pair.1 ≡ name)

pair_case : (x : ℕ × List ℕ) (names : NameList) (name : List ℕ) (c : ℕ) (b : Bool) → bytes_eq x.1 name ≡ b → RisesAfter x.0 names
    → option_map (λ p. p.0) (cond b (Some x) (find (λ p. bytes_eq p.1 name) names)) ≡ Some c → (class_named names name ≡ Some c → IsPair names name c)
    → IsPair (x ∷ names) name c
unfolding IsPair
pair_case x names name c true t r e more =
    let same : x.0 ≡ c = cc in
    let here : eqb x.0 c ≡ true = eq-eqb x.0 c same in
    (x, rw here refl, (bytes_eq-Decides x.1 name).0 t)
pair_case x names name c false t r e more =
    let l : x.0 < c = above x.0 names name c r e in
    let other : eqb x.0 c ≡ false = not_here x.0 c l in
    let found = more e in
    (found.0, rw other found.1, found.2)

pair_named : (names : NameList) (name : List ℕ) (c : ℕ) → Rises names → class_named names name ≡ Some c → IsPair names name c
unfolding Rises
pair_named [] name c r e = absurd (cc)
pair_named (x ∷ names) name c r e = pair_case x names name c (bytes_eq x.1 name) refl r.0 e (pair_named names name c r.1)

-- a class and its name
pub record IsNamed (names : NameList) (name : List ℕ) (c : ℕ) : Type 0 where
  pub class : HasClass names c
  pub is : name_of names c ≡ name

pub class_is : (names : NameList) (name : List ℕ) (c : ℕ) → AreNames names → class_named names name ≡ Some c → IsNamed names name c
unfolding IsPair
class_is names name c good e =
    let p = pair_named names name c (rises names good.rising) e in
    record {
      class = class_there names c p.0 p.1;
      is = ap (λ (o : Option (ℕ × List ℕ)). unwrap_or (option_map (λ q. q.1) o) []) p.1 ∙ p.2;
    }

pub name_found : (names : NameList) (c : ℕ) → HasClass names c → (d : ℕ) × (class_named names (name_of names c) ≡ Some d)
name_found names c h =
    let p = pair_there names c h in
    let f = named_there names c p.0 p.1 in
    let name : name_of names c ≡ p.0.1 = ap (λ (o : Option (ℕ × List ℕ)). unwrap_or (option_map (λ q. q.1) o) []) p.1 in
    (f.0, ap (class_named names) name ∙ f.1)

-- what holds of every name, and of none, holds of the name of a class
pub of_name : (P : List ℕ → Type 0) (names : NameList) (c : ℕ) → P [] → AllByRecursion (λ (q : ℕ × List ℕ). P q.1) names → P (name_of names c)
of_name P [] c none each = none
of_name P (x ∷ names) c none each =
    elim (eqb x.0 c) as (λ b. P (unwrap_or (option_map (λ q. q.1) (cond b (Some x) (pair_of names c))) [])) [ true ↦ each.0 | false ↦ of_name P names c none each.1 ]
