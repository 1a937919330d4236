-- The names of the first classes that hold packets, and what `Names::add` asks of the next one.
use Rattle.std.proofs.Common.{◌≡◌, ◌≢◌, ◌≤◌, ◌<◌, ◌+◌, ◌&&◌, ◌||◌, ◌⊎◌, inl, inr, ◌∙◌, ℕ, zero, suc, Bool, true, false, not, cond, List, [], ◌∷◌, ◌++◌, None, Some, length, map, get_or, take, nat_le, nat_lt, position, refl, ap, sym, subst, arith}
use Rattle.std.specs.Prelude.{All, IsTrue, is_some, slice_get, ◌==◌}
use Rattle.std.specs.List.{enumerate_from, filter, list_all, position_or_len}
use Rattle.std.proofs.lemmas.Bool.{and_parts, cases_lt}
use Rattle.std.proofs.lemmas.Bool.Decides.{nat_tests}
use Rattle.std.proofs.lemmas.List.{append-nil}
use Rattle.std.proofs.lemmas.List.Elements.{All-cons, All-nil, All-weaker}
use Rattle.std.proofs.lemmas.Option.{slice_get_read}
use Rattle.conf_tree.specs.declared.class.Class.{Class}
use Rattle.conf_tree.specs.declared.interface.Interface.{Interface}
use Rattle.conf_tree.specs.declared.interface.Kind.{Kind}
use Rattle.conf_tree.specs.declared.interface.Kind.TheVariants.{Hfsc, Cbq}
use Rattle.conf_tree.specs.Family.{is_leaf, is_queue_class}
use Rattle.conf_laws.specs.Fit.{IsInterface}
use Rattle.conf_laws.proofs.ListPlaces.{element}
use Rattle.play_text.specs.Names.{NameList, HasClass}
use Rattle.interface_policy.specs.Policy.{queue_names}

-- a numbered class with its name
abbrev named : ℕ × Class → ℕ × List ℕ
named numbered = (numbered.0, numbered.1.name)

-- the classes from one on that pass a test, and their names
abbrev passing : (ℕ → Bool) → (first : ℕ) → List Class → List (ℕ × Class)
passing test first classes = filter (λ numbered. test numbered.0) (enumerate_from first classes)

abbrev pub names_in : (ℕ → Bool) → (first : ℕ) → List Class → NameList
names_in test first classes = map named (passing test first classes)

abbrev with_one : Bool → (n : ℕ) → Class → List (ℕ × Class) → NameList
with_one b n c rest = map named (cond b ((n, c) ∷ rest) rest)

abbrev one_name : Bool → (n : ℕ) → Class → NameList
one_name b n c = cond b ((n, c.name) ∷ []) []

-- those of the first classes of an interface
abbrev pub first_names : Interface → ℕ → NameList
first_names i n = names_in (is_queue_class i.kind i.classes) 0 (take n i.classes)

all_names : (test : ℕ → Bool) (P : ℕ × List ℕ → Type 0) (first : ℕ) (classes : List Class)
    → ((k : ℕ) (c : Class) → slice_get classes k ≡ Some c → P (first + k, c.name)) → All P (names_in test first classes)
all_names test P first [] each = All-nil P
all_names test P first (c ∷ classes) each =
    go (test first) (subst (λ n. P (n, c.name)) (omega arith) (each 0 c refl))
    (all_names test P (first + 1) classes (λ k d e. subst (λ n. P (n, d.name)) (omega arith) (each (suc k) d e)))
  where
    go : (b : Bool) → P (first, c.name) → All P (names_in test (first + 1) classes) → All P (with_one b first c (passing test (first + 1) classes))
    go true here rest = All-cons P (first, c.name) (names_in test (first + 1) classes) here rest
    go false here rest = rest

count_names : (test : ℕ → Bool) (first : ℕ) (classes : List Class) → length (names_in test first classes) ≤ length classes
count_names test first [] = omega arith
count_names test first (c ∷ classes) = go (test first) (count_names test (first + 1) classes)
  where
    go : (b : Bool) → length (names_in test (first + 1) classes) ≤ length classes
        → length (with_one b first c (passing test (first + 1) classes)) ≤ suc (length classes)
    go true rest = omega (arith, rest)
    go false rest = omega (arith, rest)

take_at : (n : ℕ) (classes : List Class) (k : ℕ) (c : Class) → slice_get (take n classes) k ≡ Some c → (k < n) × (slice_get classes k ≡ Some c)
take_at zero classes k c e = absurd cc
take_at (suc n) [] k c e = absurd cc
take_at (suc n) (d ∷ classes) zero c e = (omega arith, e)
take_at (suc n) (d ∷ classes) (suc k) c e = let rest = take_at n classes k c e in (omega (arith, rest.0), rest.1)

count_take : (n : ℕ) (classes : List Class) → length (take n classes) ≤ n
count_take zero classes = omega arith
count_take (suc n) [] = omega arith
count_take (suc n) (c ∷ classes) = let rest = count_take n classes in omega (arith, rest)

-- one class more
one_more : (test : ℕ → Bool) (first : ℕ) (classes : List Class) (n : ℕ) (c : Class) → slice_get classes n ≡ Some c
    → names_in test first (take (suc n) classes) ≡ names_in test first (take n classes) ++ one_name (test (first + n)) (first + n) c
one_more test first [] n c e = absurd cc
one_more test first (d ∷ classes) zero c e =
    let same : d ≡ c = cc in
    let at : first ≡ first + 0 = omega arith in
    subst (λ m. with_one (test first) first d [] ≡ one_name (test m) m c) at
    (subst (λ (x : Class). with_one (test first) first d [] ≡ one_name (test first) first x) same (go (test first)))
  where
    go : (b : Bool) → with_one b first d [] ≡ one_name b first d
    go true = refl
    go false = refl
one_more test first (d ∷ classes) (suc n) c e =
    let at : first + 1 + n ≡ first + suc n = omega arith in
    go (test first) (subst (λ m. names_in test (first + 1) (take (suc n) classes) ≡ names_in test (first + 1) (take n classes) ++ one_name (test m) m c) at
    (one_more test (first + 1) classes n c e))
  where
    go : (b : Bool)
        → names_in test (first + 1) (take (suc n) classes) ≡ names_in test (first + 1) (take n classes) ++ one_name (test (first + suc n)) (first + suc n) c
        → with_one b first d (passing test (first + 1) (take (suc n) classes))
        ≡ with_one b first d (passing test (first + 1) (take n classes)) ++ one_name (test (first + suc n)) (first + suc n) c
    go true rest = ap (λ (xs : NameList). (first, d.name) ∷ xs) rest
    go false rest = rest

pub class_at : (i : Interface) (classes : List Class) (n : ℕ) (c : Class) → classes ≡ i.classes → n < length classes → c ≡ get_or classes n c
    → slice_get i.classes n ≡ Some c
class_at i classes n c same low read = subst (λ (xs : List Class). slice_get xs n ≡ Some c) same (slice_get_read classes (length classes) n c refl low read)

pub next_names : (i : Interface) (n : ℕ) (c : Class) (b : Bool) → slice_get i.classes n ≡ Some c → b ≡ is_queue_class i.kind i.classes n
    → first_names i (n + 1) ≡ first_names i n ++ one_name b n c
next_names i n c b e f =
    let test = is_queue_class i.kind i.classes in
    let at : suc n ≡ n + 1 = omega arith in
    let here : 0 + n ≡ n = omega arith in
    let more = subst (λ m. first_names i (suc n) ≡ first_names i n ++ one_name (test m) m c) here (one_more test 0 i.classes n c e) in
    subst (λ (x : Bool). first_names i (n + 1) ≡ first_names i n ++ one_name x n c) (sym f)
    (subst (λ m. first_names i m ≡ first_names i n ++ one_name (test n) n c) at more)

pub no_name : (i : Interface) (n : ℕ) → n < length i.classes → false ≡ is_queue_class i.kind i.classes n → first_names i (n + 1) ≡ first_names i n
no_name i n low f = let c = element i.classes n low in next_names i n c.0 false c.1 f ∙ append-nil (first_names i n)

-- what stands among the first names: earlier classes with their own names
record IsEarlier (i : Interface) (n : ℕ) (pair : ℕ × List ℕ) : Type 0 where
  before : pair.0 < n
  class : Class
  at : slice_get i.classes pair.0 ≡ Some class
  name : class.name ≡ pair.1

earlier : (i : Interface) (n : ℕ) → All (IsEarlier i n) (first_names i n)
earlier i n = all_names (is_queue_class i.kind i.classes) (IsEarlier i n) 0 (take n i.classes) (λ k c e.
    let at = take_at n i.classes k c e in
    record { before = omega (arith, at.0); class = c; at = subst (λ m. slice_get i.classes m ≡ Some c) (omega arith) at.1; name = refl })

pub are_before : (i : Interface) (n : ℕ) → All (λ pair. pair.0 < n) (first_names i n)
are_before i n = All-weaker (IsEarlier i n) (λ pair. pair.0 < n) (λ pair is. is.before) (first_names i n) (earlier i n)

pub are_others : (i : Interface) (n : ℕ) (c : Class) → IsInterface i → slice_get i.classes n ≡ Some c → All (λ pair. pair.1 ≢ c.name) (first_names i n)
are_others i n c h e = All-weaker (IsEarlier i n) (λ pair. pair.1 ≢ c.name)
    (λ pair is same. let one = h.tree.names pair.0 n is.class c is.at e (is.name ∙ same) in let before = is.before in omega (arith, one, before))
    (first_names i n) (earlier i n)

pub are_few : (i : Interface) (n : ℕ) → length (first_names i n) ≤ n
are_few i n =
    let named = count_names (is_queue_class i.kind i.classes) 0 (take n i.classes) in
    let taken = count_take n i.classes in
    omega (arith, named, taken)

-- a class that passes has a name
abbrev is_of : (c : ℕ) → ℕ × List ℕ → Bool
is_of c pair = pair.0 == c

comes_later : (p : Bool) (n m : ℕ) → n < m → cond (not p) (1 + n) 0 < suc m
comes_later true n m l = omega arith
comes_later false n m l = omega (arith, l)

comes_first : (p : Bool) (n m : ℕ) → p ≡ true → cond (not p) (1 + n) 0 < suc m
comes_first true n m e = omega arith
comes_first false n m e = absurd cc

abbrev HasPlace : (c : ℕ) → NameList → Type 0
HasPlace c names = position_or_len (is_of c) names < length names

has_place : (test : ℕ → Bool) (first : ℕ) (classes : List Class) (c : ℕ) → test c ≡ true → first ≤ c → c < first + length classes
    → HasPlace c (names_in test first classes)
has_place test first [] c t low high = absurd (omega (arith, low, high))
has_place test first (d ∷ classes) c t low high = go (cases_lt first c) (λ l. has_place test (first + 1) classes c t (omega (arith, l)) (omega (arith, high)))
  where
    later : (b : Bool) → HasPlace c (names_in test (first + 1) classes) → HasPlace c (with_one b first d (passing test (first + 1) classes))
    later true rest = comes_later (first == c) (position_or_len (is_of c) (names_in test (first + 1) classes)) (length (names_in test (first + 1) classes)) rest
    later false rest = rest

    here : (b : Bool) → b ≡ true → first ≡ c → HasPlace c (with_one b first d (passing test (first + 1) classes))
    here true e same =
        comes_first (first == c) (position_or_len (is_of c) (names_in test (first + 1) classes)) (length (names_in test (first + 1) classes)) (grind (arith, nat_tests))
    here false e same = absurd cc

    go : (first < c) ⊎ (c ≤ first) → (first < c → HasPlace c (names_in test (first + 1) classes))
        → HasPlace c (with_one (test first) first d (passing test (first + 1) classes))
    go (inl l) rest = later (test first) (rest l)
    go (inr l) rest = let same : first ≡ c = omega (arith, l, low) in here (test first) (ap test same ∙ t) same

there : (n count : ℕ) → n < count → is_some (cond (nat_lt n count) (Some n) None) ≡ true
there n count l = grind (arith, nat_tests)

pub inside : (kind : Kind) (classes : List Class) (c : ℕ) → is_queue_class kind classes c ≡ true → c < length classes
inside Hfsc classes c h = let parts = and_parts (nat_lt c (length classes)) (is_leaf classes c) h in let low = parts.0 in grind (arith, nat_tests)
inside Cbq classes c h = grind (arith, nat_tests)

pub class_named : (i : Interface) (c : ℕ) → is_queue_class i.kind i.classes c ≡ true → HasClass (queue_names i) c
class_named i c h =
    let low = inside i.kind i.classes c h in
    there (position_or_len (is_of c) (queue_names i)) (length (queue_names i))
    (has_place (is_queue_class i.kind i.classes) 0 i.classes c h (omega arith) (omega (arith, low)))
