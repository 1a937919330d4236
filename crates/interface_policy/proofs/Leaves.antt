-- The classes of an interface whose play is that of one queue: its one leaf, and what each class has.
use Rattle.std.proofs.Common.{append-nil, add-one, inl, ◌≡◌, ◌≤◌, ◌<◌, ◌+◌, ◌++◌, ◌∙◌, ℕ, zero, suc, Bool, true, false, cond, List, [], ◌∷◌, Option, None, Some, length, refl, ap, sym, subst, arith, length-append}
use Rattle.std.specs.Prelude.{All, IfSome, not, nat_lt, ◌&&◌}
use Rattle.std.specs.List.{filter, list_any, range_with_len}
use Rattle.std.proofs.lemmas.Bool.Decides.{nat_tests}
use Rattle.std.proofs.lemmas.List.{length-map}
use Rattle.std.proofs.lemmas.List.Elements.{All-nil, All-cons, All-head, All-tail}
use Rattle.conf_tree.specs.declared.class.Class.{Class}
use Rattle.conf_tree.specs.Family.{is_child, is_leaf, names_parent}
use Rattle.hfsc_model.specs.declared.HfscClass.{HfscClass}
use Rattle.hfsc_model.specs.RealTime.{curve_of}
use Rattle.hfsc_model.specs.Tree.{is_child as is_hfsc_child, is_leaf as is_hfsc_leaf, is_number, is_parent, reals}
use Rattle.hfsc_laws.proofs.Tree.{same_truth, is_any}
use Rattle.altq_model.specs.Play.{IsOneOf}
use Rattle.hfsc_order.specs.Queue.{IsOneQueue}
use Rattle.hfsc_policy.proofs.Lawful.{one_leaf}
use Rattle.hfsc_policy.proofs.Offers.{leaf_below}
use Rattle.hfsc_policy.specs.Classes.{HaveNoLimits, leaves}
use Rattle.interface_policy.specs.Classes.{hfsc_class, hfsc_classes}
use Rattle.interface_policy.specs.Sole.{OnlyShares}
use Rattle.interface_policy.proofs.Held.{parent_there}

-- what each class has, and what HFSC sees of them
pub no_limits : (classes : List Class) → All OnlyShares classes → HaveNoLimits (hfsc_classes classes)
no_limits [] a c = refl
no_limits (x ∷ xs) a zero = (All-head OnlyShares x xs a).0
no_limits (x ∷ xs) a (suc c) = no_limits xs (All-tail OnlyShares x xs a) c

pub no_curves : (classes : List Class) → All OnlyShares classes → (c : ℕ) → curve_of (reals (hfsc_classes classes)) c ≡ None
no_curves [] a c = refl
no_curves (x ∷ xs) a zero = (All-head OnlyShares x xs a).1
no_curves (x ∷ xs) a (suc c) = no_curves xs (All-tail OnlyShares x xs a) c

pub only_share : (classes : List Class) → HaveNoLimits (hfsc_classes classes) → ((c : ℕ) → curve_of (reals (hfsc_classes classes)) c ≡ None) → All OnlyShares classes
only_share [] limits curves = All-nil OnlyShares
only_share (x ∷ xs) limits curves =
    All-cons OnlyShares x xs (limits 0, curves 0) (only_share xs (λ c. limits (suc c)) (λ c. curves (suc c)))

-- a class of the configuration with a child has one in HFSC
record HasChild (classes : List Class) (p : ℕ) : Type 0 where
  child : ℕ
  low : child < length classes
  is : is_hfsc_child (hfsc_classes classes) p child ≡ true

child_there : (classes : List Class) (p : ℕ) → list_any (λ c. is_child p c) classes ≡ true → HasChild classes p
child_there [] p e = absurd cc
child_there (x ∷ xs) p e = go (is_child p x) refl (child_there xs p)
  where
    number_is : (o : Option ℕ) → names_parent p o ≡ is_number p o
    number_is None = refl
    number_is (Some q) = refl

    go : (b : Bool) → is_child p x ≡ b → (list_any (λ c. is_child p c) xs ≡ true → HasChild xs p) → HasChild (x ∷ xs) p
    go true f behind = record { child = 0; low = omega arith; is = sym (number_is x.parent) ∙ f }
    go false f behind =
        let rest : list_any (λ c. is_child p c) xs ≡ true = rw f at e in
        let h = behind rest in
        let low = h.low in
        record { child = suc h.child; low = omega (arith, low); is = h.is }

parent_is : (classes : List Class) (p : ℕ) → is_parent (hfsc_classes classes) p ≡ list_any (λ c. is_child p c) classes
parent_is classes p = same_truth (is_parent cs p) (list_any (λ c. is_child p c) classes) (parent_there classes p)
    (λ e.
    let h = child_there classes p e in
    let low = h.low in
    is_any (is_hfsc_child cs p) 0 (length cs) h.child (omega arith) (omega (arith, low, long)) h.is)
  where
    cs : List HfscClass
    cs = hfsc_classes classes

    long : length cs ≡ length classes
    long = length-map classes hfsc_class

leaf_is : (classes : List Class) (c : ℕ) → c < length classes → is_hfsc_leaf (hfsc_classes classes) c ≡ is_leaf classes c
leaf_is classes c low =
    let cs = hfsc_classes classes in
    let long : length cs ≡ length classes = length-map classes hfsc_class in
    let there : nat_lt c (length cs) ≡ true = grind (arith, nat_tests, low, long) in
    ap (λ (b : Bool). b && not (is_parent cs c)) there ∙ ap not (parent_is classes c)

-- the leaves among the first classes
abbrev pub first_leaves : List Class → (n : ℕ) → List ℕ
first_leaves classes n = filter (is_hfsc_leaf (hfsc_classes classes)) (range_with_len 0 n)

range_more : (p : ℕ → Bool) (a n j : ℕ) → a + n ≡ j → filter p (range_with_len a (suc n)) ≡ filter p (range_with_len a n) ++ cond (p j) (j ∷ []) []
range_more p a zero j e = let same : a ≡ j = omega (arith, e) in ap (λ (k : ℕ). cond (p k) (k ∷ []) []) same
range_more p a (suc n) j e = go (p a) (range_more p (a + 1) n j (omega (arith, e)))
  where
    go : (b : Bool) → filter p (range_with_len (a + 1) (suc n)) ≡ filter p (range_with_len (a + 1) n) ++ cond (p j) (j ∷ []) []
        → cond b (a ∷ filter p (range_with_len (a + 1) (suc n))) (filter p (range_with_len (a + 1) (suc n)))
        ≡ cond b (a ∷ filter p (range_with_len (a + 1) n)) (filter p (range_with_len (a + 1) n)) ++ cond (p j) (j ∷ []) []
    go true f = ap (λ (xs : List ℕ). a ∷ xs) f
    go false f = f

next_leaf : (classes : List Class) (n : ℕ) (b : Bool) → n < length classes → is_leaf classes n ≡ b
    → first_leaves classes (n + 1) ≡ first_leaves classes n ++ cond b (n ∷ []) []
next_leaf classes n b low e =
    ap (first_leaves classes) (add-one n)
    ∙ range_more (is_hfsc_leaf (hfsc_classes classes)) 0 n n (omega arith)
    ∙ ap (λ (d : Bool). first_leaves classes n ++ cond d (n ∷ []) []) (leaf_is classes n low ∙ e)

-- what a count of the leaves among the first classes, and the last of them, say
pub record AreCounted (xs : List ℕ) (n count last : ℕ) : Type 0 where
  pub few : count ≤ n
  pub count_is : length xs ≡ count
  pub last_is : count ≡ 1 → xs ≡ last ∷ []

pub none_counted : (classes : List Class) → AreCounted (first_leaves classes 0) 0 0 0
none_counted classes = record { few = omega arith; count_is = refl; last_is = λ e. absurd (omega (arith, e)) }

one_more : (xs : List ℕ) (n count last : ℕ) → AreCounted xs n count last → AreCounted (xs ++ n ∷ []) (n + 1) (count + 1) n
one_more xs n count last a = go xs a.count_is
  where
    go : (ys : List ℕ) → length ys ≡ count → AreCounted (ys ++ n ∷ []) (n + 1) (count + 1) n
    go [] e = let few = a.few in record { few = omega (arith, few); count_is = omega (arith, e); last_is = λ f. refl }
    go (y ∷ ys) e = let few = a.few in record {
      few = omega (arith, few);
      count_is = omega (arith, e, length-append (y ∷ ys) (n ∷ []));
      last_is = λ f. absurd (omega (arith, e, f));
    }

pub leaf_counted : (classes : List Class) (n count last : ℕ) → AreCounted (first_leaves classes n) n count last → n < length classes → is_leaf classes n ≡ true
    → AreCounted (first_leaves classes (n + 1)) (n + 1) (count + 1) n
leaf_counted classes n count last a low e =
    subst (λ (xs : List ℕ). AreCounted xs (n + 1) (count + 1) n) (sym (next_leaf classes n true low e)) (one_more (first_leaves classes n) n count last a)

pub other_counted : (classes : List Class) (n count last : ℕ) → AreCounted (first_leaves classes n) n count last → n < length classes → is_leaf classes n ≡ false
    → AreCounted (first_leaves classes (n + 1)) (n + 1) count last
other_counted classes n count last a low e =
    let same = next_leaf classes n false low e ∙ append-nil (first_leaves classes n) in
    let few = a.few in
    subst (λ (xs : List ℕ). AreCounted xs (n + 1) count last) (sym same) (record { few = omega (arith, few); count_is = a.count_is; last_is = a.last_is })

pub all_leaves : (classes : List Class) → first_leaves classes (length classes) ≡ leaves (hfsc_classes classes)
all_leaves classes =
    let long : length (hfsc_classes classes) ≡ length classes = length-map classes hfsc_class in
    ap (λ (n : ℕ). first_leaves classes n) (sym long)

pub one_is_sole : (classes : List Class) (n count last : ℕ) → AreCounted (first_leaves classes n) n count last → n ≡ length classes → count ≡ 1
    → leaves (hfsc_classes classes) ≡ last ∷ []
one_is_sole classes n count last a e one = sym (all_leaves classes) ∙ ap (first_leaves classes) (sym e) ∙ a.last_is one

pub others_are_not : (classes : List Class) (n count last l : ℕ) → AreCounted (first_leaves classes n) n count last → n ≡ length classes → (count ≡ 1 → ⊥)
    → leaves (hfsc_classes classes) ≡ l ∷ [] → ⊥
others_are_not classes n count last l a e more sole =
    let all = ap (λ (xs : List ℕ). length xs) (ap (first_leaves classes) e ∙ all_leaves classes ∙ sole) in
    let count_is = a.count_is in
    more (omega (arith, all, count_is))

-- the sole leaf is one queue, where no class has more than a share
pub sole_is_one : (classes : List Class) (o : Option ℕ) → All OnlyShares classes → IfSome o (λ l. leaves (hfsc_classes classes) ≡ l ∷ [])
    → IfSome o (IsOneQueue (hfsc_classes classes))
sole_is_one classes None a e = tt
sole_is_one classes (Some l) a e = record { leaf = e; no_limits = no_limits classes a; no_real_time = no_curves classes a }

pub sole_low : (classes : List Class) (l : ℕ) → IsOneQueue (hfsc_classes classes) l → l < length classes
sole_low classes l q =
    let cs = hfsc_classes classes in
    let long : length cs ≡ length classes = length-map classes hfsc_class in
    let low = leaf_below cs l (one_leaf cs l (subst (λ (xs : List ℕ). IsOneOf l xs) (sym q.leaf) (inl refl))) in
    omega (arith, long, low)
