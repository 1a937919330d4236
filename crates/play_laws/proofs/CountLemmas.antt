-- Each number has one fate, or waits.
use Rattle.std.proofs.Common.{◌≡◌, ◌≤◌, ◌+◌, ◌∙◌, ◌⊎◌, inl, inr, ℕ, Bool, true, false, cond, List, [], ◌∷◌, ◌++◌, Some, drop, refl, ap, sym, subst, arith}
use Rattle.std.specs.Prelude.{slice_get, if◌then◌else◌, ◌==◌, ◌&&◌, nat_lt, nat_le}
use Rattle.std.proofs.lemmas.Bool.{eqb-true, eq-eqb}
use Rattle.std.proofs.lemmas.Grind.{common_steps}
use Rattle.altq_model.specs.declared.Verdict.{Verdict}
use Rattle.altq_model.specs.declared.Verdict.TheVariants.{Keep, Mark, Drop}
use Rattle.altq_model.specs.History.{Arrival, DrawnWords, Event, Offered, Sent, LabelledEvent, unlabelled, offered, drawn, labels, labels_after, is_kept, with_offer, without_head, Decision, dropped_by, decided, journal}
use Rattle.altq_model.specs.Laws.{occurs, numbers}
use Rattle.altq_model.specs.Play.{Policy}
use Rattle.play_laws.specs.Events.{IsOffer, IsSending, EachFollows, WaitsOnce}

-- the class and the label of a packet that waits
abbrev pub Place : Type 0
Place = ℕ × ℕ

abbrev pub without_first : (c : ℕ) → List Place → List Place
without_first c [] = []
without_first c (x ∷ xs) = if x.0 == c then xs else x ∷ without_first c xs

abbrev pub with_place : Verdict → Place → List Place → List Place
with_place v x xs = if is_kept v then xs ++ x ∷ [] else xs

abbrev pub places_after : (label : ℕ) → Event → List Place → List Place
places_after label (Offered a w v) xs = with_place v.verdict (a.class, label) xs
places_after label (Sent s) xs = without_first s.class xs

-- all that waits, whatever its class, in the order of the offers
abbrev pub places : List LabelledEvent → List Place
places [] = []
places (e ∷ g) = places_after e.label e.what (places g)

-- the labels of all places, and of those of a class
abbrev pub all_labels : List Place → List ℕ
all_labels [] = []
all_labels (x ∷ xs) = x.1 ∷ all_labels xs

abbrev pub of_class : (c : ℕ) → List Place → List ℕ
of_class c [] = []
of_class c (x ∷ xs) = if x.0 == c then x.1 ∷ of_class c xs else of_class c xs

push_case : (b k : Bool) (x n : ℕ) (xs ys : List ℕ) → ys ≡ cond k (xs ++ n ∷ []) xs → cond b (x ∷ ys) ys ≡ cond k (cond b (x ∷ xs) xs ++ n ∷ []) (cond b (x ∷ xs) xs)
push_case true true x n xs ys e = ap (λ (l : List ℕ). x ∷ l) e
push_case true false x n xs ys e = ap (λ (l : List ℕ). x ∷ l) e
push_case false true x n xs ys e = e
push_case false false x n xs ys e = e

class_push : (c : ℕ) (xs : List Place) (k n : ℕ) → of_class c (xs ++ (k, n) ∷ []) ≡ cond (k == c) (of_class c xs ++ n ∷ []) (of_class c xs)
class_push c [] k n = refl
class_push c (x ∷ xs) k n = push_case (x.0 == c) (k == c) x.1 n (of_class c xs) (of_class c (xs ++ (k, n) ∷ [])) (class_push c xs k n)

class_if : (c : ℕ) (xs : List Place) (q n : ℕ) (k : Bool)
    → of_class c (cond k (xs ++ (q, n) ∷ []) xs) ≡ cond (k && (q == c)) (of_class c xs ++ n ∷ []) (of_class c xs)
class_if c xs q n true = class_push c xs q n
class_if c xs q n false = refl

class_offer : (c : ℕ) (xs : List Place) (k n : ℕ) (v : Verdict) → of_class c (with_place v (k, n) xs) ≡ with_offer (k == c) v n (of_class c xs)
class_offer c xs k n v = class_if c xs k n (is_kept v)

nothing : (b : Bool) → [] ≡ without_head {X = ℕ} b []
nothing true = refl
nothing false = refl

clash : (x d c : ℕ) → (x == d) ≡ false → x ≡ c → d ≡ c → ⊥
clash x d c n e f = (let t : (x == d) ≡ true = eq-eqb x d (e ∙ sym f) in let q : true ≡ false = sym t ∙ n in (cc))

taken : (c d : ℕ) (x : Place) (xs : List Place) → x.0 ≡ d → (b : Bool) → (d == c) ≡ b → of_class c xs ≡ without_head b (of_class c (x ∷ xs))
taken c d x xs e true t = let s : (x.0 == c) ≡ true = ap (λ (k : ℕ). k == c) e ∙ t in rw s refl
taken c d x xs e false t = let s : (x.0 == c) ≡ false = ap (λ (k : ℕ). k == c) e ∙ t in rw s refl

not_taken : (c d : ℕ) (x : Place) (xs : List Place) → (x.0 == d) ≡ false → of_class c (without_first d xs) ≡ without_head (d == c) (of_class c xs)
    → (a : Bool) → (x.0 == c) ≡ a → (b : Bool) → (d == c) ≡ b → of_class c (x ∷ without_first d xs) ≡ without_head b (of_class c (x ∷ xs))
not_taken c d x xs n h true s true t = absurd (clash x.0 d c n (eqb-true x.0 c s) (eqb-true d c t))
not_taken c d x xs n h true s false t = rw s (ap (λ (l : List ℕ). x.1 ∷ l) (let q : of_class c (without_first d xs) ≡ of_class c xs = rw t at h in q))
not_taken c d x xs n h false s true t = rw s (let q : of_class c (without_first d xs) ≡ drop 1 (of_class c xs) = rw t at h in q)
not_taken c d x xs n h false s false t = rw s (let q : of_class c (without_first d xs) ≡ of_class c xs = rw t at h in q)

take_case : (c d : ℕ) (x : Place) (xs : List Place) (b : Bool) → (x.0 == d) ≡ b → of_class c (without_first d xs) ≡ without_head (d == c) (of_class c xs)
    → of_class c (cond b xs (x ∷ without_first d xs)) ≡ without_head (d == c) (of_class c (x ∷ xs))
take_case c d x xs true e h = taken c d x xs (eqb-true x.0 d e) (d == c) refl
take_case c d x xs false e h = not_taken c d x xs e h (x.0 == c) refl (d == c) refl

class_take : (c d : ℕ) (xs : List Place) → of_class c (without_first d xs) ≡ without_head (d == c) (of_class c xs)
class_take c d [] = nothing (d == c)
class_take c d (x ∷ xs) = take_case c d x xs (x.0 == d) refl (class_take c d xs)

class_after : (c label : ℕ) (e : Event) (xs : List Place) (ns : List ℕ) → of_class c xs ≡ ns → of_class c (places_after label e xs) ≡ labels_after c label e ns
class_after c label (Offered a w v) xs ns h = class_offer c xs a.class label v.verdict ∙ ap (with_offer (a.class == c) v.verdict label) h
class_after c label (Sent s) xs ns h = class_take c s.class xs ∙ ap (without_head (s.class == c)) h

-- the labels of a class are its places
pub of_class_labels : (c : ℕ) (g : List LabelledEvent) → of_class c (places g) ≡ labels c g
of_class_labels c [] = refl
of_class_labels c (e ∷ g) = class_after c e.label e.what (places g) (labels c g) (of_class_labels c g)

abbrev pub one : (m n : ℕ) → ℕ
one m n = if m == n then 1 else 0

abbrev pub should : (n count : ℕ) → ℕ
should n count = if nat_lt 0 n && nat_le n count then 1 else 0

occurs_append : (n : ℕ) (xs ys : List ℕ) → occurs n (xs ++ ys) ≡ occurs n xs + occurs n ys
occurs_append n [] ys = omega arith
occurs_append n (x ∷ xs) ys = omega (arith, occurs_append n xs ys)

numbers_append : (xs ys : List Decision) → numbers (xs ++ ys) ≡ numbers xs ++ numbers ys
numbers_append [] ys = refl
numbers_append (d ∷ xs) ys = ap (λ (l : List ℕ). d.0 ∷ l) (numbers_append xs ys)

pub journal_occurs : (n : ℕ) (xs ys : List Decision) → occurs n (numbers (xs ++ ys)) ≡ occurs n (numbers xs) + occurs n (numbers ys)
journal_occurs n xs ys = ap (occurs n) (numbers_append xs ys) ∙ occurs_append n (numbers xs) (numbers ys)

pub labels_push : (xs : List Place) (x : Place) → all_labels (xs ++ x ∷ []) ≡ all_labels xs ++ x.1 ∷ []
labels_push [] x = refl
labels_push (y ∷ xs) x = ap (λ (l : List ℕ). y.1 ∷ l) (labels_push xs x)

places_occurs : (n : ℕ) (xs : List Place) (x : Place) → occurs n (all_labels (xs ++ x ∷ [])) ≡ occurs n (all_labels xs) + one x.1 n
places_occurs n xs x =
    ap (occurs n) (labels_push xs x) ∙ occurs_append n (all_labels xs) (x.1 ∷ [])
    ∙ (let q : occurs n (all_labels xs) + (one x.1 n + 0) ≡ occurs n (all_labels xs) + one x.1 n = omega arith in q)

-- the head of a class is taken out
out_case : (n d m : ℕ) (x : Place) (xs : List Place) (b : Bool) → slice_get (cond b (x.1 ∷ of_class d xs) (of_class d xs)) 0 ≡ Some m
    → (slice_get (of_class d xs) 0 ≡ Some m → one m n + occurs n (all_labels (without_first d xs)) ≡ occurs n (all_labels xs))
    → one m n + occurs n (all_labels (cond b xs (x ∷ without_first d xs))) ≡ one x.1 n + occurs n (all_labels xs)
out_case n d m x xs true h r = let same : x.1 ≡ m = cc in ap (λ (k : ℕ). one k n + occurs n (all_labels xs)) (sym same)
out_case n d m x xs false h r = omega (arith, r h)

pub taken_out : (n d m : ℕ) (xs : List Place) → slice_get (of_class d xs) 0 ≡ Some m → one m n + occurs n (all_labels (without_first d xs)) ≡ occurs n (all_labels xs)
taken_out n d m [] h = absurd (cc)
taken_out n d m (x ∷ xs) h = out_case n d m x xs (x.0 == d) h (taken_out n d m xs)

-- each number up to the count of offers was decided once or waits once
pub record IsBalanced (n : ℕ) (g : List LabelledEvent) : Type 0 where
  pub once : occurs n (numbers (journal g)) + occurs n (all_labels (places g)) ≡ should n (offered (unlabelled g))

one_more : (n m : ℕ) → should n (m + 1) ≡ should n m + one (m + 1) n
one_more n m = grind (arith, common_steps)

start : (n : ℕ) → 0 ≡ should n 0
start n = grind (arith, common_steps)

verdict_occurs : (n m k : ℕ) (xs : List Place) (v : Verdict)
    → occurs n (numbers (dropped_by v m)) + occurs n (all_labels (with_place v (k, m) xs)) ≡ occurs n (all_labels xs) + one m n
verdict_occurs n m k xs Keep = let q = places_occurs n xs (k, m) in omega (arith, q)
verdict_occurs n m k xs Mark = let q = places_occurs n xs (k, m) in omega (arith, q)
verdict_occurs n m k xs (Drop r) = omega arith

balanced_step : (p : Policy) (rate seed : ℕ) (arrived : List Arrival) (g : List LabelledEvent) (e : LabelledEvent) (n : ℕ) → IsBalanced n g
    → IsOffer p rate seed arrived g e ⊎ IsSending p rate arrived g e → IsBalanced n (e ∷ g)
balanced_step p rate seed arrived g e n x (inl y) =
    let P : LabelledEvent → Type 0 = λ z. IsBalanced n (z ∷ g) in
    let w : DrawnWords = record { seed = seed; drawn = drawn (unlabelled g) } in
    let v : Verdict = (p.answer (unlabelled g) w y.packet).verdict in
    let m : ℕ = offered (unlabelled g) + 1 in
    let j = journal_occurs n (journal g) (dropped_by v m) in
    let c = verdict_occurs n m y.packet.class (places g) v in
    subst P (sym y.offer) (record { once = omega (arith, x.once, j, c, one_more n (offered (unlabelled g))) })
balanced_step p rate seed arrived g e n x (inr y) =
    let P : Event → Type 0 = λ z. let f : LabelledEvent = record { label = e.label; what = z } in IsBalanced n (f ∷ g) in
    let j = journal_occurs n (journal g) (decided e.label (Sent y.sending)) in
    let c = taken_out n y.sending.class e.label (places g) (ap (λ (l : List ℕ). slice_get l 0) (of_class_labels y.sending.class g) ∙ y.number) in
    subst P (sym y.event) (record { once = omega (arith, x.once, j, c) })

pub balanced : (p : Policy) (rate seed : ℕ) (arrived : List Arrival) (g : List LabelledEvent) (n : ℕ) → EachFollows p rate seed arrived g → IsBalanced n g
balanced p rate seed arrived [] n f = record { once = start n }
balanced p rate seed arrived (e ∷ g) n f = balanced_step p rate seed arrived g e n (balanced p rate seed arrived g n f.1) f.0

class_case : (n c : ℕ) (x : Place) (xs : List Place) (b : Bool) → occurs n (of_class c xs) ≤ occurs n (all_labels xs)
    → occurs n (cond b (x.1 ∷ of_class c xs) (of_class c xs)) ≤ occurs n (all_labels (x ∷ xs))
class_case n c x xs true h = omega (arith, h)
class_case n c x xs false h = omega (arith, h)

class_occurs : (n c : ℕ) (xs : List Place) → occurs n (of_class c xs) ≤ occurs n (all_labels xs)
class_occurs n c [] = omega arith
class_occurs n c (x ∷ xs) = class_case n c x xs (x.0 == c) (class_occurs n c xs)

-- what waits has no fate yet
pub waits_once : (p : Policy) (rate seed : ℕ) (arrived : List Arrival) (g : List LabelledEvent) → EachFollows p rate seed arrived g → WaitsOnce g
waits_once p rate seed arrived g f = λ n c.
    omega (arith, (balanced p rate seed arrived g n f).once, class_occurs n c (places g), ap (occurs n) (of_class_labels c g))
