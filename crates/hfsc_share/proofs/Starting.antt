-- The virtual time that a class takes: the middle of the first and the last of its active siblings, or the high mark.
use Rattle.std.proofs.Common.{◌≡◌, ◌≤◌, ◌<◌, ◌+◌, ◌⊎◌, inl, inr, ℕ, zero, suc, Bool, true, false, List, [], ◌∷◌, Some, length, map, refl, ap, sym, subst, arith, ◌∙◌}
use Rattle.std.specs.Prelude.{Option, ◌==◌, ◌&&◌, ◌-◌, ◌/◌, nat_lt, min, max, cond, slice_get, if◌then◌else◌}
use Rattle.std.specs.List.{filter, range_with_len}
use Rattle.std.proofs.lemmas.Bool.Decides.{nat_tests}
use Rattle.ranking.specs.Order.{is_in, key_of, is_before}
use Rattle.ranking.specs.Search.{IsRanked}
use Rattle.ranking.specs.Ranking.{keys_of, order_of}
use Rattle.ranking.proofs.Ranks.{ranked_true, same_test, in_more}
use Rattle.hfsc_model.specs.declared.HfscClass.{HfscClass}
use Rattle.hfsc_model.specs.Event.{HfscHistory}
use Rattle.hfsc_model.specs.RealTime.{goes_first}
use Rattle.hfsc_model.specs.Tree.{numbers, is_child}
use Rattle.hfsc_model.specs.Share.{active, activation, greatest, least, virtual_time}
use Rattle.hfsc_laws.proofs.Tree.{and_true, child_within}
use Rattle.hfsc_groups.specs.declared.node.Node.{Node}
use Rattle.hfsc_groups.specs.declared.group.Group.{Group}
use Rattle.hfsc_groups.specs.Node.{time_in}
use Rattle.hfsc_groups.specs.Group.{Ranks, IsHigh, time_key, ranked_in}
use Rattle.hfsc_groups.proofs.Moments.{first_before}
use Rattle.hfsc_groups.proofs.Children.{Stand, child_is, child_node, in_list}
use Rattle.hfsc_share.specs.Walk.{last_of, start_among}

-- what is in a filtered list, and in the list of numbers
pub in_filter : (p : ℕ → Bool) (c : ℕ) (xs : List ℕ) → is_in c (filter p xs) ≡ (p c && is_in c xs)
in_filter p c [] = nothing (p c)
  where
    nothing : (b : Bool) → false ≡ (b && false)
    nothing true = refl
    nothing false = refl
in_filter p c (x ∷ xs) = go (p x) (x == c) refl refl (in_filter p c xs)
  where
    go : (a b : Bool) → p x ≡ a → (x == c) ≡ b → is_in c (filter p xs) ≡ (p c && is_in c xs)
        → is_in c (cond a (x ∷ filter p xs) (filter p xs)) ≡ (p c && (if b then true else is_in c xs))
    go true true e f rest =
        let same : x ≡ c = grind (arith, nat_tests, f) in
        let here : p c ≡ true = ap p (sym same) ∙ e in
        ap (λ d. if d then true else is_in c (filter p xs)) f ∙ sym (ap (λ d. d && true) here)
    go true false e f rest = ap (λ d. if d then true else is_in c (filter p xs)) f ∙ rest
    go false true e f rest =
        let same : x ≡ c = grind (arith, nat_tests, f) in
        let here : p c ≡ false = ap p (sym same) ∙ e in
        rest ∙ ap (λ d. d && is_in c xs) here ∙ sym (ap (λ d. d && true) here)
    go false false e f rest = rest

pub in_range : (a n c : ℕ) → a ≤ c → c < a + n → is_in c (range_with_len a n) ≡ true
in_range a zero c h k = absurd (omega arith)
in_range a (suc n) c h k = go (a == c) refl (in_range (a + 1) n c)
  where
    go : (b : Bool) → (a == c) ≡ b → (a + 1 ≤ c → c < a + 1 + n → is_in c (range_with_len (a + 1) n) ≡ true) → (if b then true else is_in c (range_with_len (a + 1) n)) ≡ true
    go true e rest = refl
    go false e rest = rest (grind (arith, nat_tests, e, h)) (omega arith)

pub child_in : (cs : List HfscClass) (p c : ℕ) → is_in c (filter (is_child cs p) (numbers cs)) ≡ is_child cs p c
child_in cs p c = in_filter (is_child cs p) c (numbers cs) ∙ go (is_child cs p c) refl
  where
    go : (b : Bool) → is_child cs p c ≡ b → (b && is_in c (numbers cs)) ≡ b
    go true e = in_range 0 (length cs) c (omega arith) (let low = child_within cs p c e in omega arith)
    go false e = refl

pub active_child_in : (cs : List HfscClass) (h : HfscHistory) (p c : ℕ) → is_in c (filter (active cs h) (filter (is_child cs p) (numbers cs))) ≡ (is_child cs p c && active cs h c)
active_child_in cs h p c =
    in_filter (active cs h) c (filter (is_child cs p) (numbers cs)) ∙ ap (λ b. active cs h c && b) (child_in cs p c) ∙ swap (active cs h c) (is_child cs p c)
  where
    swap : (a b : Bool) → (a && b) ≡ (b && a)
    swap true true = refl
    swap true false = refl
    swap false true = refl
    swap false false = refl

-- the greatest and the least of values
pub greatest_at : (f : ℕ → ℕ) (xs : List ℕ) (c : ℕ) → is_in c xs ≡ true → f c ≤ greatest (map f xs)
greatest_at f [] c i = absurd cc
greatest_at f (x ∷ xs) c i = go (x == c) refl i (greatest_at f xs c)
  where
    go : (b : Bool) → (x == c) ≡ b → (if b then true else is_in c xs) ≡ true → (is_in c xs ≡ true → f c ≤ greatest (map f xs)) → f c ≤ max (f x) (greatest (map f xs))
    go true e i rest = let same : x ≡ c = grind (arith, nat_tests, e) in let equal = ap f same in omega arith
    go false e i rest = let one = rest i in omega arith

pub greatest_up : (f : ℕ → ℕ) (xs : List ℕ) (m : ℕ) → ((c : ℕ) → is_in c xs ≡ true → f c ≤ m) → greatest (map f xs) ≤ m
greatest_up f [] m h = omega arith
greatest_up f (x ∷ xs) m h =
    let here = h x (rw (same_test x) refl) in
    let rest = greatest_up f xs m (λ c i. h c (in_more x c xs i)) in
    omega arith

pub least_at : (f : ℕ → ℕ) (d : ℕ) (xs : List ℕ) (c : ℕ) → is_in c (d ∷ xs) ≡ true → least (f d) (map f xs) ≤ f c
least_at f d [] c i = go (d == c) refl i
  where
    go : (b : Bool) → (d == c) ≡ b → (if b then true else false) ≡ true → f d ≤ f c
    go true e i = let same : d ≡ c = grind (arith, nat_tests, e) in let equal = ap f same in omega arith
    go false e i = absurd cc
least_at f d (x ∷ xs) c i = go (d == c) refl i (least_at f x xs c)
  where
    go : (b : Bool) → (d == c) ≡ b → (if b then true else is_in c (x ∷ xs)) ≡ true → (is_in c (x ∷ xs) ≡ true → least (f x) (map f xs) ≤ f c) → min (f d) (least (f x) (map f xs)) ≤ f c
    go true e i rest = let same : d ≡ c = grind (arith, nat_tests, e) in let equal = ap f same in omega arith
    go false e i rest = let one = rest i in omega arith

pub least_low : (f : ℕ → ℕ) (d : ℕ) (xs : List ℕ) (m : ℕ) → ((c : ℕ) → is_in c (d ∷ xs) ≡ true → m ≤ f c) → m ≤ least (f d) (map f xs)
least_low f d [] m h = h d (rw (same_test d) refl)
least_low f d (x ∷ xs) m h =
    let here = h d (rw (same_test d) refl) in
    let rest = least_low f x xs m (λ c i. h c (in_more d c (x ∷ xs) i)) in
    omega arith

-- the first and the last of a list in order
pub time_before : (a b c d : ℕ) → goes_first (Some a) c (Some b) d ≡ true → a ≤ b
time_before a b c d g = go (nat_lt a b) (nat_lt b a) refl refl g
  where
    go : (p q : Bool) → nat_lt a b ≡ p → nat_lt b a ≡ q → (if p then true else if q then false else nat_lt c d) ≡ true → a ≤ b
    go true q e f r = grind (arith, nat_tests, e)
    go false true e f r = absurd cc
    go false false e f r = grind (arith, nat_tests, f)

pub last_in_list : (c : ℕ) (cs : List ℕ) → is_in (last_of c cs) (c ∷ cs) ≡ true
last_in_list c [] = rw (same_test c) refl
last_in_list c (d ∷ ds) = in_more c (last_of d ds) (d ∷ ds) (last_in_list d ds)

-- the last place of a list
last_got : (c : ℕ) (cs : List ℕ) → slice_get (c ∷ cs) (length cs) ≡ Some (last_of c cs)
last_got c [] = refl
last_got c (d ∷ ds) = last_got d ds

pub start_got : (nodes : List Node) (g : Group) (xs : List ℕ) (a b : ℕ) → slice_get xs 0 ≡ Some a → slice_get xs (length xs - 1) ≡ Some b
    → (time_in (slice_get nodes a) + time_in (slice_get nodes b)) / 2 ≡ start_among nodes g xs
start_got nodes g [] a b e f = absurd cc
start_got nodes g (c ∷ cs) a b e f =
    let one : c ≡ a = cc in
    let place : length (c ∷ cs) - 1 ≡ length cs = omega arith in
    let two : b ≡ last_of c cs = number b (last_of c cs) (sym f ∙ ap (λ n. slice_get (c ∷ cs) n) place ∙ last_got c cs) in
    ap (λ n. (time_in (slice_get nodes n) + time_in (slice_get nodes b)) / 2) (sym one)
    ∙ ap (λ n. (time_in (slice_get nodes c) + time_in (slice_get nodes n)) / 2) two
  where
    number : (m n : ℕ) → Some m ≡ Some n → m ≡ n
    number m n e = cc

time_of_before : (keys : List (Option ℕ)) (f : ℕ → ℕ) (c d : ℕ) → key_of keys c ≡ Some (f c) → key_of keys d ≡ Some (f d) → is_before keys c d ≡ true → f c ≤ f d
time_of_before keys f c d e g b =
    time_before (f c) (f d) c d (sym (ap (λ (k : Option ℕ). goes_first k c (key_of keys d) d) e ∙ ap (λ (k : Option ℕ). goes_first (Some (f c)) c k d) g) ∙ b)

pub first_least : (keys : List (Option ℕ)) (f : ℕ → ℕ) (c d : ℕ) (cs : List ℕ) → IsRanked keys (c ∷ cs) → ((e : ℕ) → is_in e (c ∷ cs) ≡ true → key_of keys e ≡ Some (f e))
    → is_in d (c ∷ cs) ≡ true → f c ≤ f d
first_least keys f c d cs r k i = go (first_before keys c d cs r i)
  where
    go : (c ≡ d) ⊎ (is_before keys c d ≡ true) → f c ≤ f d
    go (inl s) = let equal = ap f s in omega arith
    go (inr b) = time_of_before keys f c d (k c (rw (same_test c) refl)) (k d i) b

pub last_greatest : (keys : List (Option ℕ)) (f : ℕ → ℕ) (c d : ℕ) (cs : List ℕ) → IsRanked keys (c ∷ cs) → ((e : ℕ) → is_in e (c ∷ cs) ≡ true → key_of keys e ≡ Some (f e))
    → is_in d (c ∷ cs) ≡ true → f d ≤ f (last_of c cs)
last_greatest keys f c d [] r k i = go (c == d) refl i
  where
    go : (b : Bool) → (c == d) ≡ b → (if b then true else false) ≡ true → f d ≤ f c
    go true e i = let same : c ≡ d = grind (arith, nat_tests, e) in let equal = ap f same in omega arith
    go false e i = absurd cc
last_greatest keys f c d (x ∷ xs) r k i = go (c == d) refl i (last_greatest keys f x d xs r.1 (λ e j. k e (in_more c e (x ∷ xs) j))) (last_greatest keys f x x xs r.1 (λ e j. k e (in_more c e (x ∷ xs) j)) (rw (same_test x) refl))
  where
    go : (b : Bool) → (c == d) ≡ b → (if b then true else is_in d (x ∷ xs)) ≡ true → (is_in d (x ∷ xs) ≡ true → f d ≤ f (last_of x xs)) → f x ≤ f (last_of x xs) → f d ≤ f (last_of x xs)
    go true e i rest more =
        let same : c ≡ d = grind (arith, nat_tests, e) in
        let equal = ap f same in
        let one = time_of_before keys f c x (k c (rw (same_test c) refl)) (k x (in_more c x (x ∷ xs) (rw (same_test x) refl))) r.0.0 in
        omega arith
    go false e i rest more = rest i

-- the middle of a list in order is that of any list with the same classes
pub middle : (keys : List (Option ℕ)) (f : ℕ → ℕ) (own high : ℕ) (ranked others : List ℕ) → IsRanked keys ranked → ((e : ℕ) → is_in e ranked ≡ true → key_of keys e ≡ Some (f e))
    → ((e : ℕ) → is_in e ranked ≡ is_in e others) → (c : ℕ) (cs : List ℕ) → ranked ≡ c ∷ cs
    → max own ((f c + f (last_of c cs)) / 2) ≡ activation own (map f others) high
middle keys f own high ranked [] r k same c cs e =
    let i : is_in c ranked ≡ true = ap (λ (ys : List ℕ). is_in c ys) e ∙ (let one : is_in c (c ∷ cs) ≡ true = rw (same_test c) refl in one) in
    let no = same c in
    absurd cc
middle keys f own high ranked (d ∷ ds) r k same c cs e =
    ap (λ n. max own (n / 2)) (sum (f c) (f (last_of c cs)) (least (f d) (map f ds)) (greatest (map f (d ∷ ds))) low high_is)
  where
    ordered : IsRanked keys (c ∷ cs)
    ordered = subst (λ (ys : List ℕ). IsRanked keys ys) e r

    keyed : (x : ℕ) → is_in x (c ∷ cs) ≡ true → key_of keys x ≡ Some (f x)
    keyed x i = k x (ap (λ (ys : List ℕ). is_in x ys) e ∙ i)

    there : (x : ℕ) → is_in x (c ∷ cs) ≡ is_in x (d ∷ ds)
    there x = sym (ap (λ (ys : List ℕ). is_in x ys) e) ∙ same x

    sum : (a b x y : ℕ) → a ≡ x → b ≡ y → a + b ≡ x + y
    sum a b x y p q = omega arith

    low : f c ≡ least (f d) (map f ds)
    low =
        let one = least_at f d ds c (sym (there c) ∙ (let i : is_in c (c ∷ cs) ≡ true = rw (same_test c) refl in i)) in
        let two = least_low f d ds (f c) (λ x i. first_least keys f c x cs ordered keyed (there x ∙ i)) in
        omega arith

    high_is : f (last_of c cs) ≡ greatest (map f (d ∷ ds))
    high_is =
        let one = greatest_at f (d ∷ ds) (last_of c cs) (sym (there (last_of c cs)) ∙ last_in_list c cs) in
        let two = greatest_up f (d ∷ ds) (f (last_of c cs)) (λ x i. last_greatest keys f c x cs ordered keyed (there x ∙ i)) in
        omega arith

no_others : (f : ℕ → ℕ) (own high : ℕ) (others : List ℕ) → ((e : ℕ) → is_in e others ≡ false) → max own high ≡ activation own (map f others) high
no_others f own high [] n = refl
no_others f own high (d ∷ ds) n = let i : is_in d (d ∷ ds) ≡ true = rw (same_test d) refl in let no = n d in absurd cc

-- the high mark
high_is : (cs : List HfscClass) (h : HfscHistory) (last p high : ℕ) (nodes : List Node) → Stand cs h last p nodes → IsHigh nodes p high
    → high ≡ greatest (map (virtual_time cs h) (filter (is_child cs p) (numbers cs)))
high_is cs h last p high nodes s i =
    let one = i.least (greatest (map (virtual_time cs h) (filter (is_child cs p) (numbers cs))))
    (λ c k. let is = sym (child_is cs h last p nodes c s) ∙ k in
    let t = time_is c is in
    let most = greatest_at (virtual_time cs h) (filter (is_child cs p) (numbers cs)) c (child_in cs p c ∙ is) in omega arith) in
    let two = greatest_up (virtual_time cs h) (filter (is_child cs p) (numbers cs)) high
    (λ c k. let is = sym (child_in cs p c) ∙ k in
    let t = time_is c is in
    let most = i.highest c (child_is cs h last p nodes c s ∙ is) in omega arith) in
    omega arith
  where
    time_is : (c : ℕ) → is_child cs p c ≡ true → time_in (slice_get nodes c) ≡ virtual_time cs h c
    time_is c k = let n = child_node cs h last p nodes c s k in ap time_in n.at ∙ sym (s.each c n.node n.at k).time

-- the virtual time to take among the children of a class
pub start_is : (cs : List HfscClass) (h : HfscHistory) (last p own : ℕ) (nodes : List Node) (g : Group) → Stand cs h last p nodes → Ranks nodes p time_key g.times → IsHigh nodes p g.high
    → max own (start_among nodes g (ranked_in g))
    ≡ activation own (map (virtual_time cs h) (filter (active cs h) (filter (is_child cs p) (numbers cs)))) (greatest (map (virtual_time cs h) (filter (is_child cs p) (numbers cs))))
start_is cs h last p own nodes g s ranks i = go (order_of g.times) refl
  where
    same : (e : ℕ) → is_in e (order_of g.times) ≡ is_in e (filter (active cs h) (filter (is_child cs p) (numbers cs)))
    same e = in_list cs h last p nodes time_key g.times e s ranks ∙ sym (active_child_in cs h p e)

    time_is : (c : ℕ) → is_in c (order_of g.times) ≡ true → time_in (slice_get nodes c) ≡ virtual_time cs h c
    time_is c k =
        let both = and_true (is_child cs p c) (active cs h c) (sym (in_list cs h last p nodes time_key g.times c s ranks) ∙ k) in
        let n = child_node cs h last p nodes c s both.0 in ap time_in n.at ∙ sym (s.each c n.node n.at both.0).time

    keyed : (c : ℕ) → is_in c (order_of g.times) ≡ true → key_of (keys_of g.times) c ≡ Some (virtual_time cs h c)
    keyed c k = ranks.keys c (sym (ranks.exactly c) ∙ k) ∙ ap (λ n. Some n) (time_is c k)

    halves : (a b x y : ℕ) → a ≡ x → b ≡ y → max own ((a + b) / 2) ≡ max own ((x + y) / 2)
    halves a b x y e f = ap (λ n. max own (n / 2)) (omega arith)

    go : (xs : List ℕ) → order_of g.times ≡ xs → max own (start_among nodes g xs)
        ≡ activation own (map (virtual_time cs h) (filter (active cs h) (filter (is_child cs p) (numbers cs)))) (greatest (map (virtual_time cs h) (filter (is_child cs p) (numbers cs))))
    go [] e =
        ap (λ n. max own n) (high_is cs h last p g.high nodes s i)
        ∙ no_others (virtual_time cs h) own (greatest (map (virtual_time cs h) (filter (is_child cs p) (numbers cs)))) (filter (active cs h) (filter (is_child cs p) (numbers cs)))
        (λ c. sym (same c) ∙ ap (λ (ys : List ℕ). is_in c ys) e)
    go (c ∷ xs) e =
        halves (time_in (slice_get nodes c)) (time_in (slice_get nodes (last_of c xs))) (virtual_time cs h c) (virtual_time cs h (last_of c xs))
        (time_is c (ap (λ (ys : List ℕ). is_in c ys) e ∙ (let one : is_in c (c ∷ xs) ≡ true = rw (same_test c) refl in one)))
        (time_is (last_of c xs) (ap (λ (ys : List ℕ). is_in (last_of c xs) ys) e ∙ last_in_list c xs))
        ∙ middle (keys_of g.times) (virtual_time cs h) own (greatest (map (virtual_time cs h) (filter (is_child cs p) (numbers cs)))) (order_of g.times)
        (filter (active cs h) (filter (is_child cs p) (numbers cs))) (ranked_true (keys_of g.times) (order_of g.times) g.times.ranked) keyed same c xs e
