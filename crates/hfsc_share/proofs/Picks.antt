-- The way down from the root is that of the definitions.
use Rattle.std.proofs.Common.{◌≡◌, ◌≤◌, ◌<◌, ◌+◌, ◌⊎◌, inl, inr, ℕ, zero, suc, Bool, true, false, List, [], ◌∷◌, None, Some, length, refl, ap, sym, subst, arith, ◌∙◌}
use Rattle.std.specs.Prelude.{Option, ◌==◌, ◌&&◌, max, nat_le, nat_lt, cond, is_some, slice_get, if◌then◌else◌}
use Rattle.std.specs.List.{filter, find, range_with_len}
use Rattle.std.proofs.lemmas.Bool.Decides.{nat_tests}
use Rattle.ranking.specs.Order.{is_in, key_of, AreInOrder, IsOrderOf}
use Rattle.ranking.specs.Ranking.{keys_of, order_of}
use Rattle.ranking.proofs.Ranks.{same_test, in_more}
use Rattle.ranking.proofs.Orders.{is_order, IsFirstThat, found_first, found_none}
use Rattle.hfsc_model.specs.declared.HfscClass.{HfscClass}
use Rattle.hfsc_model.specs.Event.{HfscHistory}
use Rattle.hfsc_model.specs.Leaf.{leaf, is_waiting}
use Rattle.hfsc_model.specs.RealTime.{goes_first, has_come}
use Rattle.hfsc_model.specs.Tree.{class_of, numbers, is_child, is_leaf, is_under, path, IsTree}
use Rattle.hfsc_model.specs.Share.{active, virtual_time}
use Rattle.hfsc_model.specs.Limit.{is_open, is_within, least_by, may_share, path_down, share_pick, shares_under}
use Rattle.hfsc_laws.proofs.Tree.{same_truth, and_true, true_and, any_is, is_any, under_self, parent_of}
use Rattle.hfsc_groups.specs.declared.node.Node.{Node}
use Rattle.hfsc_groups.specs.declared.group.Group.{Group}
use Rattle.hfsc_groups.specs.Classes.{opens_under, IsSoonest}
use Rattle.hfsc_groups.specs.Node.{active_in, opens_in, is_child_in, parent_in, time_in, OpensAt}
use Rattle.hfsc_groups.specs.Late.{HasLatePlace, late_keys}
use Rattle.hfsc_groups.specs.Group.{first_open, time_key, GroupHolds}
use Rattle.hfsc_groups.proofs.Under.{under_low, in_line, same_or_up, IsUp}
use Rattle.hfsc_groups.proofs.Opening.{all_over, over_all, Opens, opens_is, is_opens, waits_is, is_waits, is_active}
use Rattle.hfsc_groups.proofs.Children.{Stand, child_node, in_list, key_opens}
use Rattle.hfsc_groups.proofs.Lists.{ranked_low}
use Rattle.hfsc_groups.proofs.Found.{outside_parent}
use Rattle.hfsc_share.specs.declared.Shares.{Shares}
use Rattle.hfsc_share.specs.Shares.{Represents, child_of, down, is_active_at, last_wake, not_before, pick_now, soonest_now}
use Rattle.hfsc_share.proofs.Starting.{child_in, in_filter, time_before}

-- where all classes above a class are within their limits, a leaf below it may be served exactly where the class opens
shares_opens : (cs : List HfscClass) (h : HfscHistory) (now c : ℕ) → IsTree cs → ((x : ℕ) → is_under cs x c ≡ true → (x ≡ c → ⊥) → is_within cs h now x ≡ true)
    → shares_under cs h now c ≡ opens_under cs h now c
shares_opens cs h now c t led = same_truth (shares_under cs h now c) (opens_under cs h now c) there back
  where
    there : shares_under cs h now c ≡ true → opens_under cs h now c ≡ true
    there e =
        let x = any_is (λ d. is_under cs c d && may_share cs h now d) 0 (length cs) e in
        let one = and_true (is_under cs c x.one) (may_share cs h now x.one) x.passes in
        let two = and_true (is_leaf cs x.one) (is_waiting (leaf h x.one).waiting && is_open cs h now x.one) one.1 in
        let three = and_true (is_waiting (leaf h x.one).waiting) (is_open cs h now x.one) two.1 in
        is_opens cs h now c x.one (record {
          waits = is_waits cs h c x.one two.0 one.0 three.0;
          within = λ y u v. all_over (is_within cs h now) (path cs x.one) three.1 y u;
        })

    back : opens_under cs h now c ≡ true → shares_under cs h now c ≡ true
    back e =
        let x = opens_is cs h now c e in
        let w = waits_is cs h c x.one x.opens.waits in
        is_any (λ d. is_under cs c d && may_share cs h now d) 0 (length cs) x.one (omega arith) (let low = w.low in omega arith)
        (true_and (is_under cs c x.one) (may_share cs h now x.one) w.under
        (true_and (is_leaf cs x.one) (is_waiting (leaf h x.one).waiting && is_open cs h now x.one) w.leaf_is
        (true_and (is_waiting (leaf h x.one).waiting) (is_open cs h now x.one) w.waiting
        (over_all (is_within cs h now) (path cs x.one) (λ y u. line x.one x.opens w.under y u (in_line cs c y x.one t w.under u))))))
      where
        line : (d : ℕ) → Opens cs h now c d → is_under cs c d ≡ true → (y : ℕ) → is_under cs y d ≡ true → (is_under cs c y ≡ true) ⊎ (is_under cs y c ≡ true) → is_within cs h now y ≡ true
        line d o k y u (inl v) = o.within y u v
        line d o k y u (inr v) = go (y == c) refl
          where
            go : (b : Bool) → (y == c) ≡ b → is_within cs h now y ≡ true
            go true f =
                let same : c ≡ y = grind (arith, nat_tests, f) in
                subst (λ m. is_within cs h now m ≡ true) same (o.within c k (under_self cs c))
            go false f = led y v (λ s. grind (arith, nat_tests, f, s))

-- a child of a class that is open is led
child_led : (cs : List HfscClass) (h : HfscHistory) (now c e : ℕ) → IsTree cs → ((x : ℕ) → is_under cs x c ≡ true → (x ≡ c → ⊥) → is_within cs h now x ≡ true)
    → opens_under cs h now c ≡ true → is_child cs c e ≡ true → (x : ℕ) → is_under cs x e ≡ true → (x ≡ e → ⊥) → is_within cs h now x ≡ true
child_led cs h now c e t led o k x u n = up (same_or_up cs x e t u)
  where
    number : (a b : ℕ) → Some a ≡ Some b → a ≡ b
    number a b f = cc

    own : is_within cs h now c ≡ true
    own =
        let y = opens_is cs h now c o in
        y.opens.within c (waits_is cs h c y.one y.opens.waits).under (under_self cs c)

    here : is_under cs x c ≡ true → (b : Bool) → (x == c) ≡ b → is_within cs h now x ≡ true
    here v true f = let same : c ≡ x = grind (arith, nat_tests, f) in subst (λ m. is_within cs h now m ≡ true) same own
    here v false f = led x v (λ s. grind (arith, nat_tests, f, s))

    up : (e ≡ x) ⊎ IsUp cs x e → is_within cs h now x ≡ true
    up (inl s) = absurd (n (sym s))
    up (inr y) = here (subst (λ m. is_under cs x m ≡ true) (number y.parent c (sym y.of ∙ parent_of cs c e k)) y.under) (x == c) refl

root_led : (cs : List HfscClass) (h : HfscHistory) (now : ℕ) → IsTree cs → (x : ℕ) → is_under cs x 0 ≡ true → (x ≡ 0 → ⊥) → is_within cs h now x ≡ true
root_led cs h now t x u n = let low = under_low cs x 0 t u in absurd (n (omega arith))

-- numbers that rise
abbrev pub Rising : List ℕ → Type 0
Rising [] = Unit {0}
Rising (c ∷ cs) = ((d : ℕ) → is_in d cs ≡ true → c < d) × Rising cs

range_above : (a n d : ℕ) → is_in d (range_with_len a n) ≡ true → a ≤ d
range_above a zero d i = absurd cc
range_above a (suc n) d i = go (a == d) refl i (range_above (a + 1) n d)
  where
    go : (b : Bool) → (a == d) ≡ b → (if b then true else is_in d (range_with_len (a + 1) n)) ≡ true → (is_in d (range_with_len (a + 1) n) ≡ true → a + 1 ≤ d) → a ≤ d
    go true e i rest = grind (arith, nat_tests, e)
    go false e i rest = let one = rest i in omega arith

pub range_rises : (a n : ℕ) → Rising (range_with_len a n)
range_rises a zero = tt
range_rises a (suc n) = (λ d i. (let one = range_above (a + 1) n d i in omega arith), range_rises (a + 1) n)

pub filter_rises : (p : ℕ → Bool) (xs : List ℕ) → Rising xs → Rising (filter p xs)
filter_rises p [] r = tt
filter_rises p (x ∷ xs) r = go (p x) (filter_rises p xs r.1)
  where
    go : (b : Bool) → Rising (filter p xs) → Rising (cond b (x ∷ filter p xs) (filter p xs))
    go true rest = (λ d i. r.0 d (and_true (p d) (is_in d xs) (sym (in_filter p d xs) ∙ i)).1, rest)
    go false rest = rest

-- the first of least virtual time
pub record IsLeastBy (f : ℕ → ℕ) (xs : List ℕ) (c : ℕ) : Type 0 where
  pub there : is_in c xs ≡ true
  pub first : (d : ℕ) → is_in d xs ≡ true → (d ≡ c → ⊥) → goes_first (Some (f c)) c (Some (f d)) d ≡ true

goes : (a b c d : ℕ) → a ≤ b → c < d → goes_first (Some a) c (Some b) d ≡ true
goes a b c d h k = go (nat_lt a b) (nat_lt b a) refl refl
  where
    go : (p q : Bool) → nat_lt a b ≡ p → nat_lt b a ≡ q → (if p then true else if q then false else nat_lt c d) ≡ true
    go true q e f = refl
    go false true e f = absurd (grind (arith, nat_tests, f, h))
    go false false e f = grind (arith, nat_tests, k)

goes_less : (a b c d : ℕ) → a < b → goes_first (Some a) c (Some b) d ≡ true
goes_less a b c d h = let less : nat_lt a b ≡ true = grind (arith, nat_tests, h) in rw less refl

pub least_none : (f : ℕ → ℕ) (xs : List ℕ) → least_by f xs ≡ None → xs ≡ []
least_none f [] e = refl
least_none f (c ∷ cs) e = absurd (go (least_by f cs) e)
  where
    either : (b : Bool) (d : ℕ) → ◌≡◌ {A = Option ℕ} (if b then Some c else Some d) None → ⊥
    either true d e = cc
    either false d e = cc

    go : (o : Option ℕ) → ◌≡◌ {A = Option ℕ} (elim o [ None ↦ Some c | Some d ↦ if nat_le (f c) (f d) then Some c else Some d ]) None → ⊥
    go None e = cc
    go (Some d) e = either (nat_le (f c) (f d)) d e

pub number_is : (a b : ℕ) → Some a ≡ Some b → a ≡ b
number_is a b e = cc

behind : (c d : ℕ) (cs : List ℕ) → is_in d (c ∷ cs) ≡ true → (d ≡ c → ⊥) → is_in d cs ≡ true
behind c d cs i n = go (c == d) refl i
  where
    go : (b : Bool) → (c == d) ≡ b → (if b then true else is_in d cs) ≡ true → is_in d cs ≡ true
    go true e i = absurd (n (grind (arith, nat_tests, e)))
    go false e i = i

pub least_is : (f : ℕ → ℕ) (xs : List ℕ) (c : ℕ) → Rising xs → least_by f xs ≡ Some c → IsLeastBy f xs c
least_is f [] c r e = absurd cc
least_is f (x ∷ xs) c r e = go (least_by f xs) refl e (λ d g. least_is f xs d r.1 g)
  where
    here : (d : ℕ) → is_in x (x ∷ xs) ≡ true
    here d = rw (same_test x) refl

    alone : least_by f xs ≡ None → x ≡ c → IsLeastBy f (x ∷ xs) c
    alone g same = record {
      there = subst (λ m. is_in m (x ∷ xs) ≡ true) same (here x);
      first = λ d i n.
          let none = ap (λ (ys : List ℕ). is_in d ys) (least_none f xs g) in
          let j = behind x d xs i (λ s. n (s ∙ same)) in
          absurd cc;
    }

    front : (m : ℕ) → IsLeastBy f xs m → f x ≤ f m → x ≡ c → IsLeastBy f (x ∷ xs) c
    front m l h same = record {
      there = subst (λ k. is_in k (x ∷ xs) ≡ true) same (here x);
      first = λ d i n.
          let j = behind x d xs i (λ s. n (s ∙ same)) in
          subst (λ k. goes_first (Some (f k)) k (Some (f d)) d ≡ true) same
          (goes (f x) (f d) x d (less m l h d j (m == d) refl) (r.0 d j));
    }
      where
        less : (m : ℕ) → IsLeastBy f xs m → f x ≤ f m → (d : ℕ) → is_in d xs ≡ true → (b : Bool) → (m == d) ≡ b → f x ≤ f d
        less m l h d j true e = let same : m ≡ d = grind (arith, nat_tests, e) in let equal = ap f same in omega arith
        less m l h d j false e = let one = time_before (f m) (f d) m d (l.first d j (λ s. grind (arith, nat_tests, e, s))) in omega arith

    later : (m : ℕ) → IsLeastBy f xs m → f m < f x → m ≡ c → IsLeastBy f (x ∷ xs) c
    later m l h same = record {
      there = subst (λ k. is_in k (x ∷ xs) ≡ true) same (in_more x m xs l.there);
      first = λ d i n. subst (λ k. goes_first (Some (f k)) k (Some (f d)) d ≡ true) same (each d i (λ s. n (s ∙ same)) (x == d) refl);
    }
      where
        each : (d : ℕ) → is_in d (x ∷ xs) ≡ true → (d ≡ m → ⊥) → (b : Bool) → (x == d) ≡ b → goes_first (Some (f m)) m (Some (f d)) d ≡ true
        each d i n true e =
            let same_d : x ≡ d = grind (arith, nat_tests, e) in
            let equal = ap f same_d in
            goes_less (f m) (f d) m d (omega arith)
        each d i n false e = l.first d (behind x d xs i (λ s. grind (arith, nat_tests, e, s))) n

    either : (m : ℕ) → IsLeastBy f xs m → (b : Bool) → nat_le (f x) (f m) ≡ b → (if b then Some x else Some m) ≡ Some c → IsLeastBy f (x ∷ xs) c
    either m l true g k = front m l (grind (arith, nat_tests, g)) (number_is x c k)
    either m l false g k = later m l (grind (arith, nat_tests, g)) (number_is m c k)

    go : (o : Option ℕ) → least_by f xs ≡ o → elim o [ None ↦ Some x | Some d ↦ if nat_le (f x) (f d) then Some x else Some d ] ≡ Some c
        → ((d : ℕ) → least_by f xs ≡ Some d → IsLeastBy f xs d) → IsLeastBy f (x ∷ xs) c
    go None g k rest = alone g (number_is x c k)
    go (Some m) g k rest = either m (rest m g) (nat_le (f x) (f m)) refl k

-- two firsts of the same classes are one
opposite : (a b c d : ℕ) → goes_first (Some a) c (Some b) d ≡ true → goes_first (Some b) d (Some a) c ≡ true → ⊥
opposite a b c d g k =
    let one = time_before a b c d g in
    let two = time_before b a d c k in
    go (nat_lt a b) (nat_lt b a) refl refl g k
  where
    go : (p q : Bool) → nat_lt a b ≡ p → nat_lt b a ≡ q → (if p then true else if q then false else nat_lt c d) ≡ true → (if q then true else if p then false else nat_lt d c) ≡ true → ⊥
    go true true e f r s = grind (arith, nat_tests, e, f)
    go true false e f r s = cc
    go false true e f r s = cc
    go false false e f r s = grind (arith, nat_tests, r, s)

same_first : (f : ℕ → ℕ) (xs ys : List ℕ) (test : ℕ → Bool) (c d : ℕ) → ((e : ℕ) → is_in e ys ≡ (is_in e xs && test e)) → IsFirstThat (λ e. Some (f e)) test xs c → IsLeastBy f ys d → c ≡ d
same_first f xs ys test c d is one two = go (c == d) refl
  where
    go : (b : Bool) → (c == d) ≡ b → c ≡ d
    go true e = grind (arith, nat_tests, e)
    go false e =
        let both = and_true (is_in d xs) (test d) (sym (is d) ∙ two.there) in
        absurd (opposite (f c) (f d) c d
        (one.first d both.0 both.1 (λ s. grind (arith, nat_tests, e, s)))
        (two.first c (is c ∙ true_and (is_in c xs) (test c) one.there one.passes) (λ s. grind (arith, nat_tests, e, s))))

pub found_is_least : (f : ℕ → ℕ) (xs ys : List ℕ) (test : ℕ → Bool) → AreInOrder (λ e. Some (f e)) xs → Rising ys → ((e : ℕ) → is_in e ys ≡ (is_in e xs && test e))
    → find test xs ≡ least_by f ys
found_is_least f xs ys test r s is = go (find test xs) (least_by f ys) refl refl
  where
    go : (o q : Option ℕ) → find test xs ≡ o → least_by f ys ≡ q → o ≡ q
    go None None e g = refl
    go None (Some d) e g =
        let two = least_is f ys d s g in
        let both = and_true (is_in d xs) (test d) (sym (is d) ∙ two.there) in
        absurd (found_none test xs d e both.0 both.1)
    go (Some c) None e g =
        let one = found_first (λ n. Some (f n)) test xs c r e in
        let i = is c ∙ true_and (is_in c xs) (test c) one.there one.passes in
        let no = ap (λ (zs : List ℕ). is_in c zs) (least_none f ys g) in
        absurd cc
    go (Some c) (Some d) e g = ap (λ n. Some n) (same_first f xs ys test c d is (found_first (λ n. Some (f n)) test xs c r e) (least_is f ys d s g))

-- the order of the children
pub order_is : (cs : List HfscClass) (h : HfscHistory) (last p : ℕ) (nodes : List Node) (g : Group) → Stand cs h last p nodes → GroupHolds nodes p g
    → IsOrderOf (λ c. Some (virtual_time cs h c)) (λ c. is_child cs p c && active cs h c) (order_of g.times)
order_is cs h last p nodes g s holds =
    is_order (keys_of g.times) (λ c. Some (virtual_time cs h c)) (λ c. is_child cs p c && active cs h c) (order_of g.times) g.times.ranked
    (λ c. in_list cs h last p nodes time_key g.times c s holds.times)
    (λ d a. let both = and_true (is_child cs p d) (active cs h d) a in
    let n = child_node cs h last p nodes d s both.0 in
    holds.times.keys d (sym (holds.times.exactly d) ∙ in_list cs h last p nodes time_key g.times d s holds.times ∙ a)
    ∙ ap (λ m. Some m) (ap time_in n.at ∙ sym (s.each d n.node n.at both.0).time))

-- the first child that is open is the one of least virtual time among those below which a leaf may be served
pub child_picked : (cs : List HfscClass) (h : HfscHistory) (last now c : ℕ) (nodes : List Node) (g : Group) → IsTree cs → last ≤ now → Stand cs h last c nodes → GroupHolds nodes c g
    → ((x : ℕ) → is_under cs x c ≡ true → (x ≡ c → ⊥) → is_within cs h now x ≡ true) → opens_under cs h now c ≡ true
    → first_open now g ≡ least_by (virtual_time cs h) (filter (shares_under cs h now) (filter (is_child cs c) (numbers cs)))
child_picked cs h last now c nodes g t later s holds led o =
    found_is_least (virtual_time cs h) (order_of g.times) (filter (shares_under cs h now) (filter (is_child cs c) (numbers cs)))
    (λ e. has_come (key_of (late_keys g.moments) e) now) (order_is cs h last c nodes g s holds).in_order
    (filter_rises (shares_under cs h now) (filter (is_child cs c) (numbers cs)) (filter_rises (is_child cs c) (numbers cs) (range_rises 0 (length cs)))) same
  where
    shares_is : (e : ℕ) → is_child cs c e ≡ true → shares_under cs h now e ≡ opens_under cs h now e
    shares_is e k = shares_opens cs h now e t (child_led cs h now c e t led o k)

    opens_active : (e : ℕ) → opens_under cs h now e ≡ true → active cs h e ≡ true
    opens_active e k = let x = opens_is cs h now e k in is_active cs h e x.one x.opens.waits

    each : (e : ℕ) (a b : Bool) → is_child cs c e ≡ a → active cs h e ≡ b → (shares_under cs h now e && a) ≡ ((a && b) && has_come (key_of (late_keys g.moments) e) now)
    each e false b k a = nothing (shares_under cs h now e)
      where
        nothing : (v : Bool) → (v && false) ≡ false
        nothing true = refl
        nothing false = refl
    each e true true k a = whole (shares_under cs h now e) ∙ shares_is e k ∙ sym (key_opens cs h last c now nodes g.moments e s holds.moments later k a)
      where
        whole : (v : Bool) → (v && true) ≡ v
        whole true = refl
        whole false = refl
    each e true false k a = go (shares_under cs h now e) refl
      where
        go : (v : Bool) → shares_under cs h now e ≡ v → (v && true) ≡ false
        go true f = let yes = opens_active e (sym (shares_is e k) ∙ f) in absurd cc
        go false f = refl

    same : (e : ℕ) → is_in e (filter (shares_under cs h now) (filter (is_child cs c) (numbers cs))) ≡ (is_in e (order_of g.times) && has_come (key_of (late_keys g.moments) e) now)
    same e =
        in_filter (shares_under cs h now) e (filter (is_child cs c) (numbers cs)) ∙ ap (λ b. shares_under cs h now e && b) (child_in cs c e)
        ∙ each e (is_child cs c e) (active cs h e) refl refl
        ∙ ap (λ b. b && has_come (key_of (late_keys g.moments) e) now) (sym (in_list cs h last c nodes time_key g.times e s holds.times))

-- what a value that stands for a history says of its nodes and groups
pub stands_stand : (s : Shares) (cs : List HfscClass) (h : HfscHistory) (p : ℕ) → Represents s cs h → Stand cs h s.woken p s.nodes.items
stands_stand s cs h p stands = record {
  count = stands.count;
  parents = λ c. go c (slice_get s.nodes.items c) refl;
  each = λ c x at k. stands.each c x at;
}
  where
    go : (c : ℕ) (o : Option Node) → slice_get s.nodes.items c ≡ o → parent_in o ≡ (class_of cs c).parent
    go c None e = outside_parent s.nodes.items cs c stands.count e
    go c (Some x) e = (stands.each c x e).parent

no_group : (xs : List Group) (i : ℕ) → i < length xs → slice_get xs i ≡ None → ⊥
no_group [] i k e = absurd (omega arith)
no_group (x ∷ xs) zero k e = absurd cc
no_group (x ∷ xs) (suc i) k e = no_group xs i (omega arith) e

pub down_is : (s : Shares) (cs : List HfscClass) (h : HfscHistory) (now : ℕ) → Represents s cs h → s.woken ≤ now → (levels c : ℕ)
    → ((x : ℕ) → is_under cs x c ≡ true → (x ≡ c → ⊥) → is_within cs h now x ≡ true) → opens_under cs h now c ≡ true
    → down levels s.groups.items now c ≡ path_down levels cs h now c
down_is s cs h now stands later zero c led o = refl
down_is s cs h now stands later (suc levels) c led o = go (child_of s.groups.items now c) picked (λ d l q. down_is s cs h now stands later levels d l q)
  where
    low : c < length s.groups.items
    low =
        let x = opens_is cs h now c o in
        let w = waits_is cs h c x.one x.opens.waits in
        let over = under_low cs c x.one stands.classes.tree w.under in
        let one = w.low in
        let two = stands.count in
        let three = s.groups_hold.count in
        omega arith

    with_group : (g : Option Group) → slice_get s.groups.items c ≡ g → child_of s.groups.items now c ≡ least_by (virtual_time cs h) (filter (shares_under cs h now) (filter (is_child cs c) (numbers cs)))
    with_group None e = absurd (no_group s.groups.items c low e)
    with_group (Some g) e =
        ap {B = Option ℕ} (λ (x : Option Group). elim x [ None ↦ None | Some y ↦ first_open now y ]) e
        ∙ child_picked cs h s.woken now c s.nodes.items g stands.classes.tree later (stands_stand s cs h c stands) (s.groups_hold.each c g e) led o

    picked : child_of s.groups.items now c ≡ least_by (virtual_time cs h) (filter (shares_under cs h now) (filter (is_child cs c) (numbers cs)))
    picked = with_group (slice_get s.groups.items c) refl

    go : (q : Option ℕ) → q ≡ least_by (virtual_time cs h) (filter (shares_under cs h now) (filter (is_child cs c) (numbers cs)))
        → ((d : ℕ) → ((x : ℕ) → is_under cs x d ≡ true → (x ≡ d → ⊥) → is_within cs h now x ≡ true) → opens_under cs h now d ≡ true → down levels s.groups.items now d ≡ path_down levels cs h now d)
        → ◌≡◌ {A = ℕ} (elim q [ None ↦ c | Some d ↦ down levels s.groups.items now d ])
        (elim (least_by (virtual_time cs h) (filter (shares_under cs h now) (filter (is_child cs c) (numbers cs)))) [ None ↦ c | Some d ↦ path_down levels cs h now d ])
    go None e rest = ap {B = ℕ} (λ (x : Option ℕ). elim x [ None ↦ c | Some d ↦ path_down levels cs h now d ]) e
    go (Some d) e rest =
        let l = least_is (virtual_time cs h) (filter (shares_under cs h now) (filter (is_child cs c) (numbers cs))) d
        (filter_rises (shares_under cs h now) (filter (is_child cs c) (numbers cs)) (filter_rises (is_child cs c) (numbers cs) (range_rises 0 (length cs)))) (sym e) in
        let both = and_true (shares_under cs h now d) (is_in d (filter (is_child cs c) (numbers cs))) (sym (in_filter (shares_under cs h now) d (filter (is_child cs c) (numbers cs))) ∙ l.there) in
        let child = sym (child_in cs c d) ∙ both.1 in
        let led_d = child_led cs h now c d stands.classes.tree led o child in
        rest d led_d (sym (shares_opens cs h now d stands.classes.tree led_d) ∙ both.0)
        ∙ ap {B = ℕ} (λ (x : Option ℕ). elim x [ None ↦ c | Some m ↦ path_down levels cs h now m ]) e

-- the root
root_shares : (cs : List HfscClass) (h : HfscHistory) (now : ℕ) → IsTree cs → shares_under cs h now 0 ≡ opens_under cs h now 0
root_shares cs h now t = shares_opens cs h now 0 t (root_led cs h now t)

idle_closed : (cs : List HfscClass) (h : HfscHistory) (now c : ℕ) → active cs h c ≡ false → opens_under cs h now c ≡ false
idle_closed cs h now c a = go (opens_under cs h now c) refl
  where
    go : (b : Bool) → opens_under cs h now c ≡ b → b ≡ false
    go true e = let x = opens_is cs h now c e in let yes = is_active cs h c x.one x.opens.waits in absurd cc
    go false e = refl

pub root_active : (s : Shares) (cs : List HfscClass) (h : HfscHistory) → Represents s cs h → active cs h 0 ≡ is_active_at s 0
root_active s cs h stands = go (slice_get s.nodes.items 0) refl
  where
    none : (ks : List HfscClass) → length ks ≡ 0 → active ks h 0 ≡ false
    none [] e = refl
    none (k ∷ ks) e = absurd (omega arith)

    empty : (xs : List Node) → slice_get xs 0 ≡ None → length xs ≡ 0
    empty [] e = refl
    empty (x ∷ xs) e = absurd cc

    go : (o : Option Node) → slice_get s.nodes.items 0 ≡ o → active cs h 0 ≡ active_in o
    go None e = none cs (sym stands.count ∙ empty s.nodes.items e)
    go (Some x) e = (stands.each 0 x e).active

root_opens : (s : Shares) (cs : List HfscClass) (h : HfscHistory) → Represents s cs h → is_active_at s 0 ≡ true → OpensAt cs h s.woken 0 (opens_in (slice_get s.nodes.items 0))
root_opens s cs h stands a = go (slice_get s.nodes.items 0) refl a
  where
    go : (o : Option Node) → slice_get s.nodes.items 0 ≡ o → active_in o ≡ true → OpensAt cs h s.woken 0 (opens_in o)
    go None e b = absurd cc
    go (Some x) e b = (stands.each 0 x e).opens b

pub pick_is : (s : Shares) (cs : List HfscClass) (h : HfscHistory) (now : ℕ) → Represents s cs h → last_wake s ≤ now → pick_now s now ≡ share_pick cs h now
pick_is s cs h now stands later = go (is_active_at s 0) refl
  where
    tree : IsTree cs
    tree = stands.classes.tree

    share : (b : Bool) → shares_under cs h now 0 ≡ b → (if b then Some (path_down 8 cs h now 0) else None) ≡ share_pick cs h now
    share b e = sym (ap (λ v. if v then Some (path_down 8 cs h now 0) else None) e)

    open_case : is_active_at s 0 ≡ true → (b : Bool) → has_come (opens_in (slice_get s.nodes.items 0)) now ≡ b
        → (if b then Some (down 8 s.groups.items now 0) else None) ≡ share_pick cs h now
    open_case a true e =
        let o = (root_opens s cs h stands a).from now later ∙ e in
        ap (λ n. Some n) (down_is s cs h now stands later 8 0 (root_led cs h now tree) o) ∙ share true (root_shares cs h now tree ∙ o)
    open_case a false e = share false (root_shares cs h now tree ∙ (root_opens s cs h stands a).from now later ∙ e)

    go : (b : Bool) → is_active_at s 0 ≡ b
        → (if b then (if has_come (opens_in (slice_get s.nodes.items 0)) now then Some (down 8 s.groups.items now 0) else None) else None) ≡ share_pick cs h now
    go true a = open_case a (has_come (opens_in (slice_get s.nodes.items 0)) now) refl
    go false a = share false (root_shares cs h now tree ∙ idle_closed cs h now 0 (root_active s cs h stands ∙ a))

-- the soonest moment
none_soonest : (s : Shares) (cs : List HfscClass) (h : HfscHistory) → Represents s cs h → is_active_at s 0 ≡ false → IsSoonest cs h (last_wake s) None
none_soonest s cs h stands a = record {
  some = (λ e. absurd cc, λ e. let is = root_active s cs h stands in absurd cc);
  from = λ now later. root_shares cs h now stands.classes.tree ∙ idle_closed cs h now 0 (root_active s cs h stands ∙ a);
  later = tt;
}

some_soonest : (s : Shares) (cs : List HfscClass) (h : HfscHistory) (t : ℕ) → Represents s cs h → is_active_at s 0 ≡ true → opens_in (slice_get s.nodes.items 0) ≡ Some t
    → IsSoonest cs h (last_wake s) (Some (max s.woken t))
some_soonest s cs h t stands a e = record {
  some = (λ f. root_active s cs h stands ∙ a, λ f. refl);
  from = λ now later.
      root_shares cs h now stands.classes.tree ∙ (root_opens s cs h stands a).from now later ∙ ap (λ (o : Option ℕ). has_come o now) e ∙ same now later;
  later = omega arith;
}
  where
    same : (now : ℕ) → s.woken ≤ now → nat_le t now ≡ nat_le (max s.woken t) now
    same now later = go (nat_le t now) refl
      where
        go : (b : Bool) → nat_le t now ≡ b → b ≡ nat_le (max s.woken t) now
        go true f = grind (arith, nat_tests, f, later)
        go false f = grind (arith, nat_tests, f, later)

pub soonest_is : (s : Shares) (cs : List HfscClass) (h : HfscHistory) → Represents s cs h → IsSoonest cs h (last_wake s) (soonest_now s)
soonest_is s cs h stands = go (is_active_at s 0) refl
  where
    open_case : is_active_at s 0 ≡ true → (o : Option ℕ) → opens_in (slice_get s.nodes.items 0) ≡ o → IsSoonest cs h (last_wake s) (not_before s.woken o)
    open_case a None e = let some = (root_opens s cs h stands a).some in let no = ap is_some e in absurd cc
    open_case a (Some t) e = some_soonest s cs h t stands a e

    go : (b : Bool) → is_active_at s 0 ≡ b → IsSoonest cs h (last_wake s) (if b then not_before s.woken (opens_in (slice_get s.nodes.items 0)) else None)
    go true a = open_case a (opens_in (slice_get s.nodes.items 0)) refl
    go false a = none_soonest s cs h stands a

-- what stands in the list by virtual time has a place for its moment
pub has_keys : (nodes : List Node) (p : ℕ) (g : Group) → GroupHolds nodes p g → (c : ℕ) → is_in c (order_of g.times) ≡ true → HasLatePlace g.moments c
has_keys nodes p g holds c i = holds.moments.places c (and_true (is_child_in nodes p c) (active_in (slice_get nodes c)) (sym (holds.times.exactly c) ∙ i)).0

-- the first child that is open is a class
pub first_low : (nodes : List Node) (p now c : ℕ) (g : Group) → GroupHolds nodes p g → first_open now g ≡ Some c → c < length nodes
first_low nodes p now c g holds e = ranked_low nodes p c time_key g.times holds.times (found_in (λ d. has_come (key_of (late_keys g.moments) d) now) (order_of g.times) c e)
  where
    found_in : (test : ℕ → Bool) (xs : List ℕ) (d : ℕ) → find test xs ≡ Some d → is_in d xs ≡ true
    found_in test [] d f = absurd cc
    found_in test (x ∷ xs) d f = go (test x) f (found_in test xs d)
      where
        go : (b : Bool) → cond b (Some x) (find test xs) ≡ Some d → (find test xs ≡ Some d → is_in d xs ≡ true) → is_in d (x ∷ xs) ≡ true
        go true k rest = subst (λ m. is_in m (x ∷ xs) ≡ true) (number_is x d k) (rw (same_test x) refl)
        go false k rest = in_more x d xs (rest k)

child_at : (groups : List Group) (g : Group) (now c : ℕ) → slice_get groups c ≡ Some g → child_of groups now c ≡ first_open now g
child_at groups g now c at = ap {B = Option ℕ} (λ (x : Option Group). elim x [ None ↦ None | Some y ↦ first_open now y ]) at

-- one step down, and none
pub down_more : (groups : List Group) (g : Group) (now c d n m : ℕ) → slice_get groups c ≡ Some g → first_open now g ≡ Some d → m ≡ suc n → down m groups now c ≡ down n groups now d
down_more groups g now c d n m at e is =
    ap (λ k. down k groups now c) is
    ∙ ap {B = ℕ} (λ (o : Option ℕ). elim o [ None ↦ c | Some f ↦ down n groups now f ]) (child_at groups g now c at ∙ e)

pub down_none : (groups : List Group) (g : Group) (now c m : ℕ) → slice_get groups c ≡ Some g → first_open now g ≡ None → down m groups now c ≡ c
down_none groups g now c zero at e = refl
down_none groups g now c (suc n) at e =
    ap {B = ℕ} (λ (o : Option ℕ). elim o [ None ↦ c | Some f ↦ down n groups now f ]) (child_at groups g now c at ∙ e)
