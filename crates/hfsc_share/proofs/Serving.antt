-- A class below which a packet was sent.
use Rattle.std.proofs.Common.{◌≡◌, ◌≤◌, ◌<◌, ◌+◌, ◌⊎◌, inl, inr, ℕ, Bool, true, false, List, [], ◌∷◌, None, Some, refl, ap, sym, subst, arith, ◌∙◌}
use Rattle.std.specs.Prelude.{Option, ◌==◌, ◌&&◌, ◌||◌, ◌^◌, max, is_some, IsSomeAnd, if◌then◌else◌}
use Rattle.std.proofs.lemmas.Bool.Decides.{nat_tests}
use Rattle.std.proofs.lemmas.Bool.{cases_lt}
use Rattle.play_base.specs.Units.{units}
use Rattle.service_curve.specs.declared.Curve.{Curve}
use Rattle.service_curve.specs.Moment.{HasCome}
use Rattle.runtime_curve.specs.declared.Opening.{Opening}
use Rattle.runtime_curve.specs.declared.Running.{Running}
use Rattle.runtime_curve.specs.Opening.{Reaches, opening}
use Rattle.runtime_curve.specs.Deadline.{deadline}
use Rattle.runtime_curve.proofs.Deadlines.{deadline_comes, deadline_came}
use Rattle.ranking.specs.Order.{is_in}
use Rattle.ranking.specs.Ranking.{order_of}
use Rattle.ranking.proofs.Ranks.{same_test}
use Rattle.hfsc_model.specs.declared.HfscClass.{HfscClass}
use Rattle.hfsc_model.specs.Event.{HfscHistory, Enqueued, Sent}
use Rattle.hfsc_model.specs.Leaf.{leaf, is_waiting}
use Rattle.hfsc_model.specs.Tree.{class_of, is_child, is_leaf, is_under, IsTree}
use Rattle.hfsc_model.specs.Share.{active, activates, activation_time, activations, or_zero, total, virtual_time, virtual_time_of}
use Rattle.hfsc_model.specs.Limit.{arrivals_of}
use Rattle.hfsc_laws.proofs.Tree.{same_truth, and_true, true_and, under_is}
use Rattle.hfsc_groups.specs.declared.node.Node.{Node}
use Rattle.hfsc_groups.specs.declared.group.Group.{Group}
use Rattle.hfsc_groups.specs.Curves.{RunningStands, share_of}
use Rattle.hfsc_groups.specs.Classes.{AreSmall, IsClass, IsShare, waits_in}
use Rattle.hfsc_groups.specs.Node.{IsServed}
use Rattle.hfsc_groups.specs.Group.{Ranks, ranked_in, time_key}
use Rattle.hfsc_groups.proofs.Moments.{deadline_some}
use Rattle.hfsc_groups.proofs.Opening.{active_is, is_active, is_waits, waits_is, active_child, leaf_alone}
use Rattle.hfsc_groups.proofs.Children.{Stand, in_list}
use Rattle.hfsc_share.specs.Walk.{has_some}
use Rattle.hfsc_share.proofs.Waking.{NodeHas, shared, unshared}

-- virtual times never fall
more_reaches : (s : Curve) (os : List Opening) (t u v : ℕ) → u ≤ v → Reaches s os t v → Reaches s os t u
more_reaches s [] t u v h r = tt
more_reaches s (o ∷ os) t u v h r = (let one = r.0 in omega arith, more_reaches s os t u v h r.1)

later_moment : (a b : Option ℕ) → is_some a ≡ true → is_some b ≡ true → ((t : ℕ) → HasCome b t → HasCome a t) → or_zero a ≤ or_zero b
later_moment None b e f h = absurd cc
later_moment (Some x) None e f h = absurd cc
later_moment (Some x) (Some y) e f h = h y (omega arith)

deadline_grows : (s : Curve) (os : List Opening) (u v : ℕ) → 1 ≤ s.m2 → u ≤ v → or_zero (deadline s os u) ≤ or_zero (deadline s os v)
deadline_grows s os u v m h =
    later_moment (deadline s os u) (deadline s os v) (deadline_some s os u m) (deadline_some s os v m)
    (λ t c. deadline_comes s os t u (more_reaches s os t u v h (deadline_came s os t v c)))

time_grows : (s : Curve) (os : List Opening) (u v : ℕ) → 1 ≤ s.m2 → u ≤ v
    → max (virtual_time_of (Some s) os u) (or_zero (deadline s os v)) ≡ virtual_time_of (Some s) os v
time_grows s [] u v m h = omega arith
time_grows s (o ∷ os) u v m h = let one = deadline_grows s (o ∷ os) u v m h in omega arith

time_same : (os : List Opening) (u v : ℕ) → virtual_time_of None os u ≡ virtual_time_of None os v
time_same [] u v = refl
time_same (o ∷ os) u v = refl

-- a class without a parent has no activation
root_acts : (cs : List HfscClass) (h : HfscHistory) (c : ℕ) → (class_of cs c).parent ≡ None → activations cs h c ≡ []
root_acts cs [] c e = refl
root_acts cs (Enqueued d at len ∷ h) c e =
    ap (λ (o : Option ℕ). if (elim o [ None ↦ false | Some q ↦ true ]) && activates cs h d c
    then opening (activation_time cs h (activations cs h) c) (total cs h c) ∷ activations cs h c else activations cs h c) e
    ∙ root_acts cs h c e
root_acts cs (Sent d len real start ∷ h) c e = root_acts cs h c e

-- the virtual time with more units
no_running : (r : Option Running) (os : List Opening) → RunningStands r None os → r ≡ None
no_running None os s = refl
no_running (Some r) os s = absurd s

-- every class with a parent has a link-sharing curve
pub is_share : (k : HfscClass) (p : ℕ) (s : Curve) → IsClass k → k.parent ≡ Some p → k.share ≡ Some s → IsShare s
is_share k p s class of is = subst (λ (o : Option Curve). IsSomeAnd o IsShare) is (class.share (ap is_some of))

no_share : (k : HfscClass) (p : ℕ) → IsClass k → k.parent ≡ Some p → k.share ≡ None → ⊥
no_share k p class of is = subst (λ (o : Option Curve). IsSomeAnd o IsShare) is (class.share (ap is_some of))

-- the new virtual time, by the link-sharing curve that the class has
grown : (k : HfscClass) (os : List Opening) (u v : ℕ) (x y : Node) (amount : ℕ) (waits : Bool) → IsClass k → (k.parent ≡ None → os ≡ [])
    → RunningStands x.share (share_of k) os → virtual_time_of k.share os u ≡ x.time → u ≡ x.total → v ≡ y.total → x.active ≡ true → virtual_time_of k.share os v ≤ 2 ^ 79
    → IsServed amount waits x y → u < v → virtual_time_of k.share os v ≡ y.time
grown k os u v x y amount waits class root stands time e f a small r less = go k.parent k.share refl refl
  where
    lone : k.parent ≡ None → virtual_time_of k.share os v ≡ y.time
    lone p =
        ap (λ (ns : List Opening). virtual_time_of k.share ns v) (root p)
        ∙ sym (ap (λ (ns : List Opening). virtual_time_of k.share ns u) (root p)) ∙ time
        ∙ sym (r.none (no_running x.share os (subst (λ (c : Option Curve). RunningStands x.share c os) (unshared k p) stands)))

    by_curve : (p : ℕ) (s : Curve) → k.parent ≡ Some p → k.share ≡ Some s → virtual_time_of k.share os v ≡ y.time
    by_curve p s of is =
        let share : IsShare s = is_share k p s class of is in
        let more = time_grows s os u v share.second (omega arith) in
        let was : virtual_time_of (Some s) os u ≡ x.time = ap (λ (c : Option Curve). virtual_time_of c os u) (sym is) ∙ time in
        let most : virtual_time_of (Some s) os v ≤ 2 ^ 79 = subst (λ (c : Option Curve). virtual_time_of c os v ≤ 2 ^ 79) is small in
        let made = r.grown a (omega (arith, e, f, less)) s os (subst (λ (c : Option Curve). RunningStands x.share c os) (shared k p of ∙ is) stands) in
        let same = ap (λ n. or_zero (deadline s os n)) f in
        ap (λ (c : Option Curve). virtual_time_of c os v) is ∙ (let all = more in omega arith)

    go : (p : Option ℕ) (s : Option Curve) → k.parent ≡ p → k.share ≡ s → virtual_time_of k.share os v ≡ y.time
    go None s e g = lone e
    go (Some p) None e g = absurd (no_share k p class e g)
    go (Some p) (Some s) e g = by_curve p s e g

-- it is active where a packet waits in it or a child is active
has_in : (xs : List ℕ) → has_some xs ≡ true → (c : ℕ) × (is_in c xs ≡ true)
has_in [] e = absurd cc
has_in (x ∷ xs) e = (x, rw (same_test x) refl)

in_has : (xs : List ℕ) (c : ℕ) → is_in c xs ≡ true → has_some xs ≡ true
in_has [] c i = absurd cc
in_has (x ∷ xs) c i = refl

either : (a b : Bool) → (a || b) ≡ true → (a ≡ true) ⊎ (b ≡ true)
either true b e = inl refl
either false b e = inr e

or_left : (a b : Bool) → a ≡ true → (a || b) ≡ true
or_left a b e = rw e refl

or_right : (a b : Bool) → b ≡ true → (a || b) ≡ true
or_right true b e = refl
or_right false b e = e

pub served_active : (cs : List HfscClass) (g : HfscHistory) (last l c : ℕ) (nodes : List Node) (r : Group) → IsTree cs → is_leaf cs l ≡ true → is_under cs c l ≡ true
    → Stand cs g last c nodes → Ranks nodes c time_key r.times
    → active cs g c ≡ (((l == c) && waits_in g l) || has_some (ranked_in r))
served_active cs g last l c nodes r t e u s ranks =
    same_truth (active cs g c) (((l == c) && waits_in g l) || has_some (ranked_in r)) there back
  where
    children : (d : ℕ) → is_in d (order_of r.times) ≡ true → (is_child cs c d ≡ true) × (active cs g d ≡ true)
    children d i = and_true (is_child cs c d) (active cs g d) (sym (in_list cs g last c nodes time_key r.times d s ranks) ∙ i)

    there : active cs g c ≡ true → (((l == c) && waits_in g l) || has_some (ranked_in r)) ≡ true
    there a = go (is_leaf cs c) refl
      where
        go : (b : Bool) → is_leaf cs c ≡ b → (((l == c) && waits_in g l) || has_some (ranked_in r)) ≡ true
        go true f =
            let x = active_is cs g c a in
            let w = waits_is cs g c x.one x.waits in
            let here = leaf_alone cs c x.one t f w.under in
            let leaf_here = leaf_alone cs c l t f u in
            let same : x.one ≡ l = here ∙ sym leaf_here in
            or_left ((l == c) && waits_in g l) (has_some (ranked_in r))
            (true_and (l == c) (waits_in g l) (grind (arith, nat_tests, leaf_here)) (subst (λ m. is_waiting (leaf g m).waiting ≡ true) same w.waiting))
        go false f =
            let x = active_child cs g c t f a in
            or_right ((l == c) && waits_in g l) (has_some (ranked_in r))
            (in_has (order_of r.times) x.child (in_list cs g last c nodes time_key r.times x.child s ranks ∙ true_and (is_child cs c x.child) (active cs g x.child) x.of x.active))

    back : (((l == c) && waits_in g l) || has_some (ranked_in r)) ≡ true → active cs g c ≡ true
    back f = go (either ((l == c) && waits_in g l) (has_some (ranked_in r)) f)
      where
        go : (((l == c) && waits_in g l) ≡ true) ⊎ (has_some (ranked_in r) ≡ true) → active cs g c ≡ true
        go (inl k) = is_active cs g c l (is_waits cs g c l e u (and_true (l == c) (waits_in g l) k).1)
        go (inr k) =
            let x = has_in (order_of r.times) k in
            let both = children x.0 x.1 in
            let y = active_is cs g x.0 both.1 in
            let w = waits_is cs g x.0 y.one y.waits in
            is_active cs g c y.one (is_waits cs g c y.one w.leaf_is (under_is cs c x.0 y.one t both.0 w.under) w.waiting)

-- all that its node stands for, but the moment from which it opens
pub served_has : (cs : List HfscClass) (h : HfscHistory) (l len : ℕ) (real : Bool) (start c : ℕ) (waits : Bool) (x y : Node) → IsClass (class_of cs c)
    → is_under cs c l ≡ true → AreSmall cs (Sent l len real start ∷ h) → NodeHas cs h c x → x.active ≡ true
    → IsServed (units len) waits x y → active cs (Sent l len real start ∷ h) c ≡ waits → NodeHas cs (Sent l len real start ∷ h) c y
served_has cs h l len real start c waits x y class u small s a r w = record {
  parent = r.parent ∙ s.parent;
  share = subst (λ (k : Option Running). RunningStands k (share_of (class_of cs c)) (activations cs h c)) (sym r.share) s.share;
  limit = subst (λ (k : Option Running). RunningStands k (class_of cs c).limit (arrivals_of cs h c)) (sym r.limit) s.limit;
  total = total_is;
  active = w ∙ sym (r.active ∙ ap (λ b. b && waits) a);
  time = go (cases_lt (total cs h c) (total cs (Sent l len real start ∷ h) c));
}
  where
    more : total cs (Sent l len real start ∷ h) c ≡ total cs h c + units len
    more = ap (λ b. if b then total cs h c + units len else total cs h c) u

    total_is : total cs (Sent l len real start ∷ h) c ≡ y.total
    total_is =
        let one = more in
        let most = (small c).units in
        let made = r.total in
        let was = s.total in
        omega arith

    go : (total cs h c < total cs (Sent l len real start ∷ h) c) ⊎ (total cs (Sent l len real start ∷ h) c ≤ total cs h c)
        → virtual_time cs (Sent l len real start ∷ h) c ≡ y.time
    go (inl less) =
        grown (class_of cs c) (activations cs h c) (total cs h c) (total cs (Sent l len real start ∷ h) c) x y (units len) waits class (root_acts cs h c)
        s.share s.time s.total total_is a (small c).time r less
    go (inr k) =
        let one = more in
        let same : total cs (Sent l len real start ∷ h) c ≡ total cs h c = omega arith in
        ap (λ n. virtual_time_of (class_of cs c).share (activations cs h c) n) same ∙ s.time
        ∙ sym (r.same (sym total_is ∙ same ∙ s.total))
