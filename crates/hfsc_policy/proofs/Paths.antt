-- What is chosen is a leaf that may send.
use Rattle.std.proofs.Common.{◌≡◌, ◌≤◌, ◌<◌, ◌+◌, ◌⊎◌, inl, inr, ℕ, zero, suc, Bool, true, false, List, [], ◌∷◌, None, Some, length, refl, ap, sym, subst, arith, ◌∙◌}
use Rattle.std.specs.Prelude.{Option, ◌==◌, ◌&&◌, ◌||◌, nat_le, nat_lt, not, if◌then◌else◌, MatchOption}
use Rattle.std.specs.List.{filter}
use Rattle.std.proofs.lemmas.Bool.{cases_eq}
use Rattle.std.proofs.lemmas.Bool.Decides.{nat_tests}
use Rattle.service_curve.specs.declared.Curve.{Curve}
use Rattle.runtime_curve.specs.Opening.{eligible_curve}
use Rattle.runtime_curve.specs.Deadline.{reaches}
use Rattle.altq_model.specs.Play.{IsOneOf}
use Rattle.hfsc_model.specs.declared.HfscClass.{HfscClass}
use Rattle.hfsc_model.specs.Event.{HfscHistory}
use Rattle.hfsc_model.specs.Leaf.{leaf, is_waiting}
use Rattle.hfsc_model.specs.Tree.{class_of, numbers, is_child, is_leaf, is_parent, is_under, path, path_up, reals, IsTree}
use Rattle.hfsc_model.specs.RealTime.{curve_of, unless_zero, is_eligible, real_pick, IsEligible, IsRealPick, NoneIsEligible}
use Rattle.hfsc_model.specs.Share.{virtual_time}
use Rattle.hfsc_model.specs.Limit.{is_open, may_share, shares_under, least_by, path_down, share_pick}
use Rattle.hfsc_model.specs.Choice.{choice, first_choice, by_real_time, by_share, may_send, Choice}
use Rattle.hfsc_laws.proofs.Picking.{computed}
use Rattle.hfsc_laws.proofs.Tree.{IsAny, and_true, true_and, any_is, is_any, child_within, parent_of, under_self, below_is, under_up}
use Rattle.hfsc_policy.specs.Classes.{IsClassTree}
use Rattle.hfsc_policy.proofs.Lists.{kept_is, is_kept, in_range}
use Rattle.hfsc_policy.proofs.Offers.{leaf_below}

-- the class of least virtual time is one of the list, and there is one where the list is not empty
abbrev IsLeast : List ℕ → Option ℕ → Type 0
IsLeast xs o = MatchOption o (xs ≡ []) (λ d. IsOneOf d xs)

least_is : (f : ℕ → ℕ) (xs : List ℕ) → IsLeast xs (least_by f xs)
least_is f [] = refl
least_is f (x ∷ xs) = go (least_by f xs) (least_is f xs)
  where
    go : (o : Option ℕ) → IsLeast xs o → IsLeast (x ∷ xs) (elim o [ None ↦ Some x | Some d ↦ if nat_le (f x) (f d) then Some x else Some d ])
    go None e = inl refl
    go (Some d) i = test (nat_le (f x) (f d))
      where
        test : (b : Bool) → IsLeast (x ∷ xs) (if b then Some x else Some d)
        test true = inl refl
        test false = inr i

-- a class stands under the root, and its path is one longer than that of its parent
path_bound : (n : ℕ) (cs : List HfscClass) (o : Option ℕ) → length (path_up n cs o) ≤ n
path_bound zero cs o = omega arith
path_bound (suc n) cs None = omega arith
path_bound (suc n) cs (Some c) = let rest = path_bound n cs (class_of cs c).parent in omega arith

longer : (cs : List HfscClass) (c p : ℕ) → IsTree cs → (class_of cs c).parent ≡ Some p → length (path cs c) ≡ length (path cs p) + 1
longer cs c p t e =
    let same = sym (t.levels c) ∙ ap (λ (o : Option ℕ). c ∷ path_up 8 cs o) e in
    ap (λ (xs : List ℕ). length xs) same ∙ omega arith

pub root_under : (n : ℕ) (cs : List HfscClass) (c : ℕ) → IsClassTree cs → c < n → c < length cs → is_under cs 0 c ≡ true
root_under zero cs c k h l = absurd (omega arith)
root_under (suc n) cs zero k h l = under_self cs 0
root_under (suc n) cs (suc c) k h l = go (class_of cs (suc c)).parent refl (k.one_root (suc c) (omega arith) l) (λ p. root_under n cs p k)
  where
    either : (a b : Bool) → b ≡ true → (a || b) ≡ true
    either true b e = refl
    either false b e = e

    go : (o : Option ℕ) → (class_of cs (suc c)).parent ≡ o → (elim o [ None ↦ false | Some p ↦ true ]) ≡ true
        → ((p : ℕ) → p < n → p < length cs → is_under cs 0 p ≡ true) → is_under cs 0 (suc c) ≡ true
    go None e f rest = absurd cc
    go (Some p) e f rest =
        let low = k.tree.earlier (suc c) p e in
        under_up cs 0 (suc c) p k.tree e ∙ either (suc c == 0) (is_under cs 0 p) (rest p (omega arith) (omega arith))

-- down from a class under which a leaf may share the path ends at such a leaf
shares_child : (cs : List HfscClass) (h : HfscHistory) (now c : ℕ) → IsTree cs → shares_under cs h now c ≡ true
    → filter (shares_under cs h now) (filter (is_child cs c) (numbers cs)) ≡ [] → may_share cs h now c ≡ true
shares_child cs h now c t s none = go (cases_eq x.one c)
  where
    x : IsAny (λ d. is_under cs c d && may_share cs h now d) 0 (length cs)
    x = any_is (λ d. is_under cs c d && may_share cs h now d) 0 (length cs) s

    both : (is_under cs c x.one ≡ true) × (may_share cs h now x.one ≡ true)
    both = and_true (is_under cs c x.one) (may_share cs h now x.one) x.passes

    go : (x.one ≡ c) ⊎ (x.one ≡ c → ⊥) → may_share cs h now c ≡ true
    go (inl e) = ap (may_share cs h now) (sym e) ∙ both.1
    go (inr n) =
        let b = below_is cs c x.one t both.0 n in
        let shares = is_any (λ d. is_under cs b.child d && may_share cs h now d) 0 (length cs) x.one x.from x.to
        (true_and (is_under cs b.child x.one) (may_share cs h now x.one) b.under both.1) in
        let low = child_within cs c b.child b.of in
        let there = is_kept (shares_under cs h now) (filter (is_child cs c) (numbers cs)) b.child shares
        (is_kept (is_child cs c) (numbers cs) b.child b.of (in_range 0 (length cs) b.child (omega arith) (omega arith))) in
        absurd (subst (λ (xs : List ℕ). IsOneOf b.child xs) none there)

down_ends : (levels : ℕ) (cs : List HfscClass) (h : HfscHistory) (now c : ℕ) → IsTree cs → 9 ≤ levels + length (path cs c) → shares_under cs h now c ≡ true
    → may_share cs h now (path_down levels cs h now c) ≡ true
down_ends zero cs h now c t deep s = let most = path_bound 8 cs (Some c) in absurd (omega (arith, most, deep))
down_ends (suc levels) cs h now c t deep s =
    go (least_by (virtual_time cs h) sharers) (least_is (virtual_time cs h) sharers) (λ d. down_ends levels cs h now d t)
  where
    sharers : List ℕ
    sharers = filter (shares_under cs h now) (filter (is_child cs c) (numbers cs))

    go : (o : Option ℕ) → IsLeast (filter (shares_under cs h now) (filter (is_child cs c) (numbers cs))) o
        → ((d : ℕ) → 9 ≤ levels + length (path cs d) → shares_under cs h now d ≡ true → may_share cs h now (path_down levels cs h now d) ≡ true)
        → may_share cs h now (elim o [ None ↦ c | Some d ↦ path_down levels cs h now d ]) ≡ true
    go None e rest = shares_child cs h now c t s e
    go (Some d) i rest =
        let one = kept_is (shares_under cs h now) (filter (is_child cs c) (numbers cs)) d i in
        let two = kept_is (is_child cs c) (numbers cs) d one.1 in
        let more = longer cs d c t (parent_of cs c d two.0) in
        rest d (omega (arith, more, deep)) one.0

-- a class that is sent: a leaf that waits and may send
pub record IsSender (cs : List HfscClass) (h : HfscHistory) (now c : ℕ) : Type 0 where
  pub is_leaf : is_leaf cs c ≡ true
  pub waits : is_waiting (leaf h c).waiting ≡ true
  pub may : may_send cs h now c ≡ true

or_right : (a b : Bool) → b ≡ true → (a || b) ≡ true
or_right true b e = refl
or_right false b e = e

or_left : (a b : Bool) → a ≡ true → (a || b) ≡ true
or_left true b e = refl
or_left false b e = absurd cc

sharing : (cs : List HfscClass) (h : HfscHistory) (now c : ℕ) → may_share cs h now c ≡ true → IsSender cs h now c
sharing cs h now c e =
    let one = and_true (is_leaf cs c) (is_waiting (leaf h c).waiting && is_open cs h now c) e in
    let two = and_true (is_waiting (leaf h c).waiting) (is_open cs h now c) one.1 in
    record { is_leaf = one.0; waits = two.0; may = or_right (is_eligible (curve_of (reals cs) c) (leaf h c) now) (may_share cs h now c) e }

pub real_of : (cs : List HfscClass) (c : ℕ) → curve_of (reals cs) c ≡ unless_zero (class_of cs c).real
real_of [] c = refl
real_of (k ∷ ks) zero = refl
real_of (k ∷ ks) (suc c) = real_of ks c

curve_there : (cs : List HfscClass) (c : ℕ) (s : Curve) → IsClassTree cs → curve_of (reals cs) c ≡ Some s → is_leaf cs c ≡ true
curve_there cs c s k e = true_and (nat_lt c (length cs)) (not (is_parent cs c)) (low cs c e) (go (is_parent cs c) refl)
  where
    low : (ks : List HfscClass) (d : ℕ) → curve_of (reals ks) d ≡ Some s → nat_lt d (length ks) ≡ true
    low [] d f = absurd cc
    low (x ∷ xs) zero f = grind (arith, nat_tests)
    low (x ∷ xs) (suc d) f = let rest = low xs d f in grind (arith, nat_tests, rest)

    go : (b : Bool) → is_parent cs c ≡ b → not b ≡ true
    go true f =
        let none = ap unless_zero (k.inside c f) in
        let some = sym (real_of cs c) ∙ e in
        absurd cc
    go false f = refl

pub real_sender : (cs : List HfscClass) (h : HfscHistory) (now c : ℕ) → IsClassTree cs → IsEligible (reals cs) h now c → IsSender cs h now c
real_sender cs h now c k e = go (curve_of (reals cs) c) refl
  where
    go : (o : Option Curve) → curve_of (reals cs) c ≡ o → IsSender cs h now c
    go None f =
        let no : is_eligible None (leaf h c) now ≡ true = ap (λ (o : Option Curve). is_eligible o (leaf h c) now) (sym f) ∙ e in
        absurd cc
    go (Some s) f =
        let yes : is_eligible (Some s) (leaf h c) now ≡ true = ap (λ (o : Option Curve). is_eligible o (leaf h c) now) (sym f) ∙ e in
        record {
          is_leaf = curve_there cs c s k f;
          waits = (and_true (is_waiting (leaf h c).waiting) (reaches (eligible_curve s) (leaf h c).openings now (leaf h c).count) yes).0;
          may = or_left (is_eligible (curve_of (reals cs) c) (leaf h c) now) (may_share cs h now c) e;
        }

-- where some leaf may send, a leaf that may is chosen
pub record IsChoice (cs : List HfscClass) (h : HfscHistory) (now : ℕ) : Type 0 where
  pub chosen : Choice
  pub is : choice cs h now ≡ Some chosen
  pub sender : IsSender cs h now chosen.class
  pub by_real_time : chosen.real ≡ true → IsRealPick (reals cs) h now chosen.class
  pub by_share : chosen.real ≡ false → NoneIsEligible (reals cs) h now

pub shares_of : (cs : List HfscClass) (h : HfscHistory) (now c : ℕ) → IsClassTree cs → NoneIsEligible (reals cs) h now → IsSender cs h now c → shares_under cs h now 0 ≡ true
shares_of cs h now c k none x = go (is_eligible (curve_of (reals cs) c) (leaf h c) now) refl x.may
  where
    go : (b : Bool) → is_eligible (curve_of (reals cs) c) (leaf h c) now ≡ b → (b || may_share cs h now c) ≡ true → shares_under cs h now 0 ≡ true
    go true e f = absurd (none c e)
    go false e f =
        let low = leaf_below cs c x.is_leaf in
        is_any (λ d. is_under cs 0 d && may_share cs h now d) 0 (length cs) c (omega arith) (omega arith)
        (true_and (is_under cs 0 c) (may_share cs h now c) (root_under (suc c) cs c k (omega arith) low) f)

pub share_picked : (cs : List HfscClass) (h : HfscHistory) (now : ℕ) → shares_under cs h now 0 ≡ true → share_pick cs h now ≡ Some (path_down 8 cs h now 0)
share_picked cs h now e = rw e refl

-- where some path is open the leaf of least virtual time may send
pub open_sender : (cs : List HfscClass) (h : HfscHistory) (now : ℕ) → IsClassTree cs → shares_under cs h now 0 ≡ true → IsSender cs h now (path_down 8 cs h now 0)
open_sender cs h now k e = sharing cs h now (path_down 8 cs h now 0) (down_ends 8 cs h now 0 k.tree (omega (arith, root_deep)) e)
  where
    root_deep : length (path cs 0) ≡ 1
    root_deep = ap (λ (o : Option ℕ). length (0 ∷ path_up 7 cs o)) k.tree.root ∙ omega arith

pub chosen_may : (cs : List HfscClass) (h : HfscHistory) (now c : ℕ) → IsClassTree cs → IsSender cs h now c → IsChoice cs h now
chosen_may cs h now c k x = go (real_pick (reals cs) h now) refl (computed (reals cs) h now)
  where
    go : (o : Option ℕ) → real_pick (reals cs) h now ≡ o → MatchOption o (NoneIsEligible (reals cs) h now) (IsRealPick (reals cs) h now) → IsChoice cs h now
    go None e none =
        let shares = shares_of cs h now c k none x in
        record {
          chosen = by_share (path_down 8 cs h now 0);
          is = ap (λ (p : Option ℕ). first_choice p (share_pick cs h now)) e ∙ ap (λ (p : Option ℕ). first_choice None p) (share_picked cs h now shares);
          sender = open_sender cs h now k shares;
          by_real_time = λ f. absurd cc;
          by_share = λ f. none;
        }
    go (Some d) e pick = record {
      chosen = by_real_time d;
      is = ap (λ (p : Option ℕ). first_choice p (share_pick cs h now)) e;
      sender = real_sender cs h now d k pick.eligible;
      by_real_time = λ f. pick;
      by_share = λ f. absurd cc;
    }
