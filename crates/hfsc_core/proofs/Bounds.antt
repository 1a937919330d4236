-- No wait is longer than the units that were sent take at the least rate of a limit.
use Rattle.std.proofs.Common.{◌≡◌, ◌≤◌, ◌<◌, ◌+◌, ◌-◌, ◌*◌, ◌^◌, ◌⊎◌, inl, inr, ℕ, Bool, true, false, List, [], ◌∷◌, None, Some, length, refl, arith}
use Rattle.std.specs.Prelude.{Option, ◌&&◌, ◌||◌}
use Rattle.std.specs.List.{list_all}
use Rattle.std.proofs.lemmas.Bool.{cases_lt}
use Rattle.service_curve.specs.declared.Curve.{Curve}
use Rattle.service_curve.specs.Curve.{amount}
use Rattle.service_curve.proofs.Amounts.{mul_mono}
use Rattle.runtime_curve.specs.declared.Opening.{Opening}
use Rattle.runtime_curve.specs.Opening.{Reaches}
use Rattle.runtime_curve.proofs.Reaching.{true_reaches}
use Rattle.hfsc_model.specs.Event.{HfscHistory}
use Rattle.hfsc_model.specs.Leaf.{leaf, is_waiting}
use Rattle.hfsc_model.specs.RealTime.{curve_of, is_eligible, IsOpenBy}
use Rattle.hfsc_model.specs.Share.{total}
use Rattle.hfsc_model.specs.Limit.{arrivals_of, within, is_within, is_open, may_share}
use Rattle.hfsc_model.specs.Tree.{class_of, is_leaf, path, reals}
use Rattle.hfsc_laws.proofs.Tree.{true_and}
use Rattle.hfsc_policy.specs.Classes.{IsLimit}
use Rattle.hfsc_policy.proofs.Few.{are_few}
use Rattle.hfsc_policy.proofs.Offers.{leaf_below}
use Rattle.hfsc_policy.proofs.Paths.{IsSender}
use Rattle.hfsc_policy.proofs.Small.{total_within}
use Rattle.class_rows.specs.Rows.{ClassQueuesView}
use Rattle.hfsc_core.specs.declared.chooser.Chooser.{Chooser}
use Rattle.hfsc_core.specs.declared.chooser.Chosen.{Chosen}
use Rattle.hfsc_core.specs.declared.chooser.Chosen.TheVariants.{Real, Shared, Later, Nothing}
use Rattle.hfsc_core.specs.Chooser.{Represents, classes_of, woken_at}
use Rattle.hfsc_core.specs.Hfsc.{MayAsk}
use Rattle.hfsc_core.proofs.Choosing.{ChosenIs, IsLater}

-- the longest wait, in nanoseconds
abbrev long : ℕ
long = 10 ^ 15 + 8388608 * 10 ^ 12

given_most : (s : Curve) (t u : ℕ) → IsLimit s → long ≤ t → u ≤ 8388608 * 10 ^ 15 → u ≤ amount s t
given_most s t u k l m =
    let bend = k.in_range.bend in
    let more = mul_mono (t - s.d) 1000 s.m2 k.second in
    omega (arith, bend, more, l, m)

limit_reaches : (s : Curve) (os : List Opening) (woken t u : ℕ) → IsLimit s → IsOpenBy os woken → woken + long ≤ t → u ≤ 8388608 * 10 ^ 15 → Reaches s os t u
limit_reaches s [] woken t u k b l m = tt
limit_reaches s (o ∷ os) woken t u k b l m =
    let at = b.0 in
    let most = given_most s (t - o.at) u k (omega (arith, l, at)) m in
    (omega (arith, most), limit_reaches s os woken t u k b.1 l m)

within_at : (o : Option Curve) (os : List Opening) (woken t u : ℕ) → ((s : Curve) → o ≡ Some s → IsLimit s) → IsOpenBy os woken → woken + long ≤ t → u ≤ 8388608 * 10 ^ 15
    → within o os t u ≡ true
within_at None os woken t u k b l m = refl
within_at (Some s) os woken t u k b l m = true_reaches s os t u (limit_reaches s os woken t u (k s refl) b l m)

open_at : (x : Chooser) (h : HfscHistory) (t : ℕ) (up : List ℕ) → Represents x h → woken_at x + long ≤ t → list_all (is_within (classes_of x) h t) up ≡ true
open_at x h t [] s l = refl
open_at x h t (c ∷ up) s l =
    true_and (is_within (classes_of x) h t c) (list_all (is_within (classes_of x) h t) up)
    (within_at (class_of (classes_of x) c).limit (arrivals_of (classes_of x) h c) (woken_at x) t (total (classes_of x) h c) (λ k e. s.tree.limits c k e)
    (s.share.arrivals c) l (total_within (classes_of x) h c (are_few h s.packets s.few)))
    (open_at x h t up s l)

or_right : (a b : Bool) → b ≡ true → (a || b) ≡ true
or_right true b e = refl
or_right false b e = e

may_late : (x : Chooser) (h : HfscHistory) (t u c : ℕ) → Represents x h → woken_at x + long ≤ t → IsSender (classes_of x) h u c → IsSender (classes_of x) h t c
may_late x h t u c s l y = record {
  is_leaf = y.is_leaf;
  waits = y.waits;
  may = or_right (is_eligible (curve_of (reals (classes_of x)) c) (leaf h c) t) (may_share (classes_of x) h t c)
      (true_and (is_leaf (classes_of x) c) (is_waiting (leaf h c).waiting && is_open (classes_of x) h t c) y.is_leaf
      (true_and (is_waiting (leaf h c).waiting) (is_open (classes_of x) h t c) y.waits (open_at x h t (path (classes_of x) c) s l)));
}

pub wait_fits : (x : Chooser) (h : HfscHistory) (now t : ℕ) → Represents x h → woken_at x ≤ now → now < 2 ^ 63 → IsLater (classes_of x) h now t → t < 2 ^ 64
wait_fits x h now t s l early i = go (cases_lt (now + long) t)
  where
    go : (now + long < t) ⊎ (t ≤ now + long) → t < 2 ^ 64
    go (inl m) = absurd (i.none (now + long) (omega arith) m i.sender (may_late x h (now + long) t i.sender s (omega (arith, l)) i.may))
    go (inr m) = omega (arith, m, early)

pub may_ask : {Q : Type 0} (d : ClassQueuesView Q) (x : Chooser) (h : HfscHistory) (now : ℕ) (k : Chosen) → d.first ≡ 0 → length d.queues ≡ length (classes_of x) → Represents x h
    → woken_at x ≤ now → now < 2 ^ 63 → ChosenIs (classes_of x) h now k → MayAsk d k
may_ask d x h now (Real c) f e s l early i = let low = leaf_below (classes_of x) c i.1.is_leaf in (omega (arith, f), omega (arith, low, f, e))
may_ask d x h now (Shared c) f e s l early i = let low = leaf_below (classes_of x) c i.1.is_leaf in (omega (arith, f), omega (arith, low, f, e))
may_ask d x h now (Later t) f e s l early i = wait_fits x h now t s l early i
may_ask d x h now Nothing f e s l early i = tt
