-- The work of two siblings in a stretch.
use Rattle.std.proofs.Common.{◌≡◌, ◌≤◌, ◌<◌, ◌+◌, ◌*◌, ◌⊎◌, inl, inr, ℕ, Bool, true, false, List, [], ◌∷◌, ◌++◌, Some, refl, ap, sym, subst, arith, ◌∙◌}
use Rattle.std.specs.Prelude.{Option, ◌&&◌, not, if◌then◌else◌}
use Rattle.play_base.specs.Units.{units}
use Rattle.service_curve.specs.declared.Curve.{Curve}
use Rattle.runtime_curve.specs.declared.Opening.{Opening}
use Rattle.runtime_curve.specs.Opening.{opening}
use Rattle.hfsc_model.specs.declared.HfscClass.{HfscClass}
use Rattle.hfsc_model.specs.Event.{HfscEvent, HfscHistory, Enqueued, Sent}
use Rattle.hfsc_model.specs.Share.{active, activates, activation_time, activations, has_parent, total, virtual_time, virtual_time_of}
use Rattle.hfsc_model.specs.Tree.{is_child, is_leaf, is_under}
use Rattle.hfsc_order.specs.Order.{HaveSlopes}
use Rattle.fair_shares.specs.Sharing.{AreChoices, HasRate, ShareAlone, most_step}
use Rattle.fair_shares.specs.Fairness.{AreBothActive, AreLinear, DifferBy, IsActiveChild, IsFair, work}
use Rattle.hfsc_laws.proofs.Tree.{true_and}
use Rattle.hfsc_groups.proofs.Opening.{active_is, waits_is}
use Rattle.service_curve.proofs.Amounts.{mul_mono}
use Rattle.fair_shares.proofs.Events.{are_chain, child_has, sent_active, was_or_woken}
use Rattle.fair_shares.proofs.Lines.{IsChain, IsOn, on_line}
use Rattle.fair_shares.proofs.Spread.{are_spread, step_rise}

-- a class that is active already is not activated
no_wake : (cs : List HfscClass) (h : HfscHistory) (l at len c : ℕ) → active cs h c ≡ true → activations cs (Enqueued l at len ∷ h) c ≡ activations cs h c
no_wake cs h l at len c e =
    ap (λ (b : Bool). if b then opening (activation_time cs h (activations cs h) c) (total cs h c) ∷ activations cs h c else activations cs h c)
    (ap (λ b. has_parent cs c && (is_leaf cs l && (is_under cs c l && not b))) e ∙ nothing (has_parent cs c) (is_leaf cs l) (is_under cs c l))
  where
    nothing : (a b d : Bool) → (a && (b && (d && false))) ≡ false
    nothing true true true = refl
    nothing true true false = refl
    nothing true false d = refl
    nothing false b d = refl

-- where a stretch of common activity began: a part of the history after which both are active, with the same activations, and since
-- which each has the work of the stretch
pub record Began (cs : List HfscClass) (es h : HfscHistory) (c d : ℕ) : Type 0 where
  pub part : HfscHistory
  pub first_active : active cs part c ≡ true
  pub second_active : active cs part d ≡ true
  pub first_acts : activations cs (es ++ h) c ≡ activations cs part c
  pub second_acts : activations cs (es ++ h) d ≡ activations cs part d
  pub first_work : total cs es c + total cs part c ≡ total cs (es ++ h) c
  pub second_work : total cs es d + total cs part d ≡ total cs (es ++ h) d
  pub chosen : AreChoices cs (es ++ h) → AreChoices cs part
  pub step : (p : ℕ) → HaveSlopes cs → most_step cs part p ≤ most_step cs (es ++ h) p

one_more : (cs : List HfscClass) (g : HfscHistory) (w t c l len : ℕ) → w + t ≡ total cs g c
    → (if is_under cs c l then w + units len else w) + t ≡ (if is_under cs c l then total cs g c + units len else total cs g c)
one_more cs g w t c l len e = go (is_under cs c l)
  where
    go : (b : Bool) → (if b then w + units len else w) + t ≡ (if b then total cs g c + units len else total cs g c)
    go true = omega (arith, e)
    go false = e

began : (cs : List HfscClass) (e : HfscEvent) (es h : HfscHistory) (c d : ℕ) → AreBothActive cs c d (e ∷ es) h → Began cs (e ∷ es) h c d
began cs (Enqueued l at len) [] h c d both = record {
  part = Enqueued l at len ∷ h;
  first_active = both.0;
  second_active = both.1;
  first_acts = refl;
  second_acts = refl;
  first_work = omega arith;
  second_work = omega arith;
  chosen = λ x. x;
  step = λ p some. omega arith;
}
began cs (Sent l len real start) [] h c d both = record {
  part = h;
  first_active = sent_active cs h l len real start c both.0;
  second_active = sent_active cs h l len real start d both.1;
  first_acts = refl;
  second_acts = refl;
  first_work = one_more cs h 0 (total cs h c) c l len (omega arith);
  second_work = one_more cs h 0 (total cs h d) d l len (omega arith);
  chosen = λ x. x.1;
  step = λ p some. step_rise cs p (Sent l len real start) h some;
}
began cs (Enqueued l at len) (f ∷ es) h c d both =
    let x = began cs f es h c d both.2 in
    record {
      part = x.part;
      first_active = x.first_active;
      second_active = x.second_active;
      first_acts = no_wake cs (f ∷ es ++ h) l at len c both.2.0 ∙ x.first_acts;
      second_acts = no_wake cs (f ∷ es ++ h) l at len d both.2.1 ∙ x.second_acts;
      first_work = x.first_work;
      second_work = x.second_work;
      chosen = x.chosen;
      step = x.step;
    }
began cs (Sent l len real start) (f ∷ es) h c d both =
    let x = began cs f es h c d both.2 in
    record {
      part = x.part;
      first_active = x.first_active;
      second_active = x.second_active;
      first_acts = x.first_acts;
      second_acts = x.second_acts;
      first_work = one_more cs (f ∷ es ++ h) (total cs (f ∷ es) c) (total cs x.part c) c l len x.first_work;
      second_work = one_more cs (f ∷ es ++ h) (total cs (f ∷ es) d) (total cs x.part d) d l len x.second_work;
      chosen = λ y. x.chosen y.1;
      step = λ p some. let one = x.step p some in let two = step_rise cs p (Sent l len real start) (f ∷ es ++ h) some in omega (arith, one, two);
    }

-- the virtual time of an active class rises with its work, within one nanosecond
pub record RisesWith (rate work old new : ℕ) : Type 0 where
  pub above : rate * new < work + rate * old + rate
  pub below : work + rate * old < rate * new + rate

-- an active class has an activation
acts_there : (cs : List HfscClass) (h : HfscHistory) (c : ℕ) → has_parent cs c ≡ true → active cs h c ≡ true → activations cs h c ≡ [] → ⊥
acts_there cs [] c p a e =
    let x = active_is cs [] c a in
    let w = (waits_is cs [] c x.one x.waits).waiting in
    absurd cc
acts_there cs (Sent l len real start ∷ h) c p a e = acts_there cs h c p (sent_active cs h l len real start c a) e
acts_there cs (Enqueued l at len ∷ h) c p a e = go (has_parent cs c && activates cs h l c) refl e (was_or_woken cs h l at len c a) (acts_there cs h c p)
  where
    go : (b : Bool) → (has_parent cs c && activates cs h l c) ≡ b
        → (if b then opening (activation_time cs h (activations cs h) c) (total cs h c) ∷ activations cs h c else activations cs h c) ≡ []
        → (active cs h c ≡ true) ⊎ (activates cs h l c ≡ true) → (active cs h c ≡ true → activations cs h c ≡ [] → ⊥) → ⊥
    go true f g y rest = cc
    go false f g (inl y) rest = rest y g
    go false f g (inr y) rest = let both = true_and (has_parent cs c) (activates cs h l c) p y in absurd cc

rises_on : (r w old new at count u v : ℕ) → IsOn r (opening at count) old u → IsOn r (opening at count) new v → w + old ≡ new → RisesWith r w u v
rises_on r w old new at count u v x y e =
    let xl = x.low in
    let xh = x.high in
    let yl = y.low in
    let yh = y.high in
    record { above = omega (arith, xl, yh, e); below = omega (arith, yl, xh, e) }

rises_with : (cs : List HfscClass) (part g : HfscHistory) (p c r w : ℕ) → HaveSlopes cs → is_child cs p c ≡ true → HasRate cs c r → active cs part c ≡ true
    → activations cs g c ≡ activations cs part c → w + total cs part c ≡ total cs g c → RisesWith r w (virtual_time cs part c) (virtual_time cs g c)
rises_with cs part g p c r w some k x a same e =
    go (activations cs part c) refl (are_chain cs part c r x.curve x.has x.line slope) (are_chain cs g c r x.curve x.has x.line slope)
  where
    slope : 1 ≤ x.curve.m2
    slope = some c x.curve (child_has cs p c k) x.has

    time_is : (h : HfscHistory) (os : List Opening) → activations cs h c ≡ os → virtual_time_of (Some x.curve) os (total cs h c) ≡ virtual_time cs h c
    time_is h os f =
        ap (λ (xs : List Opening). virtual_time_of (Some x.curve) xs (total cs h c)) (sym f)
        ∙ ap (λ (o : Option Curve). virtual_time_of o (activations cs h c) (total cs h c)) (sym x.has)

    go : (os : List Opening) → activations cs part c ≡ os → IsChain r (activations cs part c) (total cs part c) → IsChain r (activations cs g c) (total cs g c)
        → RisesWith r w (virtual_time cs part c) (virtual_time cs g c)
    go [] f y z = absurd (acts_there cs part c (child_has cs p c k) a f)
    go (o ∷ os) f y z =
        let here = on_line x.curve r o os (total cs part c) x.line slope (subst (λ (xs : List Opening). IsChain r xs (total cs part c)) f y) in
        let there = on_line x.curve r o os (total cs g c) x.line slope (subst (λ (xs : List Opening). IsChain r xs (total cs g c)) (same ∙ f) z) in
        rises_on r w (total cs part c) (total cs g c) o.at o.count (virtual_time cs part c) (virtual_time cs g c)
        (subst (λ (v : ℕ). IsOn r o (total cs part c) v) (time_is part (o ∷ os) f) here)
        (subst (λ (v : ℕ). IsOn r o (total cs g c) v) (time_is g (o ∷ os) (same ∙ f)) there) e

-- so the work of one by the rate of the other is not far above that of the other
fair_of : (r q w x old new other_old other_new most : ℕ) → RisesWith r w old new → RisesWith q x other_old other_new
    → new ≤ other_new + most → other_old ≤ old + most → w * q ≤ x * r + (2 * most + 2) * (r * q)
fair_of r q w x old new other_old other_new most a b h k =
    let below = a.below in
    let above = b.above in
    let one = mul_mono q (w + r * old) (r * new + r) (omega (arith, below)) in
    let two = mul_mono r (q * other_new) (x + q * other_old + q) (omega (arith, above)) in
    let three = mul_mono (r * q) new (other_new + most) h in
    let four = mul_mono (r * q) other_old (old + most) k in
    omega (arith, one, two, three, four)

fair_over : (cs : List HfscClass) (e : HfscEvent) (es h : HfscHistory) (p c d r q : ℕ) → ShareAlone cs → AreChoices cs (e ∷ es ++ h) → AreLinear cs p c d r q
    → AreBothActive cs c d (e ∷ es) h
    → DifferBy ((2 * most_step cs (e ∷ es ++ h) p + 2) * (r * q)) (work cs (e ∷ es) c * q) (work cs (e ∷ es) d * r)
fair_over cs e es h p c d r q alone chosen x both =
    let b = began cs e es h c d both in
    let g = e ∷ es ++ h in
    let first_was : IsActiveChild cs b.part p c = record { child = x.first; is_active = b.first_active } in
    let second_was : IsActiveChild cs b.part p d = record { child = x.second; is_active = b.second_active } in
    let first_is : IsActiveChild cs (e ∷ es ++ h) p c = record { child = x.first; is_active = both.0 } in
    let second_is : IsActiveChild cs (e ∷ es ++ h) p d = record { child = x.second; is_active = both.1 } in
    let was = are_spread cs b.part p alone (b.chosen chosen) in
    let now = are_spread cs (e ∷ es ++ h) p alone chosen in
    let step = b.step p alone.slopes in
    let first = rises_with cs b.part (e ∷ es ++ h) p c r (work cs (e ∷ es) c) alone.slopes x.first x.rate_is b.first_active b.first_acts b.first_work in
    let second = rises_with cs b.part (e ∷ es ++ h) p d q (work cs (e ∷ es) d) alone.slopes x.second x.other_is b.second_active b.second_acts b.second_work in
    let c_was = was c d first_was x.second in
    let d_was = was d c second_was x.first in
    let c_is = now c d first_is x.second in
    let d_is = now d c second_is x.first in
    let one = fair_of r q (work cs (e ∷ es) c) (work cs (e ∷ es) d) (virtual_time cs b.part c) (virtual_time cs (e ∷ es ++ h) c) (virtual_time cs b.part d) (virtual_time cs (e ∷ es ++ h) d)
    (most_step cs (e ∷ es ++ h) p) first second (omega (arith, d_is)) (omega (arith, c_was, step)) in
    let two = fair_of q r (work cs (e ∷ es) d) (work cs (e ∷ es) c) (virtual_time cs b.part d) (virtual_time cs (e ∷ es ++ h) d) (virtual_time cs b.part c) (virtual_time cs (e ∷ es ++ h) c)
    (most_step cs (e ∷ es ++ h) p) second first (omega (arith, c_is)) (omega (arith, d_was, step)) in
    record { above = one; below = omega (arith, two) }

fair_after : (cs : List HfscClass) (es h : HfscHistory) (p c d r q : ℕ) → ShareAlone cs → AreChoices cs (es ++ h) → AreLinear cs p c d r q → AreBothActive cs c d es h
    → DifferBy ((2 * most_step cs (es ++ h) p + 2) * (r * q)) (work cs es c * q) (work cs es d * r)
fair_after cs [] h p c d r q alone chosen x both = record { above = omega arith; below = omega arith }
fair_after cs (e ∷ es) h p c d r q alone chosen x both = fair_over cs e es h p c d r q alone chosen x both

-- what came later does not matter
part_chosen : (cs : List HfscClass) (later h : HfscHistory) → AreChoices cs (later ++ h) → AreChoices cs h
part_chosen cs [] h x = x
part_chosen cs (Enqueued l at len ∷ later) h x = part_chosen cs later h x
part_chosen cs (Sent l len real start ∷ later) h x = part_chosen cs later h x.1

part_step : (cs : List HfscClass) (p : ℕ) (later h : HfscHistory) → HaveSlopes cs → most_step cs h p ≤ most_step cs (later ++ h) p
part_step cs p [] h some = omega arith
part_step cs p (e ∷ later) h some =
    let rest = part_step cs p later h some in
    let one = step_rise cs p e (later ++ h) some in
    omega (arith, rest, one)

wider : (m n r q x y : ℕ) → m ≤ n → DifferBy ((2 * m + 2) * (r * q)) x y → DifferBy ((2 * n + 2) * (r * q)) x y
wider m n r q x y le d =
    let above = d.above in
    let below = d.below in
    let more = mul_mono (r * q) (2 * m + 2) (2 * n + 2) (omega (arith, le)) in
    record { above = omega (arith, above, more); below = omega (arith, below, more) }

pub is_fair : (cs : List HfscClass) (g : HfscHistory) → ShareAlone cs → AreChoices cs g → IsFair cs g
is_fair cs g alone chosen = λ es h p c d r q part x both.
    let here = subst (λ (k : HfscHistory). AreChoices cs k) part.parts chosen in
    let step = part_step cs p part.later (es ++ h) alone.slopes in
    let same = ap (λ (k : HfscHistory). most_step cs k p) part.parts in
    wider (most_step cs (es ++ h) p) (most_step cs g p) r q (work cs es c * q) (work cs es d * r) (omega (arith, step, same))
    (fair_after cs es h p c d r q alone (part_chosen cs part.later (es ++ h) here) x both)
