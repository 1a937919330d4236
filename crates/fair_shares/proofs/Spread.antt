-- No child of a class is more than Δ ahead of an active one.
use Rattle.std.proofs.Common.{◌≡◌, ◌≤◌, ◌+◌, ◌-◌, ◌⊎◌, inl, inr, ℕ, max, Bool, true, false, List, [], ◌∷◌, ◌++◌, None, Some, length, refl, ap, sym, subst, arith, ◌∙◌}
use Rattle.std.specs.Prelude.{Option}
use Rattle.std.specs.List.{filter}
use Rattle.play_base.specs.Units.{units}
use Rattle.service_curve.specs.declared.Curve.{Curve}
use Rattle.service_curve.specs.Curve.{time_at}
use Rattle.service_curve.proofs.Firsts.{time_comes, time_reaches}
use Rattle.altq_model.specs.Play.{IsOneOf}
use Rattle.hfsc_model.specs.declared.HfscClass.{HfscClass}
use Rattle.hfsc_model.specs.Event.{HfscEvent, HfscHistory, Enqueued, Sent}
use Rattle.hfsc_model.specs.Share.{active, activates, virtual_time}
use Rattle.hfsc_model.specs.Timely.{longest}
use Rattle.hfsc_model.specs.Tree.{class_of, is_child, is_under, numbers}
use Rattle.hfsc_order.specs.Order.{HaveSlopes}
use Rattle.hfsc_order.proofs.Times.{rises}
use Rattle.hfsc_model.specs.Limit.{least_by}
use Rattle.hfsc_laws.proofs.Tree.{child_within}
use Rattle.hfsc_order.proofs.Leasts.{IsLeastIn, filter_rising, least_in, numbers_rising}
use Rattle.hfsc_policy.proofs.Lists.{in_range, is_kept, kept_is}
use Rattle.hfsc_share.proofs.Starting.{child_in, greatest_at, greatest_up}
use Rattle.fair_shares.specs.Sharing.{AreChoices, ShareAlone, most_step, step_of}
use Rattle.fair_shares.specs.Fairness.{AreClose, AreLittleAhead, IsActiveChild, IsLeastActive, LeastNeverFalls, LeastRises, StaysActive}
use Rattle.fair_shares.proofs.Chosen.{sent_is_least}
use Rattle.fair_shares.proofs.Events.{child_has, one_over, sent_active, time_kept, time_off, time_sent, time_woken, was_or_woken, woken_under}
use Rattle.fair_shares.proofs.Means.{starts_above, starts_below}

-- the step of a longer packet is no less
step_rises : (cs : List HfscClass) (p c u w : ℕ) → HaveSlopes cs → is_child cs p c ≡ true → u ≤ w → step_of (class_of cs c).share u ≤ step_of (class_of cs c).share w
step_rises cs p c u w some k le = go (class_of cs c).share refl
  where
    go : (o : Option Curve) → (class_of cs c).share ≡ o → step_of o u ≤ step_of o w
    go None e = omega arith
    go (Some s) e =
        let slope = some c s (child_has cs p c k) e in
        let there = time_reaches s.m2 w (time_at s.m2 w) (omega (arith, slope)) (omega arith) in
        let more = time_comes s.m2 u (time_at s.m2 w) (omega (arith, slope)) (omega (arith, there, le)) in
        omega (arith, more)

units_rise : (a b : ℕ) → a ≤ b → units a ≤ units b
units_rise a b le = omega (arith, le)

-- Δ never falls, and is no less than the step of a packet that was sent
steps_rise : (cs : List HfscClass) (p : ℕ) (g h : HfscHistory) → HaveSlopes cs → longest h ≤ longest g → most_step cs h p ≤ most_step cs g p
steps_rise cs p g h some le =
    greatest_up (λ c. step_of (class_of cs c).share (units (longest h))) (filter (is_child cs p) (numbers cs)) (most_step cs g p)
    (λ c i. let k = sym (child_in cs p c) ∙ i in
    let one = step_rises cs p c (units (longest h)) (units (longest g)) some k (units_rise (longest h) (longest g) le) in
    let two = greatest_at (λ d. step_of (class_of cs d).share (units (longest g))) (filter (is_child cs p) (numbers cs)) c i in
    omega (arith, one, two))

longest_rises : (e : HfscEvent) (h : HfscHistory) → longest h ≤ longest (e ∷ h)
longest_rises (Enqueued l at len) h = omega arith
longest_rises (Sent l len real start) h = omega arith

pub step_rise : (cs : List HfscClass) (p : ℕ) (e : HfscEvent) (h : HfscHistory) → HaveSlopes cs → most_step cs h p ≤ most_step cs (e ∷ h) p
step_rise cs p e h some = steps_rise cs p (e ∷ h) h some (longest_rises e h)

sent_step : (cs : List HfscClass) (h : HfscHistory) (l len : ℕ) (real : Bool) (start p d : ℕ) → HaveSlopes cs → is_child cs p d ≡ true
    → step_of (class_of cs d).share (units len) ≤ most_step cs (Sent l len real start ∷ h) p
sent_step cs h l len real start p d some k =
    let one = step_rises cs p d (units len) (units (longest (Sent l len real start ∷ h))) some k (units_rise len (max len (longest h)) (omega arith)) in
    let two = greatest_at (λ c. step_of (class_of cs c).share (units (longest (Sent l len real start ∷ h)))) (filter (is_child cs p) (numbers cs)) d (child_in cs p d ∙ k) in
    omega (arith, one, two)

-- the children of p, active or not, are at most Δ ahead of each active one
abbrev pub IsSpread : List HfscClass → HfscHistory → (p : ℕ) → Type 0
IsSpread cs h p = (c d : ℕ) → IsActiveChild cs h p c → is_child cs p d ≡ true → virtual_time cs h d ≤ virtual_time cs h c + most_step cs h p

-- a sending moves the least, and no farther than Δ
sent_spread : (cs : List HfscClass) (h : HfscHistory) (l len : ℕ) (real : Bool) (start p : ℕ) → ShareAlone cs → AreChoices cs (Sent l len real start ∷ h)
    → IsSpread cs h p → IsSpread cs (Sent l len real start ∷ h) p
sent_spread cs h l len real start p alone chosen spread c d x k = go (is_under cs d l) refl
  where
    was : IsActiveChild cs h p c
    was = record { child = x.child; is_active = sent_active cs h l len real start c x.is_active }

    rose : virtual_time cs h c ≤ virtual_time cs (Sent l len real start ∷ h) c
    rose = rises cs (Sent l len real start) h c alone.slopes

    go : (b : Bool) → is_under cs d l ≡ b
        → virtual_time cs (Sent l len real start ∷ h) d ≤ virtual_time cs (Sent l len real start ∷ h) c + most_step cs (Sent l len real start ∷ h) p
    go true u =
        let least = sent_is_least cs h start l real p d c alone chosen.0 k u was in
        let moved = time_sent cs h l len real start p d alone.slopes k in
        let step = sent_step cs h l len real start p d alone.slopes k in
        omega (arith, least, moved, step, rose)
    go false u =
        let same = time_off cs h l len real start d u in
        let before = spread c d was k in
        let step = step_rise cs p (Sent l len real start) h alone.slopes in
        omega (arith, same, before, step, rose)

-- what becomes active starts among the active, or no lower than all
kept_spread : (cs : List HfscClass) (h : HfscHistory) (l at len p : ℕ) → ShareAlone cs → IsSpread cs h p → IsSpread cs (Enqueued l at len ∷ h) p
kept_spread cs h l at len p alone spread c d x k = go (activates cs h l c) refl (activates cs h l d) refl
  where
    step : ℕ
    step = most_step cs h p

    was : activates cs h l c ≡ false → IsActiveChild cs h p c
    was e = record { child = x.child; is_active = either (was_or_woken cs h l at len c x.is_active) }
      where
        either : (active cs h c ≡ true) ⊎ (activates cs h l c ≡ true) → active cs h c ≡ true
        either (inl f) = f
        either (inr f) = absurd cc

    go : (a : Bool) → activates cs h l c ≡ a → (b : Bool) → activates cs h l d ≡ b
        → virtual_time cs (Enqueued l at len ∷ h) d ≤ virtual_time cs (Enqueued l at len ∷ h) c + most_step cs h p
    go true e true f =
        let same = one_over cs p l c d alone.tree.tree x.child k (woken_under cs h l c e) (woken_under cs h l d f) in
        let time = ap (virtual_time cs (Enqueued l at len ∷ h)) same in
        omega (arith, time)
    go true e false f =
        let new = time_woken cs h l at len p c x.child e in
        let old = time_kept cs h l at len d f in
        let start = starts_above cs h p c d (virtual_time cs h d - most_step cs h p) x.child k (omega arith)
        (λ z y. let gap = spread z d y k in omega (arith, gap)) in
        omega (arith, new, old, start)
    go false e true f =
        let new = time_woken cs h l at len p d k f in
        let old = time_kept cs h l at len c e in
        let own = spread c d (was e) k in
        let start = starts_below cs h p d c (virtual_time cs h c + most_step cs h p) k (was e) own (λ z y. spread c z (was e) y.child) in
        omega (arith, new, old, start)
    go false e false f =
        let one = time_kept cs h l at len c e in
        let two = time_kept cs h l at len d f in
        let before = spread c d (was e) k in
        omega (arith, one, two, before)

pub are_spread : (cs : List HfscClass) (h : HfscHistory) (p : ℕ) → ShareAlone cs → AreChoices cs h → IsSpread cs h p
are_spread cs [] p alone chosen = λ c d x k. omega arith
are_spread cs (Enqueued l at len ∷ h) p alone chosen = kept_spread cs h l at len p alone (are_spread cs h p alone chosen)
are_spread cs (Sent l len real start ∷ h) p alone chosen = sent_spread cs h l len real start p alone chosen (are_spread cs h p alone chosen.1)

pub are_close : (cs : List HfscClass) (h : HfscHistory) → ShareAlone cs → AreChoices cs h → AreClose cs h
are_close cs h alone chosen = λ p c d x y. are_spread cs h p alone chosen c d x y.child

pub are_little_ahead : (cs : List HfscClass) (h : HfscHistory) → ShareAlone cs → AreChoices cs h → AreLittleAhead cs h
are_little_ahead cs h alone chosen = λ p v d x k off.
    let gap = are_spread cs h p alone chosen x.class d x.there k in
    let same = x.time in
    omega (arith, gap, same)

-- the least never falls
sent_least : (cs : List HfscClass) (h : HfscHistory) (l len : ℕ) (real : Bool) (start p v c : ℕ) → HaveSlopes cs → IsLeastActive cs h p v
    → IsActiveChild cs (Sent l len real start ∷ h) p c → v ≤ virtual_time cs (Sent l len real start ∷ h) c
sent_least cs h l len real start p v c some least x =
    let before = least.least c (record { child = x.child; is_active = sent_active cs h l len real start c x.is_active }) in
    let rose = rises cs (Sent l len real start) h c some in
    omega (arith, before, rose)

kept_least : (cs : List HfscClass) (h : HfscHistory) (l at len p v c : ℕ) → IsLeastActive cs h p v
    → IsActiveChild cs (Enqueued l at len ∷ h) p c → v ≤ virtual_time cs (Enqueued l at len ∷ h) c
kept_least cs h l at len p v c least x = go (activates cs h l c) refl (was_or_woken cs h l at len c x.is_active)
  where
    go : (b : Bool) → activates cs h l c ≡ b → (active cs h c ≡ true) ⊎ (activates cs h l c ≡ true) → v ≤ virtual_time cs (Enqueued l at len ∷ h) c
    go true e y =
        let new = time_woken cs h l at len p c x.child e in
        let at_one = least.time in
        let start = starts_above cs h p c least.class v x.child least.there.child (omega (arith, at_one)) (λ z w. least.least z w) in
        omega (arith, new, start)
    go false e (inl f) =
        let old = time_kept cs h l at len c e in
        let before = least.least c (record { child = x.child; is_active = f }) in
        omega (arith, old, before)
    go false e (inr f) = absurd cc

least_up : (cs : List HfscClass) (e : HfscEvent) (h : HfscHistory) (p v c : ℕ) → HaveSlopes cs → IsLeastActive cs h p v → IsActiveChild cs (e ∷ h) p c
    → v ≤ virtual_time cs (e ∷ h) c
least_up cs (Enqueued l at len) h p v c some least x = kept_least cs h l at len p v c least x
least_up cs (Sent l len real start) h p v c some least x = sent_least cs h l len real start p v c some least x

pub least_never_falls : (cs : List HfscClass) (e : HfscEvent) (h : HfscHistory) → HaveSlopes cs → LeastNeverFalls cs e h
least_never_falls cs e h some = λ p v w before after.
    let up = least_up cs e h p v after.class some before after.there in
    let same = after.time in
    omega (arith, up, same)

-- nor over a stretch in which some child stays active
least_there : (cs : List HfscClass) (h : HfscHistory) (p c : ℕ) → IsActiveChild cs h p c → (v : ℕ) × IsLeastActive cs h p v
least_there cs h p c x =
    go (least_by (virtual_time cs h) (filter (active cs h) (filter (is_child cs p) (numbers cs))))
    (least_in (virtual_time cs h) (filter (active cs h) (filter (is_child cs p) (numbers cs)))
    (filter_rising (active cs h) (filter (is_child cs p) (numbers cs)) (filter_rising (is_child cs p) (numbers cs) (numbers_rising (length cs)))))
  where
    one_is : (d : ℕ) → IsActiveChild cs h p d → IsOneOf d (filter (active cs h) (filter (is_child cs p) (numbers cs)))
    one_is d y =
        let low = child_within cs p d y.child in
        is_kept (active cs h) (filter (is_child cs p) (numbers cs)) d y.is_active
        (is_kept (is_child cs p) (numbers cs) d y.child (in_range 0 (length cs) d (omega arith) (omega (arith, low))))

    go : (o : Option ℕ) → IsLeastIn (virtual_time cs h) (filter (active cs h) (filter (is_child cs p) (numbers cs))) o → (v : ℕ) × IsLeastActive cs h p v
    go None none = absurd (subst (λ (xs : List ℕ). IsOneOf c xs) none (one_is c x))
    go (Some d) k =
        let one = kept_is (active cs h) (filter (is_child cs p) (numbers cs)) d k.there in
        let two = kept_is (is_child cs p) (numbers cs) d one.1 in (
          virtual_time cs h d,
          record {
            class = d;
            there = record { child = two.0; is_active = one.0 };
            time = refl;
            least = λ e y. k.least e (one_is e y);
          },
        )

some_active : (cs : List HfscClass) (es h : HfscHistory) (p v : ℕ) → StaysActive cs p es h → IsLeastActive cs h p v → (c : ℕ) × IsActiveChild cs (es ++ h) p c
some_active cs [] h p v stays least = (least.class, least.there)
some_active cs (e ∷ es) h p v stays least = stays.0

stretch_up : (cs : List HfscClass) (es h : HfscHistory) (p v c : ℕ) → HaveSlopes cs → StaysActive cs p es h → IsLeastActive cs h p v
    → IsActiveChild cs (es ++ h) p c → v ≤ virtual_time cs (es ++ h) c
stretch_up cs [] h p v c some stays least x = least.least c x
stretch_up cs (e ∷ es) h p v c some stays least x =
    let one = some_active cs es h p v stays.1 least in
    let there = least_there cs (es ++ h) p one.0 one.1 in
    let before = stretch_up cs es h p v there.1.class some stays.1 least there.1.there in
    let same = there.1.time in
    let after = least_up cs e (es ++ h) p there.0 c some there.1 x in
    omega (arith, before, same, after)

pub least_rises : (cs : List HfscClass) (es h : HfscHistory) → HaveSlopes cs → LeastRises cs es h
least_rises cs es h some = λ p v w stays before after.
    let up = stretch_up cs es h p v after.class some stays before after.there in
    let same = after.time in
    omega (arith, up, same)
