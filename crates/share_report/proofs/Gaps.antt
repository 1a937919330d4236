-- What the rows tell.
use Rattle.std.proofs.Common.{◌≡◌, ◌≤◌, ◌<◌, ◌+◌, ◌-◌, ◌*◌, ◌⊎◌, inl, inr, ℕ, zero, suc, Bool, true, false, List, [], ◌∷◌, None, Some, refl, ap, sym, arith, ◌∙◌}
use Rattle.std.specs.Prelude.{Option, ◌&&◌, ◌==◌, is_some, not, option_map, slice_get, if◌then◌else◌}
use Rattle.std.proofs.lemmas.Bool.Decides.{nat_tests}
use Rattle.play_base.specs.Units.{ceil_div, units}
use Rattle.service_curve.specs.declared.Curve.{Curve}
use Rattle.service_curve.specs.Curve.{amount}
use Rattle.service_curve.proofs.Amounts.{amount_after, mul_mono}
use Rattle.service_curve.proofs.Firsts.{time_comes}
use Rattle.hfsc_model.specs.declared.HfscClass.{HfscClass}
use Rattle.hfsc_model.specs.Event.{HfscHistory}
use Rattle.hfsc_model.specs.RealTime.{unless_zero}
use Rattle.hfsc_model.specs.Share.{or_zero}
use Rattle.hfsc_model.specs.Timely.{longest}
use Rattle.hfsc_model.specs.Tree.{class_of, is_child}
use Rattle.hfsc_laws.proofs.Tree.{and_true, parent_of}
use Rattle.hfsc_order.specs.Order.{HaveSlopes}
use Rattle.hfsc_policy.specs.Classes.{IsClassTree}
use Rattle.hfsc_policy.proofs.Paths.{real_of}
use Rattle.fair_shares.specs.Sharing.{AreChoices, HasRate, ShareAlone, most_step}
use Rattle.fair_shares.specs.Fairness.{AreLinear, IsFair}
use Rattle.fair_shares.proofs.Events.{child_has}
use Rattle.fair_shares.proofs.Lines.{line_rises}
use Rattle.fair_shares.proofs.Stretches.{is_fair}
use Rattle.share_gaps.specs.declared.gap.Gap.{Gap}
use Rattle.share_gaps.specs.declared.siblings.Siblings.{Siblings}
use Rattle.share_gaps.specs.Bounds.{bound_of, gap_of, is_alone, is_idle, shares_alone}
use Rattle.share_gaps.specs.Greatest.{IsAhead, IsGreatest}
use Rattle.share_gaps.specs.Leads.{most_lead}
use Rattle.share_gaps.specs.Rows.{rows}
use Rattle.share_gaps.specs.Watching.{bound_in, gap_after, gap_in}
use Rattle.share_gaps.specs.Within.{line_rate, rate_of}
use Rattle.share_gaps.proofs.Leads.{both_back, is_greatest}
use Rattle.share_gaps.proofs.Pairs.{IsPair, row_pair}
use Rattle.share_report.specs.Report.{IsGapOf, IsWithinBound}

-- the gap by the rates
abbrev gap_by : List HfscClass → HfscHistory → Siblings → Option ℕ → Option ℕ → Option ℕ
gap_by cs h s o q = gap_of (most_lead cs s.first s.second (or_zero o) (or_zero q) h) o q

gap_rates : (cs : List HfscClass) (h : HfscHistory) (s : Siblings) (o q : Option ℕ) → rate_of (class_of cs s.first) ≡ o → rate_of (class_of cs s.second) ≡ q
    → gap_in cs h s ≡ gap_by cs h s o q
gap_rates cs h s o q e f = ap (λ (x : Option ℕ). gap_by cs h s x (rate_of (class_of cs s.second))) e ∙ ap (λ (x : Option ℕ). gap_by cs h s o x) f

no_second : (m : ℕ) (o : Option ℕ) → gap_of m o None ≡ None
no_second m None = refl
no_second m (Some r) = refl

bound_by : (cs : List HfscClass) (h : HfscHistory) (s : Siblings) (a : Bool) (g : Option ℕ) → shares_alone cs ≡ a → gap_in cs h s ≡ g
    → bound_in cs h s ≡ (if a && is_some g then bound_of cs (class_of cs s.first).parent (units (longest h)) else None)
bound_by cs h s a g e f =
    ap (λ (b : Bool). if b && is_some (gap_in cs h s) then bound_of cs (class_of cs s.first).parent (units (longest h)) else None) e
    ∙ ap (λ (o : Option ℕ). if a && is_some o then bound_of cs (class_of cs s.first).parent (units (longest h)) else None) f

bound_is : (cs : List HfscClass) (h : HfscHistory) (s : Siblings) (p x : ℕ) → shares_alone cs ≡ true → gap_in cs h s ≡ Some x → is_child cs p s.first ≡ true
    → bound_in cs h s ≡ Some (2 * most_step cs h p + 2)
bound_is cs h s p x e f k = bound_by cs h s true (Some x) e f ∙ ap (λ (o : Option ℕ). bound_of cs o (units (longest h))) (parent_of cs p s.first k)

never : (a : Bool) (o : Option ℕ) → (if a && false then o else None) ≡ None
never true o = refl
never false o = refl

pub gap_tells : (cs : List HfscClass) (h : HfscHistory) (s : Siblings) → IsGapOf cs h s (gap_after cs h s)
gap_tells cs h s = record {
  first = refl;
  second = refl;
  lines = λ rate other e f. record {
    difference = most_lead cs s.first s.second rate other h;
    greatest = is_greatest cs s.first s.second rate other h;
    rounded = gap_rates cs h s (Some rate) (Some other) e f;
  };
  first_bent = λ e. gap_rates cs h s None (rate_of (class_of cs s.second)) e refl;
  second_bent = λ e. gap_rates cs h s (rate_of (class_of cs s.first)) None refl e ∙ no_second _ (rate_of (class_of cs s.first));
  bounded = λ p x e f k. bound_is cs h s p x e f k;
  not_alone = λ e. bound_by cs h s false (gap_in cs h s) e refl;
  no_gap = λ e. bound_by cs h s (shares_alone cs) None refl e ∙ never (shares_alone cs) (bound_of cs (class_of cs s.first).parent (units (longest h)));
}

-- link sharing alone decides
alone_at : (cs : List HfscClass) (c : ℕ) → shares_alone cs ≡ true → is_alone (class_of cs c) ≡ true
alone_at [] c e = refl
alone_at (k ∷ ks) zero e = (and_true (is_alone k) (shares_alone ks) e).0
alone_at (k ∷ ks) (suc c) e = alone_at ks c (and_true (is_alone k) (shares_alone ks) e).1

no_limit : (k : HfscClass) → is_alone k ≡ true → k.limit ≡ None
no_limit k e = go k.limit (and_true (not (is_some k.limit)) (is_idle k.real) e).0
  where
    go : (o : Option Curve) → not (is_some o) ≡ true → o ≡ None
    go None f = refl
    go (Some s) f = absurd cc

no_real : (k : HfscClass) → is_alone k ≡ true → unless_zero k.real ≡ None
no_real k e = go k.real (and_true (not (is_some k.limit)) (is_idle k.real) e).1
  where
    go : (o : Option Curve) → is_idle o ≡ true → unless_zero o ≡ None
    go None f = refl
    go (Some s) f = ap (λ (b : Bool). if b then None else Some s) f

pub alone_is : (cs : List HfscClass) → IsClassTree cs → HaveSlopes cs → shares_alone cs ≡ true → ShareAlone cs
alone_is cs tree slopes e = record {
  tree = tree;
  slopes = slopes;
  no_limits = λ c. no_limit (class_of cs c) (alone_at cs c e);
  no_real_time = λ c. real_of cs c ∙ no_real (class_of cs c) (alone_at cs c e);
}

-- a curve without a first piece is a line
pub has_rate : (cs : List HfscClass) (c r : ℕ) → rate_of (class_of cs c) ≡ Some r → HasRate cs c r
has_rate cs c r e = go (class_of cs c).share refl e
  where
    straight_is : (s : Curve) → s.d ≡ 0 → (t : ℕ) → amount s t ≡ s.m2 * t
    straight_is s none t =
        let whole = amount_after s t (omega (arith, none)) in
        let first = ap (λ (n : ℕ). s.m1 * n) none in
        let rest = ap (λ (n : ℕ). s.m2 * n) (let all : t - s.d ≡ t = omega (arith, none) in all) in
        omega (arith, whole, first, rest)

    line : (s : Curve) → (class_of cs c).share ≡ Some s → (b : Bool) → (s.d == 0) ≡ b → (if b then Some s.m2 else None) ≡ Some r → HasRate cs c r
    line s f true g k =
        let same : s.m2 ≡ r = cc in
        record { curve = s; has = f; line = λ t. straight_is s (grind (arith, nat_tests, g)) t ∙ ap (λ (n : ℕ). n * t) same }
    line s f false g k = absurd cc

    go : (o : Option Curve) → (class_of cs c).share ≡ o → line_rate o ≡ Some r → HasRate cs c r
    go None f k = absurd cc
    go (Some s) f k = line s f (s.d == 0) refl k

rate_some : (cs : List HfscClass) (p c r : ℕ) → HaveSlopes cs → is_child cs p c ≡ true → HasRate cs c r → 1 ≤ r
rate_some cs p c r slopes k x = line_rises x.curve r x.line (slopes c x.curve (child_has cs p c k) x.has)

-- the greatest difference is within the bound
within : (cs : List HfscClass) (h : HfscHistory) (p c d r q x : ℕ) → IsFair cs h → AreLinear cs p c d r q → IsGreatest cs h c d r q x
    → x ≤ (2 * most_step cs h p + 2) * (r * q)
within cs h p c d r q x fair linear greatest = go greatest.there
  where
    go : IsAhead cs h c d r q x ⊎ IsAhead cs h d c q r x → x ≤ (2 * most_step cs h p + 2) * (r * q)
    go (inl y) =
        let near = (fair y.stretch y.before p c d r q y.part linear y.both).above in
        let ahead = y.ahead in
        omega (arith, near, ahead)
    go (inr y) =
        let near = (fair y.stretch y.before p c d r q y.part linear (both_back cs d c y.stretch y.before y.both)).below in
        let ahead = y.ahead in
        omega (arith, near, ahead)

product_some : (r q : ℕ) → 1 ≤ r → 1 ≤ q → 0 < r * q
product_some r q a b = let one = mul_mono r 1 q b in omega (arith, one, a)

pub fair_gap : (cs : List HfscClass) (h : HfscHistory) (s : Siblings) (a b : ℕ) → IsClassTree cs → HaveSlopes cs → AreChoices cs h → IsPair cs s
    → gap_in cs h s ≡ Some a → bound_in cs h s ≡ Some b → a ≤ b
fair_gap cs h s a b tree slopes chosen pair g k = alone (shares_alone cs) refl
  where
    step : ℕ
    step = most_step cs h pair.parent

    lines : (rate other : ℕ) → rate_of (class_of cs s.first) ≡ Some rate → rate_of (class_of cs s.second) ≡ Some other → shares_alone cs ≡ true → a ≤ b
    lines rate other e f y =
        let one = has_rate cs s.first rate e in
        let two = has_rate cs s.second other f in
        let linear : AreLinear cs pair.parent s.first s.second rate other = record { first = pair.first; second = pair.second; rate_is = one; other_is = two } in
        let x = most_lead cs s.first s.second rate other h in
        let most = within cs h pair.parent s.first s.second rate other (most_lead cs s.first s.second rate other h) (is_fair cs h (alone_is cs tree slopes y) chosen) linear (is_greatest cs s.first s.second rate other h) in
        let some = product_some rate other (rate_some cs pair.parent s.first rate slopes pair.first one) (rate_some cs pair.parent s.second other slopes pair.second two) in
        let low = time_comes (rate * other) (most_lead cs s.first s.second rate other h) (2 * most_step cs h pair.parent + 2) some (omega (arith, most)) in
        let same : ceil_div (most_lead cs s.first s.second rate other h) (rate * other) ≡ a = number _ a (sym (gap_rates cs h s (Some rate) (Some other) e f) ∙ g) in
        let bound : 2 * most_step cs h pair.parent + 2 ≡ b = number _ b (sym (bound_is cs h s pair.parent a y g pair.first) ∙ k) in
        omega (arith, low, same, bound)
      where
        number : (m n : ℕ) → Some m ≡ Some n → m ≡ n
        number m n z = cc

    second : (rate : ℕ) → rate_of (class_of cs s.first) ≡ Some rate → shares_alone cs ≡ true → (o : Option ℕ) → rate_of (class_of cs s.second) ≡ o → a ≤ b
    second rate e y None f = let none = gap_rates cs h s (Some rate) None e f in absurd cc
    second rate e y (Some other) f = lines rate other e f y

    first : shares_alone cs ≡ true → (o : Option ℕ) → rate_of (class_of cs s.first) ≡ o → a ≤ b
    first y None e = let none = gap_rates cs h s None (rate_of (class_of cs s.second)) e refl in absurd cc
    first y (Some rate) e = second rate e y (rate_of (class_of cs s.second)) refl

    alone : (y : Bool) → shares_alone cs ≡ y → a ≤ b
    alone true e = first e (rate_of (class_of cs s.first)) refl
    alone false e = let none = bound_by cs h s false (gap_in cs h s) e refl in absurd cc

pub fair_row : (cs : List HfscClass) (h : HfscHistory) (row : ℕ) (answer : Option Gap) → IsClassTree cs → HaveSlopes cs → AreChoices cs h
    → answer ≡ option_map (gap_after cs h) (slice_get (rows cs) row) → IsWithinBound answer
fair_row cs h row answer tree slopes chosen e = λ g a b is gap bound. go (slice_get (rows cs) row) refl g a b (sym e ∙ is) gap bound
  where
    gap_same : (x y : Gap) → Some x ≡ Some y → x ≡ y
    gap_same x y k = cc

    go : (o : Option Siblings) → slice_get (rows cs) row ≡ o → (g : Gap) (a b : ℕ) → option_map (gap_after cs h) (slice_get (rows cs) row) ≡ Some g
        → g.gap ≡ Some a → g.bound ≡ Some b → a ≤ b
    go None f g a b is gap bound = let none : None ≡ Some g = sym (ap (option_map (gap_after cs h)) f) ∙ is in absurd cc
    go (Some s) f g a b is gap bound =
        let same = gap_same (gap_after cs h s) g (sym (ap (option_map (gap_after cs h)) f) ∙ is) in
        fair_gap cs h s a b tree slopes chosen (row_pair cs (rows cs) row s refl f)
        (ap (λ (x : Gap). x.gap) same ∙ gap) (ap (λ (x : Gap). x.bound) same ∙ bound)
