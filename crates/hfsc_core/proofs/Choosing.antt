-- What is chosen is HFSC's choice, or the least moment at which a leaf may send.
use Rattle.std.proofs.Common.{◌≡◌, ◌≤◌, ◌<◌, ◌⊎◌, inl, inr, ℕ, Bool, true, false, List, None, Some, refl, ap, sym, subst, arith, ◌∙◌}
use Rattle.std.specs.Prelude.{Option, ◌||◌, IsSome, MatchOption}
use Rattle.std.proofs.lemmas.Bool.Decides.{nat_tests}
use Rattle.hfsc_model.specs.declared.HfscClass.{HfscClass}
use Rattle.hfsc_model.specs.Event.{HfscHistory}
use Rattle.hfsc_model.specs.Leaf.{leaf, is_waiting}
use Rattle.hfsc_model.specs.RealTime.{curve_of, has_come, soonest_of, real_pick, IsEligible, IsRealPick, NoneIsEligible, AreOpenBy}
use Rattle.hfsc_model.specs.Share.{active}
use Rattle.hfsc_model.specs.Limit.{shares_under, share_pick, path_down}
use Rattle.hfsc_model.specs.Choice.{by_real_time, by_share, choice, first_choice}
use Rattle.hfsc_model.specs.Tree.{is_leaf, reals}
use Rattle.hfsc_model.proofs.Soonest.{eligible_from_soonest}
use Rattle.hfsc_laws.proofs.Picking.{computed, one_pick}
use Rattle.hfsc_policy.specs.Policy.{earlier_of}
use Rattle.hfsc_policy.proofs.Moments.{earlier_come}
use Rattle.hfsc_policy.proofs.Offers.{above_active, leaf_below}
use Rattle.hfsc_policy.proofs.Paths.{IsSender, open_sender, real_sender, root_under, shares_of, share_picked}
use Rattle.hfsc_eligible.specs.Eligible.{IsLeastOf, pick_now as real_pick_now, soonest_now as real_soonest_now}
use Rattle.hfsc_eligible.proofs.Picks.{pick_is_real, soonest_is_least}
use Rattle.hfsc_groups.specs.Classes.{IsSoonest}
use Rattle.hfsc_share.specs.Shares.{pick_now as share_pick_now, soonest_now as share_soonest_now}
use Rattle.hfsc_share.proofs.Picks.{pick_is, soonest_is}
use Rattle.hfsc_core.specs.declared.chooser.Chooser.{Chooser}
use Rattle.hfsc_core.specs.declared.chooser.Chosen.{Chosen}
use Rattle.hfsc_core.specs.declared.chooser.Chosen.TheVariants.{Real, Shared, Later, Nothing}
use Rattle.hfsc_core.specs.Chooser.{Represents, chosen_now, classes_of, woken_at, real_or, shared_or, till}
use Rattle.hfsc_core.proofs.Keeping.{later_open}

-- the least later moment at which a leaf may send
pub record IsLater (cs : List HfscClass) (h : HfscHistory) (now t : ℕ) : Type 0 where
  pub later : now < t
  pub sender : ℕ
  pub may : IsSender cs h t sender
  pub none : (u : ℕ) → now ≤ u → u < t → (c : ℕ) → IsSender cs h u c → ⊥

abbrev pub IsIdle : List HfscClass → HfscHistory → Type 0
IsIdle cs h = (c : ℕ) → is_leaf cs c ≡ true → is_waiting (leaf h c).waiting ≡ true → ⊥

abbrev pub ChosenIs : List HfscClass → HfscHistory → (now : ℕ) → Chosen → Type 0
ChosenIs cs h now (Real c) = (choice cs h now ≡ Some (by_real_time c)) × IsSender cs h now c
ChosenIs cs h now (Shared c) = (choice cs h now ≡ Some (by_share c)) × IsSender cs h now c
ChosenIs cs h now (Later t) = IsLater cs h now t
ChosenIs cs h now Nothing = IsIdle cs h

come_none : (o : Option ℕ) (t : ℕ) → o ≡ None → has_come o t ≡ false
come_none o t e = ap (λ (p : Option ℕ). has_come p t) e

module _ (x : Chooser) (h : HfscHistory) (s : Represents x h) where
  by : (now : ℕ) → woken_at x ≤ now → AreOpenBy h now
  by now l c = later_open (leaf h c).openings (woken_at x) now l (s.opened c)

  -- a head is eligible exactly from the first moment on
  real_come : (now : ℕ) → woken_at x ≤ now → has_come (real_soonest_now x.eligible) now ≡ true → (c : ℕ) × IsEligible (reals (classes_of x)) h now c
  real_come now l e = go (real_soonest_now x.eligible) (soonest_is_least x.eligible (reals (classes_of x)) h s.real) e
    where
      go : (o : Option ℕ) → IsLeastOf (λ c. soonest_of (curve_of (reals (classes_of x)) c) (leaf h c)) o → has_come o now ≡ true
          → (c : ℕ) × IsEligible (reals (classes_of x)) h now c
      go None y f = absurd cc
      go (Some t) y f =
          let c = y.one.0 in
          (c, eligible_from_soonest (curve_of (reals (classes_of x)) c) (leaf h c) now (by now l c) ∙ ap (λ (o : Option ℕ). has_come o now) y.one.1 ∙ f)

  come_real : (now c : ℕ) → woken_at x ≤ now → IsEligible (reals (classes_of x)) h now c → has_come (real_soonest_now x.eligible) now ≡ true
  come_real now c l e = go (soonest_of (curve_of (reals (classes_of x)) c) (leaf h c)) refl
      (sym (eligible_from_soonest (curve_of (reals (classes_of x)) c) (leaf h c) now (by now l c)) ∙ e) (real_soonest_now x.eligible) (soonest_is_least x.eligible (reals (classes_of x)) h s.real)
    where
      go : (o : Option ℕ) → soonest_of (curve_of (reals (classes_of x)) c) (leaf h c) ≡ o → has_come o now ≡ true
          → (p : Option ℕ) → IsLeastOf (λ d. soonest_of (curve_of (reals (classes_of x)) d) (leaf h d)) p → has_come p now ≡ true
      go None f g p y = absurd cc
      go (Some u) f g None y = let none = y c in absurd cc
      go (Some u) f g (Some t) y = let least = y.least c u f in grind (arith, nat_tests, g, least)

  soon : IsSoonest (classes_of x) h (woken_at x) (share_soonest_now x.shares)
  soon = soonest_is x.shares (classes_of x) h s.share

  or_true : (a b : Bool) → (a || b) ≡ true → (a ≡ true) ⊎ (b ≡ true)
  or_true true b e = inl refl
  or_true false b e = inr e

  true_or : (a b : Bool) → (a ≡ true) ⊎ (b ≡ true) → (a || b) ≡ true
  true_or true b y = refl
  true_or false b (inl e) = absurd cc
  true_or false b (inr e) = e

  -- a leaf may send exactly from the earlier of the two first moments on
  come_sender : (now : ℕ) → woken_at x ≤ now → has_come (earlier_of (real_soonest_now x.eligible) (share_soonest_now x.shares)) now ≡ true
      → (c : ℕ) × IsSender (classes_of x) h now c
  come_sender now l e =
      go (or_true (has_come (real_soonest_now x.eligible) now) (has_come (share_soonest_now x.shares) now)
      (sym (earlier_come (real_soonest_now x.eligible) (share_soonest_now x.shares) now) ∙ e))
    where
      go : (has_come (real_soonest_now x.eligible) now ≡ true) ⊎ (has_come (share_soonest_now x.shares) now ≡ true) → (c : ℕ) × IsSender (classes_of x) h now c
      go (inl f) = let y = real_come now l f in (y.0, real_sender (classes_of x) h now y.0 s.tree y.1)
      go (inr f) = (path_down 8 (classes_of x) h now 0, open_sender (classes_of x) h now s.tree (soon.from now l ∙ f))

  sender_come : (now c : ℕ) → woken_at x ≤ now → IsSender (classes_of x) h now c → has_come (earlier_of (real_soonest_now x.eligible) (share_soonest_now x.shares)) now ≡ true
  sender_come now c l y =
      earlier_come (real_soonest_now x.eligible) (share_soonest_now x.shares) now
      ∙ true_or (has_come (real_soonest_now x.eligible) now) (has_come (share_soonest_now x.shares) now) (go (has_come (real_soonest_now x.eligible) now) refl)
    where
      go : (b : Bool) → has_come (real_soonest_now x.eligible) now ≡ b
          → (has_come (real_soonest_now x.eligible) now ≡ true) ⊎ (has_come (share_soonest_now x.shares) now ≡ true)
      go true e = inl e
      go false e = inr (sym (soon.from now l) ∙ shares_of (classes_of x) h now c s.tree (λ d f. let t = come_real now d l f in absurd cc) y)

  -- the choice by real time
  real_is : (now c : ℕ) → IsRealPick (reals (classes_of x)) h now c → real_pick (reals (classes_of x)) h now ≡ Some c
  real_is now c p = go (real_pick (reals (classes_of x)) h now) refl (computed (reals (classes_of x)) h now)
    where
      go : (o : Option ℕ) → real_pick (reals (classes_of x)) h now ≡ o → MatchOption o (NoneIsEligible (reals (classes_of x)) h now) (IsRealPick (reals (classes_of x)) h now)
          → real_pick (reals (classes_of x)) h now ≡ Some c
      go None e n = absurd (n c p.eligible)
      go (Some d) e q = e ∙ ap Some (one_pick (reals (classes_of x)) h now d c q p)

  real_none : (now : ℕ) → NoneIsEligible (reals (classes_of x)) h now → real_pick (reals (classes_of x)) h now ≡ None
  real_none now n = go (real_pick (reals (classes_of x)) h now) refl (computed (reals (classes_of x)) h now)
    where
      go : (o : Option ℕ) → real_pick (reals (classes_of x)) h now ≡ o → MatchOption o (NoneIsEligible (reals (classes_of x)) h now) (IsRealPick (reals (classes_of x)) h now)
          → real_pick (reals (classes_of x)) h now ≡ None
      go None e y = e
      go (Some d) e q = absurd (n d q.eligible)

  -- nothing waits
  idle : earlier_of (real_soonest_now x.eligible) (share_soonest_now x.shares) ≡ None → IsIdle (classes_of x) h
  idle e c l w = go (share_soonest_now x.shares) refl (real_soonest_now x.eligible) refl
    where
      awake : active (classes_of x) h 0 ≡ true
      awake = let low = leaf_below (classes_of x) c l in above_active (classes_of x) h c 0 l w (root_under (Prim.Native.Nat.suc c) (classes_of x) c s.tree (omega arith) low)

      some : IsSome (share_soonest_now x.shares)
      some = soon.some.1 awake

      go : (o : Option ℕ) → share_soonest_now x.shares ≡ o → (p : Option ℕ) → real_soonest_now x.eligible ≡ p → ⊥
      go None f p g = let no = subst (λ (q : Option ℕ). IsSome q) f some in cc
      go (Some t) f None g = let same = sym e ∙ ap (λ (q : Option ℕ). earlier_of q (share_soonest_now x.shares)) g ∙ ap (λ (q : Option ℕ). earlier_of None q) f in cc
      go (Some t) f (Some u) g = let same = sym e ∙ ap (λ (q : Option ℕ). earlier_of q (share_soonest_now x.shares)) g ∙ ap (λ (q : Option ℕ). earlier_of (Some u) q) f in cc

  later_is : (now t : ℕ) → woken_at x ≤ now → NoneIsEligible (reals (classes_of x)) h now → shares_under (classes_of x) h now 0 ≡ false
      → earlier_of (real_soonest_now x.eligible) (share_soonest_now x.shares) ≡ Some t → IsLater (classes_of x) h now t
  later_is now t l n u e =
      let late = late_is (has_come (earlier_of (real_soonest_now x.eligible) (share_soonest_now x.shares)) now) refl in
      let y = come_sender t (omega (arith, l, late)) (ap (λ (o : Option ℕ). has_come o t) e ∙ grind (arith, nat_tests)) in
      record {
        later = late;
        sender = y.0;
        may = y.1;
        none = λ v a b c z.
            let come = sym (ap (λ (o : Option ℕ). has_come o v) e) ∙ sender_come v c (omega (arith, l, a)) z in
            grind (arith, nat_tests, come, b);
      }
    where
      late_is : (b : Bool) → has_come (earlier_of (real_soonest_now x.eligible) (share_soonest_now x.shares)) now ≡ b → now < t
      late_is true f =
          let y = come_sender now l f in
          let z = shares_of (classes_of x) h now y.0 s.tree n y.1 in
          absurd cc
      late_is false f = let g = sym (ap (λ (o : Option ℕ). has_come o now) e) ∙ f in grind (arith, nat_tests, g)

  pub chosen_is : (now : ℕ) → woken_at x ≤ now → ChosenIs (classes_of x) h now (chosen_now x now)
  chosen_is now l = first (real_pick_now x.eligible now) (pick_is_real x.eligible (reals (classes_of x)) h now s.real (by now l))
    where
      last : (o : Option ℕ) → earlier_of (real_soonest_now x.eligible) (share_soonest_now x.shares) ≡ o → NoneIsEligible (reals (classes_of x)) h now
          → shares_under (classes_of x) h now 0 ≡ false → ChosenIs (classes_of x) h now (till o)
      last None e n u = idle e
      last (Some t) e n u = later_is now t l n u e

      next : (b : Bool) → shares_under (classes_of x) h now 0 ≡ b → NoneIsEligible (reals (classes_of x)) h now
          → ChosenIs (classes_of x) h now (shared_or (share_pick_now x.shares now) (till (earlier_of (real_soonest_now x.eligible) (share_soonest_now x.shares))))
      next true e n =
          let picked = share_picked (classes_of x) h now e in
          let same = pick_is x.shares (classes_of x) h now s.share l ∙ picked in
          subst (λ (o : Option ℕ). ChosenIs (classes_of x) h now (shared_or o (till (earlier_of (real_soonest_now x.eligible) (share_soonest_now x.shares))))) (sym same) (
            ap (λ (p : Option ℕ). first_choice p (share_pick (classes_of x) h now)) (real_none now n) ∙ ap (λ (p : Option ℕ). first_choice None p) picked,
            open_sender (classes_of x) h now s.tree e,
          )
      next false e n =
          let none : share_pick (classes_of x) h now ≡ None = rw e refl in
          let same = pick_is x.shares (classes_of x) h now s.share l ∙ none in
          subst (λ (o : Option ℕ). ChosenIs (classes_of x) h now (shared_or o (till (earlier_of (real_soonest_now x.eligible) (share_soonest_now x.shares))))) (sym same)
          (last (earlier_of (real_soonest_now x.eligible) (share_soonest_now x.shares)) refl n e)

      first : (o : Option ℕ) → MatchOption o (NoneIsEligible (reals (classes_of x)) h now) (IsRealPick (reals (classes_of x)) h now)
          → ChosenIs (classes_of x) h now (real_or o (shared_or (share_pick_now x.shares now) (till (earlier_of (real_soonest_now x.eligible) (share_soonest_now x.shares)))))
      first None n = next (shares_under (classes_of x) h now 0) refl n
      first (Some c) p = (
        ap (λ (q : Option ℕ). first_choice q (share_pick (classes_of x) h now)) (real_is now c p),
        real_sender (classes_of x) h now c s.tree p.eligible,
      )
