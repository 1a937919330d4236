-- The computed leads are the greatest differences.
use Rattle.std.proofs.Common.{◌≡◌, ◌≤◌, ◌<◌, ◌+◌, ◌-◌, ◌*◌, ◌⊎◌, inl, inr, ℕ, zero, suc, max, Bool, true, false, List, [], ◌∷◌, ◌++◌, refl, ap, sym, subst, arith}
use Rattle.std.specs.Prelude.{◌&&◌, if◌then◌else◌}
use Rattle.play_base.specs.Units.{units}
use Rattle.hfsc_model.specs.declared.HfscClass.{HfscClass}
use Rattle.hfsc_model.specs.Event.{HfscEvent, HfscHistory, Enqueued, Sent}
use Rattle.hfsc_model.specs.Share.{active, total}
use Rattle.hfsc_model.specs.Tree.{is_under}
use Rattle.fair_shares.specs.Fairness.{AreBothActive, DifferBy, work}
use Rattle.fair_shares.proofs.Events.{kept_active}
use Rattle.share_gaps.specs.Greatest.{IsAhead, IsGreatest}
use Rattle.share_gaps.specs.Leads.{gain, lead, most_lead}

-- what a sending adds to the work
gained : (cs : List HfscClass) (l len c rate w : ℕ) → (if is_under cs c l then w + units len else w) * rate ≡ w * rate + gain cs l len c rate
gained cs l len c rate w = go (is_under cs c l)
  where
    go : (b : Bool) → (if b then w + units len else w) * rate ≡ w * rate + (if b then units len * rate else 0)
    go true = omega arith
    go false = omega arith

-- no stretch that ends now has a greater lead
pub lead_most : (cs : List HfscClass) (c d rate other : ℕ) (es h : HfscHistory) → AreBothActive cs c d es h
    → work cs es c * other ≤ work cs es d * rate + lead cs c d rate other (es ++ h)
lead_most cs c d rate other [] h both = omega arith
lead_most cs c d rate other (Enqueued l at len ∷ es) h both = lead_most cs c d rate other es h both.2
lead_most cs c d rate other (Sent l len real start ∷ es) h both =
    go (active cs (Sent l len real start ∷ es ++ h) c) both.0 (active cs (Sent l len real start ∷ es ++ h) d) both.1 (lead_most cs c d rate other es h both.2)
  where
    go : (a : Bool) → a ≡ true → (b : Bool) → b ≡ true → work cs es c * other ≤ work cs es d * rate + lead cs c d rate other (es ++ h)
        → work cs (Sent l len real start ∷ es) c * other
        ≤ work cs (Sent l len real start ∷ es) d * rate + (if a && b then lead cs c d rate other (es ++ h) + gain cs l len c other - gain cs l len d rate else 0)
    go true e true f rest =
        let one = gained cs l len c other (work cs es c) in
        let two = gained cs l len d rate (work cs es d) in
        omega (arith, rest, one, two)
    go true e false f rest = absurd cc
    go false e b f rest = absurd cc

-- a stretch that ends now has this lead
pub record Leads (cs : List HfscClass) (c d rate other : ℕ) (g : HfscHistory) (x : ℕ) : Type 0 where
  pub stretch : HfscHistory
  pub before : HfscHistory
  pub parts : g ≡ stretch ++ before
  pub both : AreBothActive cs c d stretch before
  pub ahead : work cs stretch c * other ≡ work cs stretch d * rate + x

no_stretch : (cs : List HfscClass) (c d rate other : ℕ) (g : HfscHistory) (x : ℕ) → x ≡ 0 → Leads cs c d rate other g x
no_stretch cs c d rate other g x e = record { stretch = []; before = g; parts = refl; both = tt; ahead = omega (arith, e) }

-- where there is a lead both are active
pub lead_active : (cs : List HfscClass) (c d rate other : ℕ) (h : HfscHistory) → 0 < lead cs c d rate other h
    → (active cs h c ≡ true) × (active cs h d ≡ true)
lead_active cs c d rate other [] some = absurd (omega (arith, some))
lead_active cs c d rate other (Enqueued l at len ∷ h) some =
    let was = lead_active cs c d rate other h some in
    (kept_active cs h l at len c was.0, kept_active cs h l at len d was.1)
lead_active cs c d rate other (Sent l len real start ∷ h) some =
    go (active cs (Sent l len real start ∷ h) c) refl (active cs (Sent l len real start ∷ h) d) refl some
  where
    go : (a : Bool) → active cs (Sent l len real start ∷ h) c ≡ a → (b : Bool) → active cs (Sent l len real start ∷ h) d ≡ b
        → 0 < (if a && b then lead cs c d rate other h + gain cs l len c other - gain cs l len d rate else 0)
        → (active cs (Sent l len real start ∷ h) c ≡ true) × (active cs (Sent l len real start ∷ h) d ≡ true)
    go true e true f k = (e, f)
    go true e false f k = absurd (omega (arith, k))
    go false e b f k = absurd (omega (arith, k))

none_or : (n : ℕ) → (n ≡ 0) ⊎ (0 < n)
none_or zero = inl refl
none_or (suc n) = inr (omega arith)

joined : (cs : List HfscClass) (c d : ℕ) (e : HfscEvent) (g es h : HfscHistory) → g ≡ es ++ h → active cs (e ∷ g) c ≡ true → active cs (e ∷ g) d ≡ true
    → AreBothActive cs c d es h → AreBothActive cs c d (e ∷ es) h
joined cs c d e g es h parts one two both =
    (subst (λ (k : HfscHistory). active cs (e ∷ k) c ≡ true) parts one, subst (λ (k : HfscHistory). active cs (e ∷ k) d ≡ true) parts two, both)

pub lead_there : (cs : List HfscClass) (c d rate other : ℕ) (h : HfscHistory) → Leads cs c d rate other h (lead cs c d rate other h)
lead_there cs c d rate other [] = no_stretch cs c d rate other [] 0 refl
lead_there cs c d rate other (Enqueued l at len ∷ h) = go (none_or (lead cs c d rate other h)) (lead_there cs c d rate other h)
  where
    go : (lead cs c d rate other h ≡ 0) ⊎ (0 < lead cs c d rate other h) → Leads cs c d rate other h (lead cs c d rate other h)
        → Leads cs c d rate other (Enqueued l at len ∷ h) (lead cs c d rate other h)
    go (inl e) x = no_stretch cs c d rate other (Enqueued l at len ∷ h) (lead cs c d rate other h) e
    go (inr some) x =
        let was = lead_active cs c d rate other h some in
        record {
          stretch = Enqueued l at len ∷ x.stretch;
          before = x.before;
          parts = ap (λ (k : HfscHistory). Enqueued l at len ∷ k) x.parts;
          both = joined cs c d (Enqueued l at len) h x.stretch x.before x.parts (kept_active cs h l at len c was.0) (kept_active cs h l at len d was.1) x.both;
          ahead = x.ahead;
        }
lead_there cs c d rate other (Sent l len real start ∷ h) =
    go (active cs (Sent l len real start ∷ h) c) refl (active cs (Sent l len real start ∷ h) d) refl (lead_there cs c d rate other h)
    (none_or (lead cs c d rate other h + gain cs l len c other - gain cs l len d rate))
  where
    new : ℕ
    new = lead cs c d rate other h + gain cs l len c other - gain cs l len d rate

    go : (a : Bool) → active cs (Sent l len real start ∷ h) c ≡ a → (b : Bool) → active cs (Sent l len real start ∷ h) d ≡ b
        → Leads cs c d rate other h (lead cs c d rate other h)
        → (lead cs c d rate other h + gain cs l len c other - gain cs l len d rate ≡ 0) ⊎ (0 < lead cs c d rate other h + gain cs l len c other - gain cs l len d rate)
        → Leads cs c d rate other (Sent l len real start ∷ h) (if a && b then lead cs c d rate other h + gain cs l len c other - gain cs l len d rate else 0)
    go true e true f x (inl none) =
        no_stretch cs c d rate other (Sent l len real start ∷ h) (lead cs c d rate other h + gain cs l len c other - gain cs l len d rate) none
    go true e true f x (inr some) =
        let ahead = x.ahead in
        let one = gained cs l len c other (work cs x.stretch c) in
        let two = gained cs l len d rate (work cs x.stretch d) in
        record {
          stretch = Sent l len real start ∷ x.stretch;
          before = x.before;
          parts = ap (λ (k : HfscHistory). Sent l len real start ∷ k) x.parts;
          both = joined cs c d (Sent l len real start) h x.stretch x.before x.parts e f x.both;
          ahead = omega (arith, ahead, one, two, some);
        }
    go true e false f x y = no_stretch cs c d rate other (Sent l len real start ∷ h) 0 refl
    go false e b f x y = no_stretch cs c d rate other (Sent l len real start ∷ h) 0 refl

-- over all stretches
pub leads_in : (cs : List HfscClass) (c d rate other : ℕ) (h : HfscHistory) → lead cs c d rate other h ≤ most_lead cs c d rate other h
leads_in cs c d rate other [] = omega arith
leads_in cs c d rate other (e ∷ h) = omega arith

pub leads_back : (cs : List HfscClass) (c d rate other : ℕ) (h : HfscHistory) → lead cs d c other rate h ≤ most_lead cs c d rate other h
leads_back cs c d rate other [] = omega arith
leads_back cs c d rate other (e ∷ h) = omega arith

pub both_back : (cs : List HfscClass) (c d : ℕ) (es h : HfscHistory) → AreBothActive cs c d es h → AreBothActive cs d c es h
both_back cs c d [] h both = tt
both_back cs c d (e ∷ es) h both = (both.1, both.0, both_back cs c d es h both.2)

differ_in : (cs : List HfscClass) (c d rate other : ℕ) (later es h : HfscHistory) → AreBothActive cs c d es h
    → DifferBy (most_lead cs c d rate other (later ++ (es ++ h))) (work cs es c * other) (work cs es d * rate)
differ_in cs c d rate other [] es h both =
    let one = lead_most cs c d rate other es h both in
    let two = lead_most cs d c other rate es h (both_back cs c d es h both) in
    let most = leads_in cs c d rate other (es ++ h) in
    let back = leads_back cs c d rate other (es ++ h) in
    record { above = omega (arith, one, most); below = omega (arith, two, back) }
differ_in cs c d rate other (e ∷ later) es h both =
    let rest = differ_in cs c d rate other later es h both in
    let above = rest.above in
    let below = rest.below in
    record { above = omega (arith, above); below = omega (arith, below) }

-- a lead now is one of the history
leads_now : (cs : List HfscClass) (c d rate other : ℕ) (g : HfscHistory) (x : ℕ) → Leads cs c d rate other g x → IsAhead cs g c d rate other x
leads_now cs c d rate other g x k = record {
  stretch = k.stretch;
  before = k.before;
  part = record { later = []; parts = k.parts };
  both = k.both;
  ahead = k.ahead;
}

ahead_later : (cs : List HfscClass) (e : HfscEvent) (g : HfscHistory) (c d rate other x : ℕ) → IsAhead cs g c d rate other x → IsAhead cs (e ∷ g) c d rate other x
ahead_later cs e g c d rate other x k = record {
  stretch = k.stretch;
  before = k.before;
  part = record { later = e ∷ k.part.later; parts = ap (λ (y : HfscHistory). e ∷ y) k.part.parts };
  both = k.both;
  ahead = k.ahead;
}

abbrev Either : List HfscClass → HfscHistory → (c d rate other x : ℕ) → Type 0
Either cs g c d rate other x = IsAhead cs g c d rate other x ⊎ IsAhead cs g d c other rate x

-- the greater of three
one_of : (P : ℕ → Type 0) (a b c : ℕ) → P a → P b → P c → P (max a (max b c))
one_of P a b c x y z = go (which a b c)
  where
    which : (a b c : ℕ) → (max a (max b c) ≡ a) ⊎ ((max a (max b c) ≡ b) ⊎ (max a (max b c) ≡ c))
    which a b c = pick (le a (max b c)) (le b c)
      where
        le : (x y : ℕ) → (x ≤ y) ⊎ (y ≤ x)
        le x y = either (none_or (x - y))
          where
            either : (x - y ≡ 0) ⊎ (0 < x - y) → (x ≤ y) ⊎ (y ≤ x)
            either (inl e) = inl (omega (arith, e))
            either (inr e) = inr (omega (arith, e))

        pick : (a ≤ max b c) ⊎ (max b c ≤ a) → (b ≤ c) ⊎ (c ≤ b) → (max a (max b c) ≡ a) ⊎ ((max a (max b c) ≡ b) ⊎ (max a (max b c) ≡ c))
        pick (inl m) (inl n) = inr (inr (omega (arith, m, n)))
        pick (inl m) (inr n) = inr (inl (omega (arith, m, n)))
        pick (inr m) n = inl (omega (arith, m))

    go : (max a (max b c) ≡ a) ⊎ ((max a (max b c) ≡ b) ⊎ (max a (max b c) ≡ c)) → P (max a (max b c))
    go (inl e) = subst P (sym e) x
    go (inr (inl e)) = subst P (sym e) y
    go (inr (inr e)) = subst P (sym e) z

there_in : (cs : List HfscClass) (c d rate other : ℕ) (g : HfscHistory) → Either cs g c d rate other (most_lead cs c d rate other g)
there_in cs c d rate other [] = inl (leads_now cs c d rate other [] 0 (no_stretch cs c d rate other [] 0 refl))
there_in cs c d rate other (e ∷ g) =
    one_of (λ x. Either cs (e ∷ g) c d rate other x) (most_lead cs c d rate other g) (lead cs c d rate other (e ∷ g)) (lead cs d c other rate (e ∷ g))
    (old (there_in cs c d rate other g))
    (inl (leads_now cs c d rate other (e ∷ g) (lead cs c d rate other (e ∷ g)) (lead_there cs c d rate other (e ∷ g))))
    (inr (leads_now cs d c other rate (e ∷ g) (lead cs d c other rate (e ∷ g)) (lead_there cs d c other rate (e ∷ g))))
  where
    old : Either cs g c d rate other (most_lead cs c d rate other g) → Either cs (e ∷ g) c d rate other (most_lead cs c d rate other g)
    old (inl x) = inl (ahead_later cs e g c d rate other (most_lead cs c d rate other g) x)
    old (inr x) = inr (ahead_later cs e g d c other rate (most_lead cs c d rate other g) x)

pub is_greatest : (cs : List HfscClass) (c d rate other : ℕ) (g : HfscHistory) → IsGreatest cs g c d rate other (most_lead cs c d rate other g)
is_greatest cs c d rate other g = record {
  most = λ es h part both.
      subst (λ (k : HfscHistory). DifferBy (most_lead cs c d rate other k) (work cs es c * other) (work cs es d * rate)) (sym part.parts)
      (differ_in cs c d rate other part.later es h both);
  there = there_in cs c d rate other g;
}

-- a lead is no more than the work of all the history by the other rate
pub lead_within : (cs : List HfscClass) (c d rate other : ℕ) (h : HfscHistory) → lead cs c d rate other h ≤ total cs h c * other
lead_within cs c d rate other [] = omega arith
lead_within cs c d rate other (Enqueued l at len ∷ h) = lead_within cs c d rate other h
lead_within cs c d rate other (Sent l len real start ∷ h) = go (active cs (Sent l len real start ∷ h) c && active cs (Sent l len real start ∷ h) d) (lead_within cs c d rate other h)
  where
    go : (b : Bool) → lead cs c d rate other h ≤ total cs h c * other → (if b then lead cs c d rate other h + gain cs l len c other - gain cs l len d rate else 0) ≤ total cs (Sent l len real start ∷ h) c * other
    go true rest =
        let one = gained cs l len c other (total cs h c) in
        omega (arith, rest, one)
    go false rest = omega arith
