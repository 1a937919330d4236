-- What a watch holds after a packet was kept or sent.
use Rattle.std.proofs.Common.{◌≡◌, ◌≤◌, ◌<◌, ◌+◌, ◌-◌, ◌*◌, ◌^◌, ◌⊎◌, inl, inr, ℕ, zero, suc, min, max, Bool, true, false, List, [], ◌∷◌, None, Some, length, map, get_or, refl, ap, sym, subst, arith, ◌∙◌}
use Rattle.std.specs.Prelude.{Option, ◌&&◌, ◌==◌, nat_lt, not, option_map, slice_get, if◌then◌else◌}
use Rattle.std.specs.List.{slice_index}
use Rattle.std.proofs.lemmas.Bool.{cases_lt}
use Rattle.std.proofs.lemmas.Bool.Decides.{nat_tests}
use Rattle.std.proofs.lemmas.Option.{get_or_from_slice_get, slice_get-get_or, slice_get-map, slice_get_within}
use Rattle.service_curve.specs.declared.Curve.{Curve}
use Rattle.service_curve.proofs.Amounts.{mul_mono}
use Rattle.play_base.specs.Units.{units}
use Rattle.hfsc_model.specs.declared.HfscClass.{HfscClass}
use Rattle.hfsc_model.specs.Event.{HfscHistory, Enqueued, Sent}
use Rattle.hfsc_model.specs.Leaf.{leaf}
use Rattle.hfsc_model.specs.Share.{active, or_zero, total}
use Rattle.hfsc_model.specs.Timely.{IsHead}
use Rattle.hfsc_model.specs.Tree.{class_of, is_child, is_leaf, is_parent, is_under, no_class, path, IsTree}
use Rattle.hfsc_laws.proofs.Tree.{child_within}
use Rattle.hfsc_policy.specs.Classes.{IsClassTree}
use Rattle.hfsc_policy.specs.Heads.{AreHeads, IsSized, kept_in}
use Rattle.hfsc_policy.proofs.Few.{are_few, head_sized}
use Rattle.hfsc_policy.proofs.Small.{totals_small}
use Rattle.hfsc_groups.proofs.Under.{IsUp, same_or_up}
use Rattle.fair_shares.proofs.Events.{child_has, one_over}
use Rattle.share_gaps.specs.declared.lead.Lead.{Lead}
use Rattle.share_gaps.specs.declared.place.Place.{Place}
use Rattle.share_gaps.specs.declared.siblings.Siblings.{Siblings}
use Rattle.share_gaps.specs.Leads.{held, lead, most_lead}
use Rattle.share_gaps.specs.Rows.{IsPlace, first_in, firsts_in, is_in, rows, second_in, seconds_in}
use Rattle.share_gaps.specs.Serve.{after_gains, both_active, first_served, gain_of, one_less, one_more, rate_at, second_served, update_all}
use Rattle.share_gaps.specs.declared.watch.Watch.{Watch}
use Rattle.share_gaps.specs.Watching.{Stand, Represents, lead_of, rate_in}
use Rattle.share_gaps.specs.Within.{line_rate, rate_of}
use Rattle.share_gaps.proofs.Held.{active_is_held}
use Rattle.share_gaps.proofs.Leads.{lead_active, lead_within, leads_back, leads_in}
use Rattle.share_gaps.proofs.Pairs.{IsPair, firsts_below, path_below, seconds_below, passes_apart, passes_in, path_apart, row_pair}
use Rattle.share_gaps.proofs.Updates.{updated}

-- no more packets are held than were kept
held_few : (cs : List HfscClass) (c : ℕ) (h : HfscHistory) → held cs c h ≤ kept_in h
held_few cs c [] = omega arith
held_few cs c (Enqueued l at len ∷ h) = go (is_leaf cs l && is_under cs c l) (held_few cs c h)
  where
    go : (b : Bool) → held cs c h ≤ kept_in h → (if b then held cs c h + 1 else held cs c h) ≤ kept_in h + 1
    go true rest = omega (arith, rest)
    go false rest = omega (arith, rest)
held_few cs c (Sent l len real start ∷ h) = go (is_leaf cs l && is_under cs c l) (held_few cs c h)
  where
    go : (b : Bool) → held cs c h ≤ kept_in h → (if b then held cs c h - 1 else held cs c h) ≤ kept_in h
    go true rest = omega (arith, rest)
    go false rest = rest

-- the packets that wait after one more, or one less
counted_up : (cs : List HfscClass) (ws : List ℕ) (l c n : ℕ) (leaf : Bool) → IsTree cs → slice_get ws c ≡ Some n → n < 4000000
    → slice_get (if leaf then update_all one_more (path cs l) ws else ws) c ≡ Some (if leaf && is_under cs c l then n + 1 else n)
counted_up cs ws l c n true t e low = updated one_more (path cs l) ws c (path_apart cs l t) ∙ go (is_in c (path cs l))
  where
    go : (b : Bool) → (if b then option_map (one_more c) (slice_get ws c) else slice_get ws c) ≡ Some (if b then n + 1 else n)
    go true = ap (option_map (one_more c)) e ∙ ap (λ (m : ℕ). Some m) (let small : min (n + 1) (2 ^ 32 - 1) ≡ n + 1 = omega (arith, low) in small)
    go false = e
counted_up cs ws l c n false t e low = e

counted_down : (cs : List HfscClass) (ws : List ℕ) (l c n : ℕ) (leaf : Bool) → IsTree cs → slice_get ws c ≡ Some n
    → slice_get (if leaf then update_all one_less (path cs l) ws else ws) c ≡ Some (if leaf && is_under cs c l then n - 1 else n)
counted_down cs ws l c n true t e = updated one_less (path cs l) ws c (path_apart cs l t) ∙ go (is_in c (path cs l))
  where
    go : (b : Bool) → (if b then option_map (one_less c) (slice_get ws c) else slice_get ws c) ≡ Some (if b then n - 1 else n)
    go true = ap (option_map (one_less c)) e
    go false = e
counted_down cs ws l c n false t e = e

-- a packet that is kept changes no lead
leads_kept : (cs : List HfscClass) (s : Siblings) (l at len : ℕ) (h : HfscHistory) → lead_of cs s (Enqueued l at len ∷ h) ≡ lead_of cs s h
leads_kept cs s l at len h =
    ap (λ (m : ℕ). made (lead cs s.first s.second (rate_in cs s.first) (rate_in cs s.second) h) (lead cs s.second s.first (rate_in cs s.second) (rate_in cs s.first) h) m)
    (let one = leads_in cs s.first s.second (rate_in cs s.first) (rate_in cs s.second) h in
    let two = leads_back cs s.first s.second (rate_in cs s.first) (rate_in cs s.second) h in
    let same : max (most_lead cs s.first s.second (rate_in cs s.first) (rate_in cs s.second) h)
    (max (lead cs s.first s.second (rate_in cs s.first) (rate_in cs s.second) h) (lead cs s.second s.first (rate_in cs s.second) (rate_in cs s.first) h))
    ≡ most_lead cs s.first s.second (rate_in cs s.first) (rate_in cs s.second) h = omega (arith, one, two) in same)
  where
    made : ℕ → ℕ → ℕ → Lead
    made a b m = record { first = a; second = b; most = m }

pub kept_stands : (cs : List HfscClass) (ss : List Siblings) (x : Place) (ws : List ℕ) (ls : List Lead) (n l at len : ℕ) (h : HfscHistory) → IsPlace cs ss l x
    → Stand cs ss ws ls n h → kept_in h < 4000000 → IsSized len
    → Stand cs ss (if x.leaf then update_all one_more x.path.items ws else ws) ls n (Enqueued l at len ∷ h)
kept_stands cs ss x ws ls n l at len h place s few sized = record {
  tree = s.tree;
  heads = (sized, s.heads);
  few = omega (arith, few);
  longest_is = s.longest_is;
  waits = λ c low.
      let small = held_few cs c h in
      ap (λ (b : Bool). slice_get (if b then update_all one_more x.path.items ws else ws) c) place.ends
      ∙ ap (λ (way : List ℕ). slice_get (if is_leaf cs l then update_all one_more way ws else ws) c) place.way
      ∙ counted_up cs ws l c (held cs c h) (is_leaf cs l) s.tree.tree (s.waits c low) (omega (arith, few, small));
  lead_at = λ i k e. s.lead_at i k e ∙ ap (λ (y : Lead). Some y) (sym (leads_kept cs k l at len h));
}

-- a class beyond the tree
no_leaf : (cs : List HfscClass) (l : ℕ) → length cs ≤ l → is_leaf cs l ≡ false
no_leaf cs l beyond = go (nat_lt l (length cs)) refl
  where
    go : (b : Bool) → nat_lt l (length cs) ≡ b → (b && not (is_parent cs l)) ≡ false
    go true e = absurd (grind (arith, nat_tests, e, beyond))
    go false e = refl

pub kept_beyond : (cs : List HfscClass) (ss : List Siblings) (ws : List ℕ) (ls : List Lead) (n l at len : ℕ) (h : HfscHistory) → length cs ≤ l
    → Stand cs ss ws ls n h → kept_in h < 4000000 → IsSized len → Stand cs ss ws ls n (Enqueued l at len ∷ h)
kept_beyond cs ss ws ls n l at len h beyond s few sized = record {
  tree = s.tree;
  heads = (sized, s.heads);
  few = omega (arith, few);
  longest_is = s.longest_is;
  waits = λ c low. s.waits c low ∙ ap (λ (m : ℕ). Some m) (sym (ap (λ (b : Bool). if b && is_under cs c l then held cs c h + 1 else held cs c h) (no_leaf cs l beyond)));
  lead_at = λ i k e. s.lead_at i k e ∙ ap (λ (y : Lead). Some y) (sym (leads_kept cs k l at len h));
}

-- the leads of a row, by numbers
abbrev made : ℕ → ℕ → ℕ → Lead
made a b m = record { first = a; second = b; most = m }

same_leads : (a b m x y n : ℕ) → a ≡ x → b ≡ y → m ≡ n → made a b m ≡ made x y n
same_leads a b m x y n p q r = ap (λ (z : ℕ). made z b m) p ∙ ap (λ (z : ℕ). made x z m) q ∙ ap (λ (z : ℕ). made x y z) r

-- one of two siblings gains, or none
abbrev gained : Bool → ℕ → ℕ
gained b n = if b then n else 0

abbrev after_row : Lead → (both under_first under_second : Bool) → (gain_first gain_second : ℕ) → Lead
after_row x both f u p q =
    if u then after_gains (if f then after_gains x both p 0 else x) both 0 q else (if f then after_gains x both p 0 else x)

record IsRow (a b m p q : ℕ) (a1 a2 f u : Bool) : Type 0 where
  pub first_fits : a + p < 2 ^ 128
  pub second_fits : b + q < 2 ^ 128
  pub first_in : a ≤ m
  pub second_in : b ≤ m
  pub not_both : f ≡ true → u ≡ true → ⊥
  pub first_idle : f ≡ false → u ≡ false → (a1 && a2) ≡ false → a ≡ 0
  pub second_idle : f ≡ false → u ≡ false → (a1 && a2) ≡ false → b ≡ 0

abbrev new_first : (a p q : ℕ) → (a1 a2 f u : Bool) → ℕ
new_first a p q a1 a2 f u = if a1 && a2 then a + gained f p - gained u q else 0

row_is : (a b m p q : ℕ) (a1 a2 f u : Bool) → IsRow a b m p q a1 a2 f u
    → after_row (made a b m) (a1 && a2) f u p q
    ≡ made (new_first a p q a1 a2 f u) (new_first b q p a2 a1 u f) (max m (max (new_first a p q a1 a2 f u) (new_first b q p a2 a1 u f)))
row_is a b m p q a1 a2 true true k = absurd (k.not_both refl refl)
row_is a b m p q true true true false k =
    let fits = k.first_fits in
    let more = k.second_fits in
    same_leads _ _ _ _ _ _ (omega (arith, fits)) (omega (arith, more)) (omega (arith, fits, more))
row_is a b m p q true true false true k =
    let fits = k.first_fits in
    let more = k.second_fits in
    same_leads _ _ _ _ _ _ (omega (arith, fits)) (omega (arith, more)) (omega (arith, fits, more))
row_is a b m p q true true false false k =
    let one = k.first_in in
    let two = k.second_in in
    same_leads _ _ _ _ _ _ (omega arith) (omega arith) (omega (arith, one, two))
row_is a b m p q true false true false k = same_leads _ _ _ _ _ _ refl refl (omega arith)
row_is a b m p q true false false true k = same_leads _ _ _ _ _ _ refl refl (omega arith)
row_is a b m p q true false false false k = same_leads _ _ _ _ _ _ (k.first_idle refl refl refl) (k.second_idle refl refl refl) (omega arith)
row_is a b m p q false true true false k = same_leads _ _ _ _ _ _ refl refl (omega arith)
row_is a b m p q false true false true k = same_leads _ _ _ _ _ _ refl refl (omega arith)
row_is a b m p q false true false false k = same_leads _ _ _ _ _ _ (k.first_idle refl refl refl) (k.second_idle refl refl refl) (omega arith)
row_is a b m p q false false true false k = same_leads _ _ _ _ _ _ refl refl (omega arith)
row_is a b m p q false false false true k = same_leads _ _ _ _ _ _ refl refl (omega arith)
row_is a b m p q false false false false k = same_leads _ _ _ _ _ _ (k.first_idle refl refl refl) (k.second_idle refl refl refl) (omega arith)

-- the rates
rate_small : (cs : List HfscClass) (p c : ℕ) → IsClassTree cs → is_child cs p c ≡ true → rate_in cs c ≤ 10 ^ 12
rate_small cs p c t k = go (class_of cs c).share refl
  where
    line : (s : Curve) → s.m2 ≤ 10 ^ 12 → or_zero (line_rate (Some s)) ≤ 10 ^ 12
    line s low = test (s.d == 0)
      where
        test : (b : Bool) → or_zero (if b then Some s.m2 else None) ≤ 10 ^ 12
        test true = low
        test false = omega arith

    go : (o : Option Curve) → (class_of cs c).share ≡ o → or_zero (line_rate o) ≤ 10 ^ 12
    go None e = omega arith
    go (Some s) e = line s (t.shares c s (child_has cs p c k) e).second

rate_is : (cs : List HfscClass) (rates : List (Option ℕ)) (c : ℕ) → rates ≡ map rate_of cs → c < length cs → rate_at rates c ≡ rate_of (class_of cs c)
rate_is cs rates c same low =
    ap (λ (xs : List (Option ℕ)). rate_at xs c) same
    ∙ ap (λ (o : Option (Option ℕ)). elim o [ None ↦ None | Some r ↦ r ])
    (slice_get-map rate_of cs c ∙ ap (option_map rate_of) (slice_get-get_or cs c no_class low))

gain_is : (u r : ℕ) (o : Option ℕ) → or_zero o ≡ r → u * r < 2 ^ 128 → gain_of u o ≡ u * r
gain_is u r None e small = let none = ap (λ (z : ℕ). u * z) e in omega (arith, none)
gain_is u r (Some q) e small = let same = ap (λ (z : ℕ). u * z) e in omega (arith, same, small)

product_small : (x r : ℕ) → x ≤ 2 ^ 73 → r ≤ 10 ^ 12 → x * r ≤ 2 ^ 73 * 10 ^ 12
product_small x r low rate =
    let one = mul_mono x r (10 ^ 12) rate in
    let two = mul_mono (10 ^ 12) x (2 ^ 73) low in
    omega (arith, one, two)

abbrev left : List HfscClass → ℕ → List ℕ → List ℕ
left cs l ws = if is_leaf cs l then update_all one_less (path cs l) ws else ws

some_map : (f : Lead → Lead) (b : Bool) (o : Option Lead) (x : Lead) → o ≡ Some x → (if b then option_map f o else o) ≡ Some (if b then f x else x)
some_map f true o x e = ap (option_map f) e
some_map f false o x e = e

-- a class that does not stand over the leaf stays as active as it was
stays_active : (cs : List HfscClass) (h : HfscHistory) (l len : ℕ) (real : Bool) (start c : ℕ) → AreHeads h → IsHead (leaf h l).waiting len → is_under cs c l ≡ false
    → active cs (Sent l len real start ∷ h) c ≡ active cs h c
stays_active cs h l len real start c heads head off =
    active_is_held cs c (Sent l len real start ∷ h) (head, heads)
    ∙ ap (λ (b : Bool). nat_lt 0 (if b then held cs c h - 1 else held cs c h)) (none (is_leaf cs l) (is_under cs c l) off)
    ∙ sym (active_is_held cs c h heads)
  where
    none : (a b : Bool) → b ≡ false → (a && b) ≡ false
    none true b e = e
    none false b e = refl

idle_lead : (cs : List HfscClass) (c d r q : ℕ) (h : HfscHistory) → (active cs h c && active cs h d) ≡ false → lead cs c d r q h ≡ 0
idle_lead cs c d r q h off = go (cases_lt 0 (lead cs c d r q h))
  where
    clash : (a b : Bool) → a ≡ true → b ≡ true → (a && b) ≡ false → ⊥
    clash true true e f g = cc
    clash true false e f g = cc
    clash false b e f g = cc

    go : (0 < lead cs c d r q h) ⊎ (lead cs c d r q h ≤ 0) → lead cs c d r q h ≡ 0
    go (inl some) = let both = lead_active cs c d r q h some in absurd (clash (active cs h c) (active cs h d) both.0 both.1 off)
    go (inr none) = omega (arith, none)

swapped : (a b : Bool) → (a && b) ≡ false → (b && a) ≡ false
swapped true true e = e
swapped true false e = refl
swapped false true e = refl
swapped false false e = refl

sent_units : (cs : List HfscClass) (h : HfscHistory) (l len : ℕ) → AreHeads h → IsHead (leaf h l).waiting len → units len ≤ 2 ^ 73
sent_units cs h l len heads head = let most = (head_sized l len h heads head).most in omega (arith, most)

row_known : (cs : List HfscClass) (h : HfscHistory) (l len : ℕ) (real : Bool) (start : ℕ) (s : Siblings) → IsClassTree cs → AreHeads h → kept_in h ≤ 4000000
    → IsHead (leaf h l).waiting len → IsPair cs s
    → IsRow (lead cs s.first s.second (rate_in cs s.first) (rate_in cs s.second) h) (lead cs s.second s.first (rate_in cs s.second) (rate_in cs s.first) h)
    (most_lead cs s.first s.second (rate_in cs s.first) (rate_in cs s.second) h) (units len * rate_in cs s.second) (units len * rate_in cs s.first)
    (active cs (Sent l len real start ∷ h) s.first) (active cs (Sent l len real start ∷ h) s.second) (is_under cs s.first l) (is_under cs s.second l)
row_known cs h l len real start s tree heads few head pair = record {
  first_fits =
      let most = lead_within cs s.first s.second (rate_in cs s.first) (rate_in cs s.second) h in
      let one = product_small (total cs h s.first) (rate_in cs s.second) (totals_small cs h s.first (are_few h heads few)) second_rate in
      let two = product_small (units len) (rate_in cs s.second) (sent_units cs h l len heads head) second_rate in
      omega (arith, most, one, two);
  second_fits =
      let most = lead_within cs s.second s.first (rate_in cs s.second) (rate_in cs s.first) h in
      let one = product_small (total cs h s.second) (rate_in cs s.first) (totals_small cs h s.second (are_few h heads few)) first_rate in
      let two = product_small (units len) (rate_in cs s.first) (sent_units cs h l len heads head) first_rate in
      omega (arith, most, one, two);
  first_in = leads_in cs s.first s.second (rate_in cs s.first) (rate_in cs s.second) h;
  second_in = leads_back cs s.first s.second (rate_in cs s.first) (rate_in cs s.second) h;
  not_both = λ u v.
      let same = one_over cs pair.parent l s.first s.second tree.tree pair.first pair.second u v in
      let low = pair.before in
      omega (arith, same, low);
  first_idle = λ u v off. idle_lead cs s.first s.second (rate_in cs s.first) (rate_in cs s.second) h (was u v off);
  second_idle = λ u v off. idle_lead cs s.second s.first (rate_in cs s.second) (rate_in cs s.first) h (swapped (active cs h s.first) (active cs h s.second) (was u v off));
}
  where
    first_rate : rate_in cs s.first ≤ 10 ^ 12
    first_rate = rate_small cs pair.parent s.first tree pair.first

    second_rate : rate_in cs s.second ≤ 10 ^ 12
    second_rate = rate_small cs pair.parent s.second tree pair.second

    was : is_under cs s.first l ≡ false → is_under cs s.second l ≡ false
        → (active cs (Sent l len real start ∷ h) s.first && active cs (Sent l len real start ∷ h) s.second) ≡ false → (active cs h s.first && active cs h s.second) ≡ false
    was u v off =
        ap (λ (b : Bool). b && active cs h s.second) (sym (stays_active cs h l len real start s.first heads head u))
        ∙ ap (λ (b : Bool). active cs (Sent l len real start ∷ h) s.first && b) (sym (stays_active cs h l len real start s.second heads head v)) ∙ off

-- which siblings are active, by the packets that wait
both_is : (cs : List HfscClass) (ws : List ℕ) (s : Siblings) (g : HfscHistory) → AreHeads g → slice_get ws s.first ≡ Some (held cs s.first g)
    → slice_get ws s.second ≡ Some (held cs s.second g) → both_active ws s ≡ (active cs g s.first && active cs g s.second)
both_is cs ws s g heads e f =
    ap (λ (n : ℕ). nat_lt 0 n && nat_lt 0 (get_or ws s.second 0)) (get_or_from_slice_get ws s.first (held cs s.first g) 0 e)
    ∙ ap (λ (n : ℕ). nat_lt 0 (held cs s.first g) && nat_lt 0 n) (get_or_from_slice_get ws s.second (held cs s.second g) 0 f)
    ∙ ap (λ (b : Bool). b && nat_lt 0 (held cs s.second g)) (sym (active_is_held cs s.first g heads))
    ∙ ap (λ (b : Bool). active cs g s.first && b) (sym (active_is_held cs s.second g heads))

left_waits : (cs : List HfscClass) (h : HfscHistory) (l len : ℕ) (real : Bool) (start c : ℕ) (ws : List ℕ) → IsTree cs → slice_get ws c ≡ Some (held cs c h)
    → slice_get (left cs l ws) c ≡ Some (held cs c (Sent l len real start ∷ h))
left_waits cs h l len real start c ws t e = counted_down cs ws l c (held cs c h) (is_leaf cs l) t e

-- the leads once a head of l was sent
abbrev leads_after : Watch → (l len : ℕ) → List Lead
leads_after w l len =
    update_all (second_served w.siblings.items (left w.classes.items l w.waiting.items) w.rates.items (units len)) (seconds_in w.siblings.items (path w.classes.items l))
    (update_all (first_served w.siblings.items (left w.classes.items l w.waiting.items) w.rates.items (units len)) (firsts_in w.siblings.items (path w.classes.items l)) w.leads.items)

sent_row : (w : Watch) (l len : ℕ) (real : Bool) (start : ℕ) (h : HfscHistory) → Represents w h → IsHead (leaf h l).waiting len
    → (i : ℕ) (s : Siblings) → slice_get w.siblings.items i ≡ Some s → slice_get (leads_after w l len) i ≡ Some (lead_of w.classes.items s (Sent l len real start ∷ h))
sent_row w l len real start h stand head i s e =
    second_all
    ∙ some_map (second_served ss (left cs l ws) rates (units len) i) (is_in i (seconds_in ss (path cs l))) (slice_get (update_all (first_served ss (left cs l ws) rates (units len)) (firsts_in ss (path cs l)) ls) i)
    (if is_in i (firsts_in ss (path cs l)) then first_served ss (left cs l ws) rates (units len) i was else was)
    (first_all ∙ some_map (first_served ss (left cs l ws) rates (units len) i) (is_in i (firsts_in ss (path cs l))) (slice_get ls i) was (stand.lead_at i s e))
    ∙ ap (λ (y : Lead). Some y) (shape ∙ row_is _ _ _ _ _ _ _ _ _ (row_known cs h l len real start s stand.tree stand.heads stand.few head pair))
  where
    cs : List HfscClass
    cs = w.classes.items

    ss : List Siblings
    ss = w.siblings.items

    rates : List (Option ℕ)
    rates = w.rates.items

    ws : List ℕ
    ws = w.waiting.items

    ls : List Lead
    ls = w.leads.items

    was : Lead
    was = lead_of cs s h

    pair : IsPair cs s
    pair = row_pair cs ss i s w.pairs_are e

    low : i < length ss
    low = slice_get_within ss i s e

    first_low : s.first < length cs
    first_low = child_within cs pair.parent s.first pair.first

    second_low : s.second < length cs
    second_low = child_within cs pair.parent s.second pair.second

    second_all : slice_get (update_all (second_served ss (left cs l ws) rates (units len)) (seconds_in ss (path cs l)) (update_all (first_served ss (left cs l ws) rates (units len)) (firsts_in ss (path cs l)) ls)) i
        ≡ (if is_in i (seconds_in ss (path cs l)) then option_map (second_served ss (left cs l ws) rates (units len) i) (slice_get (update_all (first_served ss (left cs l ws) rates (units len)) (firsts_in ss (path cs l)) ls) i)
        else slice_get (update_all (first_served ss (left cs l ws) rates (units len)) (firsts_in ss (path cs l)) ls) i)
    second_all = updated (second_served ss (left cs l ws) rates (units len)) (seconds_in ss (path cs l)) (update_all (first_served ss (left cs l ws) rates (units len)) (firsts_in ss (path cs l)) ls) i
        (passes_apart (λ j. second_in (path cs l) (slice_get ss j)) 0 (length ss))

    first_all : slice_get (update_all (first_served ss (left cs l ws) rates (units len)) (firsts_in ss (path cs l)) ls) i
        ≡ (if is_in i (firsts_in ss (path cs l)) then option_map (first_served ss (left cs l ws) rates (units len) i) (slice_get ls i) else slice_get ls i)
    first_all = updated (first_served ss (left cs l ws) rates (units len)) (firsts_in ss (path cs l)) ls i
        (passes_apart (λ j. first_in (path cs l) (slice_get ss j)) 0 (length ss))

    first_is : is_in i (firsts_in ss (path cs l)) ≡ is_under cs s.first l
    first_is = passes_in (λ j. first_in (path cs l) (slice_get ss j)) 0 (length ss) i (omega arith) (omega (arith, low)) ∙ ap (first_in (path cs l)) e

    second_is : is_in i (seconds_in ss (path cs l)) ≡ is_under cs s.second l
    second_is = passes_in (λ j. second_in (path cs l) (slice_get ss j)) 0 (length ss) i (omega arith) (omega (arith, low)) ∙ ap (second_in (path cs l)) e

    both : both_active (left cs l ws) s ≡ (active cs (Sent l len real start ∷ h) s.first && active cs (Sent l len real start ∷ h) s.second)
    both = both_is cs (left cs l ws) s (Sent l len real start ∷ h) (head, stand.heads)
        (left_waits cs h l len real start s.first ws stand.tree.tree (stand.waits s.first first_low))
        (left_waits cs h l len real start s.second ws stand.tree.tree (stand.waits s.second second_low))

    gain_small : (c : ℕ) → rate_in cs c ≤ 10 ^ 12 → units len * rate_in cs c < 2 ^ 128
    gain_small c r = let one = product_small (units len) (rate_in cs c) (sent_units cs h l len stand.heads head) r in omega (arith, one)

    second_gain : gain_of (units len) (rate_at rates s.second) ≡ units len * rate_in cs s.second
    second_gain = gain_is (units len) (rate_in cs s.second) (rate_at rates s.second) (ap or_zero (rate_is cs rates s.second w.rates_are second_low))
        (gain_small s.second (rate_small cs pair.parent s.second stand.tree pair.second))

    first_gain : gain_of (units len) (rate_at rates s.first) ≡ units len * rate_in cs s.first
    first_gain = gain_is (units len) (rate_in cs s.first) (rate_at rates s.first) (ap or_zero (rate_is cs rates s.first w.rates_are first_low))
        (gain_small s.first (rate_small cs pair.parent s.first stand.tree pair.first))

    first_does : (y : Lead) → first_served ss (left cs l ws) rates (units len) i y
        ≡ after_gains y (active cs (Sent l len real start ∷ h) s.first && active cs (Sent l len real start ∷ h) s.second) (units len * rate_in cs s.second) 0
    first_does y =
        ap (λ (o : Option Siblings). elim o [ None ↦ y | Some k ↦ after_gains y (both_active (left cs l ws) k) (gain_of (units len) (rate_at rates k.second)) 0 ]) e
        ∙ ap (λ (b : Bool). after_gains y b (gain_of (units len) (rate_at rates s.second)) 0) both
        ∙ ap (λ (m : ℕ). after_gains y (active cs (Sent l len real start ∷ h) s.first && active cs (Sent l len real start ∷ h) s.second) m 0) second_gain

    second_does : (y : Lead) → second_served ss (left cs l ws) rates (units len) i y
        ≡ after_gains y (active cs (Sent l len real start ∷ h) s.first && active cs (Sent l len real start ∷ h) s.second) 0 (units len * rate_in cs s.first)
    second_does y =
        ap (λ (o : Option Siblings). elim o [ None ↦ y | Some k ↦ after_gains y (both_active (left cs l ws) k) 0 (gain_of (units len) (rate_at rates k.first)) ]) e
        ∙ ap (λ (b : Bool). after_gains y b 0 (gain_of (units len) (rate_at rates s.first))) both
        ∙ ap (λ (m : ℕ). after_gains y (active cs (Sent l len real start ∷ h) s.first && active cs (Sent l len real start ∷ h) s.second) 0 m) first_gain

    choose : (f g : Lead → Lead) (b d : Bool) (y z : Lead) → b ≡ d → ((w : Lead) → f w ≡ g w) → y ≡ z → (if b then f y else y) ≡ (if d then g z else z)
    choose f g true true y z p q r = q y ∙ ap g r
    choose f g true false y z p q r = absurd cc
    choose f g false true y z p q r = absurd cc
    choose f g false false y z p q r = r

    shape : (if is_in i (seconds_in ss (path cs l))
        then second_served ss (left cs l ws) rates (units len) i (if is_in i (firsts_in ss (path cs l)) then first_served ss (left cs l ws) rates (units len) i was else was)
        else (if is_in i (firsts_in ss (path cs l)) then first_served ss (left cs l ws) rates (units len) i was else was))
        ≡ after_row (lead_of cs s h) (active cs (Sent l len real start ∷ h) s.first && active cs (Sent l len real start ∷ h) s.second) (is_under cs s.first l) (is_under cs s.second l)
        (units len * rate_in cs s.second) (units len * rate_in cs s.first)
    shape =
        choose (second_served ss (left cs l ws) rates (units len) i)
        (λ y. after_gains y (active cs (Sent l len real start ∷ h) s.first && active cs (Sent l len real start ∷ h) s.second) 0 (units len * rate_in cs s.first))
        (is_in i (seconds_in ss (path cs l))) (is_under cs s.second l) _ _ second_is second_does
        (choose (first_served ss (left cs l ws) rates (units len) i)
        (λ y. after_gains y (active cs (Sent l len real start ∷ h) s.first && active cs (Sent l len real start ∷ h) s.second) (units len * rate_in cs s.second) 0)
        (is_in i (firsts_in ss (path cs l))) (is_under cs s.first l) was (lead_of cs s h) first_is first_does refl)

abbrev pub left_of : Place → List ℕ → List ℕ
left_of x ws = if x.leaf then update_all one_less x.path.items ws else ws

abbrev pub served : List Siblings → Place → List (Option ℕ) → (amount : ℕ) → (ws : List ℕ) → List Lead → List Lead
served ss x rates u ws ls = update_all (second_served ss ws rates u) x.seconds.items (update_all (first_served ss ws rates u) x.firsts.items ls)

pub sent_stands : (w : Watch) (x : Place) (l len : ℕ) (real : Bool) (start : ℕ) (h : HfscHistory)
    → IsPlace w.classes.items w.siblings.items l x → Represents w h → IsHead (leaf h l).waiting len
    → Stand w.classes.items w.siblings.items (left_of x w.waiting.items) (served w.siblings.items x w.rates.items (units len) (left_of x w.waiting.items) w.leads.items)
    (max w.longest len) (Sent l len real start ∷ h)
sent_stands w x l len real start h place s head = record {
  tree = s.tree;
  heads = (head, s.heads);
  few = s.few;
  longest_is = let was = s.longest_is in omega (arith, was);
  waits = λ c low. ap (λ (ys : List ℕ). slice_get ys c) waits_are ∙ left_waits cs h l len real start c ws s.tree.tree (s.waits c low);
  lead_at = λ i k e. ap (λ (ys : List Lead). slice_get ys i) leads_are
      ∙ sent_row w l len real start h s head i k e;
}
  where
    cs : List HfscClass
    cs = w.classes.items

    ss : List Siblings
    ss = w.siblings.items

    rates : List (Option ℕ)
    rates = w.rates.items

    ws : List ℕ
    ws = w.waiting.items

    waits_are : left_of x ws ≡ left cs l ws
    waits_are = ap (λ (b : Bool). if b then update_all one_less x.path.items ws else ws) place.ends
        ∙ ap (λ (way : List ℕ). if is_leaf cs l then update_all one_less way ws else ws) place.way

    leads_are : served ss x rates (units len) (left_of x ws) w.leads.items
        ≡ update_all (second_served ss (left cs l ws) rates (units len)) (seconds_in ss (path cs l)) (update_all (first_served ss (left cs l ws) rates (units len)) (firsts_in ss (path cs l)) w.leads.items)
    leads_are =
        ap (λ (ys : List ℕ). served ss x rates (units len) ys w.leads.items) waits_are
        ∙ ap (λ (is : List ℕ). update_all (second_served ss (left cs l ws) rates (units len)) is (update_all (first_served ss (left cs l ws) rates (units len)) x.firsts.items w.leads.items)) place.seconds
        ∙ ap (λ (is : List ℕ). update_all (second_served ss (left cs l ws) rates (units len)) (seconds_in ss (path cs l)) (update_all (first_served ss (left cs l ws) rates (units len)) is w.leads.items)) place.firsts

-- a class beyond the tree stands under none of it
not_under : (cs : List HfscClass) (l c : ℕ) → IsTree cs → length cs ≤ l → c < length cs → is_under cs c l ≡ false
not_under cs l c t beyond low = go (is_under cs c l) refl
  where
    nothing : (ks : List HfscClass) (m : ℕ) → length ks ≤ m → (class_of ks m).parent ≡ None
    nothing [] m e = refl
    nothing (k ∷ ks) zero e = absurd (omega (arith, e))
    nothing (k ∷ ks) (suc m) e = nothing ks m (omega (arith, e))

    alone : (l ≡ c) ⊎ IsUp cs c l → ⊥
    alone (inl s) = omega (arith, s, beyond, low)
    alone (inr x) = let none = nothing cs l beyond in let has = x.of in absurd cc

    go : (b : Bool) → is_under cs c l ≡ b → b ≡ false
    go true e = absurd (alone (same_or_up cs c l t e))
    go false e = refl

row_off : (cs : List HfscClass) (h : HfscHistory) (l len : ℕ) (real : Bool) (start : ℕ) (s : Siblings) → IsClassTree cs → AreHeads h → kept_in h ≤ 4000000
    → IsHead (leaf h l).waiting len → IsPair cs s → is_under cs s.first l ≡ false → is_under cs s.second l ≡ false
    → lead_of cs s h ≡ lead_of cs s (Sent l len real start ∷ h)
row_off cs h l len real start s tree heads few head pair u v =
    sym (ap (λ (b : Bool). after_row (lead_of cs s h) (active cs (Sent l len real start ∷ h) s.first && active cs (Sent l len real start ∷ h) s.second) b (is_under cs s.second l)
    (units len * rate_in cs s.second) (units len * rate_in cs s.first)) u
    ∙ ap (λ (b : Bool). after_row (lead_of cs s h) (active cs (Sent l len real start ∷ h) s.first && active cs (Sent l len real start ∷ h) s.second) false b
    (units len * rate_in cs s.second) (units len * rate_in cs s.first)) v)
    ∙ row_is _ _ _ _ _ _ _ _ _ (row_known cs h l len real start s tree heads few head pair)

pub sent_beyond : (cs : List HfscClass) (ss : List Siblings) (ws : List ℕ) (ls : List Lead) (n l len : ℕ) (real : Bool) (start : ℕ) (h : HfscHistory) → length cs ≤ l
    → ss ≡ rows cs → Stand cs ss ws ls n h → IsHead (leaf h l).waiting len → Stand cs ss ws ls (max n len) (Sent l len real start ∷ h)
sent_beyond cs ss ws ls n l len real start h beyond pairs s head = record {
  tree = s.tree;
  heads = (head, s.heads);
  few = s.few;
  longest_is = let was = s.longest_is in omega (arith, was);
  waits = λ c low. s.waits c low ∙ ap (λ (m : ℕ). Some m) (sym (ap (λ (b : Bool). if b && is_under cs c l then held cs c h - 1 else held cs c h) (no_leaf cs l beyond)));
  lead_at = λ i k e.
      let pair = row_pair cs ss i k pairs e in
      s.lead_at i k e ∙ ap (λ (y : Lead). Some y) (row_off cs h l len real start k s.tree s.heads s.few head pair
      (not_under cs l k.first s.tree.tree beyond (child_within cs pair.parent k.first pair.first))
      (not_under cs l k.second s.tree.tree beyond (child_within cs pair.parent k.second pair.second)));
}

-- the places of a path are classes
pub way_below : (cs : List HfscClass) (ss : List Siblings) (l : ℕ) (x : Place) → IsTree cs → l < length cs → IsPlace cs ss l x
    → (k : ℕ) → k < length x.path.items → slice_index x.path.items k < length cs
way_below cs ss l x t low place = subst (λ (way : List ℕ). (k : ℕ) → k < length way → slice_index way k < length cs) (sym place.way) (path_below cs l t low)

pub firsts_low : (cs : List HfscClass) (ss : List Siblings) (l : ℕ) (x : Place) → IsPlace cs ss l x → (k : ℕ) → k < length x.firsts.items → slice_index x.firsts.items k < length ss
firsts_low cs ss l x place = subst (λ (is : List ℕ). (k : ℕ) → k < length is → slice_index is k < length ss) (sym place.firsts) (firsts_below ss (path cs l))

pub seconds_low : (cs : List HfscClass) (ss : List Siblings) (l : ℕ) (x : Place) → IsPlace cs ss l x → (k : ℕ) → k < length x.seconds.items → slice_index x.seconds.items k < length ss
seconds_low cs ss l x place = subst (λ (is : List ℕ). (k : ℕ) → k < length is → slice_index is k < length ss) (sym place.seconds) (seconds_below ss (path cs l))
