-- A class is active exactly where a packet is held in it or below it.
use Rattle.std.proofs.Common.{◌≡◌, ◌≤◌, ◌<◌, ◌+◌, ◌-◌, ◌⊎◌, inl, inr, ℕ, zero, suc, Bool, true, false, List, [], ◌∷◌, ◌++◌, drop, length, refl, ap, sym, arith, ◌∙◌}
use Rattle.std.specs.Prelude.{◌&&◌, ◌==◌, nat_lt, not, if◌then◌else◌}
use Rattle.std.proofs.lemmas.Bool.{cases_lt}
use Rattle.std.proofs.lemmas.Bool.Decides.{nat_tests}
use Rattle.hfsc_model.specs.declared.HfscClass.{HfscClass}
use Rattle.hfsc_model.specs.Event.{HfscHistory, Enqueued, Sent}
use Rattle.hfsc_model.specs.Leaf.{Waiting, after_kept, after_sent, is_waiting, leaf}
use Rattle.hfsc_model.specs.Share.{active}
use Rattle.hfsc_model.specs.Timely.{IsHead}
use Rattle.hfsc_model.specs.Tree.{is_leaf, is_parent, is_under}
use Rattle.hfsc_laws.proofs.Sums.{sum_one, sum_same}
use Rattle.hfsc_laws.proofs.Sums.{sum_below}
use Rattle.hfsc_laws.proofs.Tree.{and_true, same_truth, true_and}
use Rattle.hfsc_policy.specs.Heads.{AreHeads}
use Rattle.hfsc_groups.proofs.Opening.{active_is, is_active, is_waits, waits_is}
use Rattle.share_gaps.specs.Leads.{held}

-- the packets that wait in the leaf d, if it is c or stands below it
abbrev here : List HfscClass → HfscHistory → (c d : ℕ) → ℕ
here cs h c d = if is_leaf cs d && is_under cs c d then length (leaf h d).waiting else 0

abbrev sum_held : List HfscClass → HfscHistory → (c : ℕ) → ℕ
sum_held cs h c = sum_below (here cs h c) (length cs)

leaf_low : (cs : List HfscClass) (l : ℕ) → is_leaf cs l ≡ true → l < length cs
leaf_low cs l e = grind (arith, nat_tests, (and_true (nat_lt l (length cs)) (not (is_parent cs l)) e).0)

-- an event changes what waits in its leaf alone
others_kept : (h : HfscHistory) (l at len d : ℕ) → (d ≡ l → ⊥) → (leaf (Enqueued l at len ∷ h) d).waiting ≡ (leaf h d).waiting
others_kept h l at len d n = go (l == d) refl
  where
    go : (b : Bool) → (l == d) ≡ b → (if b then after_kept at len (leaf h d) else leaf h d).waiting ≡ (leaf h d).waiting
    go true e = absurd (n (grind (arith, nat_tests, e)))
    go false e = refl

others_sent : (h : HfscHistory) (l len : ℕ) (real : Bool) (start d : ℕ) → (d ≡ l → ⊥) → (leaf (Sent l len real start ∷ h) d).waiting ≡ (leaf h d).waiting
others_sent h l len real start d n = go (l == d) refl
  where
    go : (b : Bool) → (l == d) ≡ b → (if b then after_sent len real (leaf h d) else leaf h d).waiting ≡ (leaf h d).waiting
    go true e = absurd (n (grind (arith, nat_tests, e)))
    go false e = refl

one_more : (ws : List Waiting) (w : Waiting) → length (ws ++ w ∷ []) ≡ length ws + 1
one_more [] w = omega arith
one_more (x ∷ xs) w = let rest = one_more xs w in omega (arith, rest)

own_kept : (h : HfscHistory) (l at len : ℕ) → length (leaf (Enqueued l at len ∷ h) l).waiting ≡ length (leaf h l).waiting + 1
own_kept h l at len = go (l == l) refl
  where
    go : (b : Bool) → (l == l) ≡ b → length (if b then after_kept at len (leaf h l) else leaf h l).waiting ≡ length (leaf h l).waiting + 1
    go true e = one_more (leaf h l).waiting (record { at = at; len = len })
    go false e = absurd (grind (arith, nat_tests, e))

one_less : (ws : List Waiting) (len : ℕ) → IsHead ws len → length ws ≡ length (drop 1 ws) + 1
one_less [] len x = absurd x
one_less (w ∷ ws) len x = omega arith

own_sent : (h : HfscHistory) (l len : ℕ) (real : Bool) (start : ℕ) → IsHead (leaf h l).waiting len
    → length (leaf h l).waiting ≡ length (leaf (Sent l len real start ∷ h) l).waiting + 1
own_sent h l len real start x = go (l == l) refl
  where
    go : (b : Bool) → (l == l) ≡ b → length (leaf h l).waiting ≡ length (if b then after_sent len real (leaf h l) else leaf h l).waiting + 1
    go true e = one_less (leaf h l).waiting len x
    go false e = absurd (grind (arith, nat_tests, e))

-- so of the sum one term, or none
same_here : (cs : List HfscClass) (g h : HfscHistory) (c d : ℕ) → (leaf g d).waiting ≡ (leaf h d).waiting → here cs g c d ≡ here cs h c d
same_here cs g h c d e = ap (λ (ws : List Waiting). if is_leaf cs d && is_under cs c d then length ws else 0) e

sum_off : (cs : List HfscClass) (g h : HfscHistory) (c l : ℕ) → (is_leaf cs l && is_under cs c l) ≡ false
    → ((d : ℕ) → (d ≡ l → ⊥) → (leaf g d).waiting ≡ (leaf h d).waiting) → sum_held cs g c ≡ sum_held cs h c
sum_off cs g h c l off same = sum_same (here cs g c) (here cs h c) (length cs) (λ d low. go d (d == l) refl)
  where
    none : (b : Bool) (n m : ℕ) → b ≡ false → (if b then n else 0) ≡ (if b then m else 0)
    none true n m e = absurd cc
    none false n m e = refl

    go : (d : ℕ) (b : Bool) → (d == l) ≡ b → here cs g c d ≡ here cs h c d
    go d true e =
        let at : d ≡ l = grind (arith, nat_tests, e) in
        none (is_leaf cs d && is_under cs c d) (length (leaf g d).waiting) (length (leaf h d).waiting) (ap (λ m. is_leaf cs m && is_under cs c m) at ∙ off)
    go d false e = same_here cs g h c d (same d (λ s. grind (arith, nat_tests, e, s)))

sum_on : (cs : List HfscClass) (g h : HfscHistory) (c l : ℕ) → (is_leaf cs l && is_under cs c l) ≡ true
    → length (leaf g l).waiting ≡ length (leaf h l).waiting + 1 → ((d : ℕ) → (d ≡ l → ⊥) → (leaf g d).waiting ≡ (leaf h d).waiting)
    → sum_held cs g c ≡ sum_held cs h c + 1
sum_on cs g h c l on more same =
    sum_one (here cs h c) (here cs g c) (length cs) l 1 (leaf_low cs l (and_true (is_leaf cs l) (is_under cs c l) on).0)
    (some (is_leaf cs l && is_under cs c l) on) (λ d n. same_here cs g h c d (same d n))
  where
    some : (b : Bool) → b ≡ true → (if b then length (leaf g l).waiting else 0) ≡ (if b then length (leaf h l).waiting else 0) + 1
    some true e = more
    some false e = absurd cc

-- the packets held are the sum of those that wait in the leaves
held_is : (cs : List HfscClass) (c : ℕ) (h : HfscHistory) → AreHeads h → held cs c h ≡ sum_held cs h c
held_is cs c [] heads = sym (nothing (length cs))
  where
    zero_is : (b : Bool) → ◌≡◌ {A = ℕ} (if b then 0 else 0) 0
    zero_is true = refl
    zero_is false = refl

    nothing : (n : ℕ) → sum_below (here cs [] c) n ≡ 0
    nothing zero = refl
    nothing (suc n) = let rest = nothing n in let one = zero_is (is_leaf cs n && is_under cs c n) in omega (arith, rest, one)
held_is cs c (Enqueued l at len ∷ h) heads = go (is_leaf cs l && is_under cs c l) refl (held_is cs c h heads.1)
  where
    go : (b : Bool) → (is_leaf cs l && is_under cs c l) ≡ b → held cs c h ≡ sum_held cs h c
        → (if b then held cs c h + 1 else held cs c h) ≡ sum_held cs (Enqueued l at len ∷ h) c
    go true e rest = let one = sum_on cs (Enqueued l at len ∷ h) h c l e (own_kept h l at len) (others_kept h l at len) in omega (arith, one, rest)
    go false e rest = let one = sum_off cs (Enqueued l at len ∷ h) h c l e (others_kept h l at len) in omega (arith, one, rest)
held_is cs c (Sent l len real start ∷ h) heads = go (is_leaf cs l && is_under cs c l) refl (held_is cs c h heads.1)
  where
    go : (b : Bool) → (is_leaf cs l && is_under cs c l) ≡ b → held cs c h ≡ sum_held cs h c
        → (if b then held cs c h - 1 else held cs c h) ≡ sum_held cs (Sent l len real start ∷ h) c
    go true e rest =
        let one = sum_on cs h (Sent l len real start ∷ h) c l e (own_sent h l len real start heads.0) (λ d n. sym (others_sent h l len real start d n)) in
        omega (arith, one, rest)
    go false e rest = let one = sum_off cs (Sent l len real start ∷ h) h c l e (others_sent h l len real start) in omega (arith, one, rest)

-- a class is active exactly where one is held
term_at : (f : ℕ → ℕ) (n k : ℕ) → k < n → f k ≤ sum_below f n
term_at f zero k low = absurd (omega arith)
term_at f (suc n) k low = go (cases_lt k n) (term_at f n k)
  where
    go : (k < n) ⊎ (n ≤ k) → (k < n → f k ≤ sum_below f n) → f k ≤ sum_below f n + f n
    go (inl m) rest = let one = rest m in omega (arith, one)
    go (inr m) rest = let same : k ≡ n = omega arith in let one : f k ≡ f n = ap f same in omega (arith, one)

some_term : (f : ℕ → ℕ) (n : ℕ) → 0 < sum_below f n → (k : ℕ) × (k < n) × (0 < f k)
some_term f zero some = absurd (omega arith)
some_term f (suc n) some = go (cases_lt 0 (f n)) (some_term f n)
  where
    go : (0 < f n) ⊎ (f n ≤ 0) → (0 < sum_below f n → (k : ℕ) × (k < n) × (0 < f k)) → (k : ℕ) × (k < suc n) × (0 < f k)
    go (inl m) rest = (n, omega arith, m)
    go (inr m) rest = let x = rest (omega (arith, some, m)) in let low = x.1 in (x.0, omega (arith, low), x.2)

waits_some : (ws : List Waiting) → is_waiting ws ≡ true → 0 < length ws
waits_some [] e = absurd cc
waits_some (w ∷ ws) e = omega arith

some_waits : (ws : List Waiting) → 0 < length ws → is_waiting ws ≡ true
some_waits [] e = absurd (omega arith)
some_waits (w ∷ ws) e = refl

pub active_is_held : (cs : List HfscClass) (c : ℕ) (h : HfscHistory) → AreHeads h → active cs h c ≡ nat_lt 0 (held cs c h)
active_is_held cs c h heads = same_truth (active cs h c) (nat_lt 0 (held cs c h)) there back
  where
    there : active cs h c ≡ true → nat_lt 0 (held cs c h) ≡ true
    there e =
        let x = active_is cs h c e in
        let w = waits_is cs h c x.one x.waits in
        let at = term_at (here cs h c) (length cs) x.one w.low in
        let is = one (is_leaf cs x.one && is_under cs c x.one) (length (leaf h x.one).waiting) (true_and (is_leaf cs x.one) (is_under cs c x.one) w.leaf_is w.under) in
        let some = waits_some (leaf h x.one).waiting w.waiting in
        let sum = held_is cs c h heads in
        let more : 0 < held cs c h = omega (arith, at, is, some, sum) in
        grind (arith, nat_tests, more)
      where
        one : (b : Bool) (n : ℕ) → b ≡ true → (if b then n else 0) ≡ n
        one true n f = refl
        one false n f = absurd cc

    back : nat_lt 0 (held cs c h) ≡ true → active cs h c ≡ true
    back e =
        let more : 0 < held cs c h = grind (arith, nat_tests, e) in
        let sum = held_is cs c h heads in
        let x = some_term (here cs h c) (length cs) (omega (arith, more, sum)) in
        found x.0 (is_leaf cs x.0 && is_under cs c x.0) refl x.2
      where
        found : (d : ℕ) (b : Bool) → (is_leaf cs d && is_under cs c d) ≡ b → 0 < (if b then length (leaf h d).waiting else 0) → active cs h c ≡ true
        found d true f some =
            let both = and_true (is_leaf cs d) (is_under cs c d) f in
            is_active cs h c d (is_waits cs h c d both.0 both.1 (some_waits (leaf h d).waiting some))
        found d false f some = absurd (omega arith)
