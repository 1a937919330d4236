-- No more packets are sent than were kept, and each has the size of one that was kept.
use Rattle.std.proofs.Common.{◌≡◌, ◌≤◌, ◌+◌, ◌-◌, ℕ, Bool, true, false, List, [], ◌∷◌, ◌++◌, length, refl, ap, subst, arith, ◌∙◌, drop}
use Rattle.std.specs.Prelude.{◌==◌, if◌then◌else◌}
use Rattle.std.proofs.lemmas.Bool.Decides.{nat_tests}
use Rattle.altq_model.specs.Laws.{occurs}
use Rattle.hfsc_model.specs.Event.{HfscHistory, Enqueued, Sent}
use Rattle.hfsc_model.specs.Leaf.{Leaf, Waiting, leaf, after_kept, after_sent}
use Rattle.hfsc_model.specs.Timely.{IsHead}
use Rattle.hfsc_policy.specs.Heads.{IsSized, AreHeads, AreWithin, AreFew, kept_in, sent_in}

-- the classes of the packets that wait, one for each packet
abbrev without_one : ℕ → List ℕ → List ℕ
without_one c [] = []
without_one c (d ∷ ds) = if d == c then ds else d ∷ without_one c ds

abbrev left : HfscHistory → List ℕ
left [] = []
left (Enqueued c at len ∷ h) = c ∷ left h
left (Sent c len real start ∷ h) = without_one c (left h)

occurs_less : (c d : ℕ) (xs : List ℕ) → occurs c (without_one d xs) ≡ (if d == c then occurs c xs - 1 else occurs c xs)
occurs_less c d [] = go (d == c)
  where
    go : (b : Bool) → 0 ≡ (if b then 0 - 1 else 0)
    go true = omega arith
    go false = refl
occurs_less c d (x ∷ xs) = go (x == d) refl (d == c) refl (x == c) refl (occurs_less c d xs)
  where
    go : (a : Bool) → (x == d) ≡ a → (b : Bool) → (d == c) ≡ b → (k : Bool) → (x == c) ≡ k → occurs c (without_one d xs) ≡ (if (d == c) then occurs c xs - 1 else occurs c xs)
        → occurs c (if a then xs else x ∷ without_one d xs) ≡ (if b then ((if k then 1 else 0) + occurs c xs) - 1 else (if k then 1 else 0) + occurs c xs)
    go true e true f true g rest = omega arith
    go true e true f false g rest = absurd (grind (arith, nat_tests, e, f, g))
    go true e false f true g rest = absurd (grind (arith, nat_tests, e, f, g))
    go true e false f false g rest = omega arith
    go false e true f true g rest = absurd (grind (arith, nat_tests, e, f, g))
    go false e true f false g rest =
        let same : occurs c (without_one d xs) ≡ occurs c xs - 1 = rest ∙ ap (λ (t : Bool). if t then occurs c xs - 1 else occurs c xs) f in
        rw g (omega (arith, same))
    go false e false f k g rest =
        let same : occurs c (without_one d xs) ≡ occurs c xs = rest ∙ ap (λ (t : Bool). if t then occurs c xs - 1 else occurs c xs) f in
        ap (λ (t : Bool). (if t then 1 else 0) + occurs c (without_one d xs)) g ∙ ap (λ n. (if k then 1 else 0) + n) same

length_less : (c : ℕ) (xs : List ℕ) → 1 ≤ occurs c xs → length (without_one c xs) + 1 ≡ length xs
length_less c [] e = absurd (omega (arith, e))
length_less c (x ∷ xs) e = go (x == c) refl (length_less c xs)
  where
    go : (b : Bool) → (x == c) ≡ b → (1 ≤ occurs c xs → length (without_one c xs) + 1 ≡ length xs) → length (if b then xs else x ∷ without_one c xs) + 1 ≡ length (x ∷ xs)
    go true f rest = omega arith
    go false f rest =
        let same : occurs c (x ∷ xs) ≡ 0 + occurs c xs = ap (λ (t : Bool). (if t then 1 else 0) + occurs c xs) f in
        let more = rest (omega (arith, e, same)) in
        omega (arith, more)

long_push : (ws : List Waiting) (a : Waiting) → length (ws ++ a ∷ []) ≡ length ws + 1
long_push [] a = refl
long_push (w ∷ ws) a = let rest = long_push ws a in omega (arith, rest)

long_drop : (ws : List Waiting) → length (drop 1 ws) ≡ length ws - 1
long_drop [] = omega arith
long_drop (w ∷ ws) = omega arith

left_is : (c : ℕ) (h : HfscHistory) → occurs c (left h) ≡ length (leaf h c).waiting
left_is c [] = refl
left_is c (Enqueued d at len ∷ h) = go (d == c) refl (left_is c h)
  where
    go : (m : Bool) → (d == c) ≡ m → occurs c (left h) ≡ length (leaf h c).waiting
        → occurs c (d ∷ left h) ≡ length (if m then after_kept at len (leaf h c) else leaf h c).waiting
    go true e rest = let more = long_push (leaf h c).waiting (record { at = at; len = len }) in rw e (omega (arith, rest, more))
    go false e rest = rw e (omega (arith, rest))
left_is c (Sent d len real start ∷ h) = occurs_less c d (left h) ∙ go (d == c) (left_is c h)
  where
    go : (m : Bool) → occurs c (left h) ≡ length (leaf h c).waiting
        → (if m then occurs c (left h) - 1 else occurs c (left h)) ≡ length (if m then after_sent len real (leaf h c) else leaf h c).waiting
    go true rest = let less = long_drop (leaf h c).waiting in omega (arith, rest, less)
    go false rest = rest

head_long : (ws : List Waiting) (len : ℕ) → IsHead ws len → 1 ≤ length ws
head_long [] len e = absurd e
head_long (w ∷ ws) len e = omega arith

balanced : (h : HfscHistory) → AreHeads h → sent_in h + length (left h) ≡ kept_in h
balanced [] a = refl
balanced (Enqueued c at len ∷ h) a = let rest = balanced h a.1 in omega (arith, rest)
balanced (Sent c len real start ∷ h) a =
    let rest = balanced h a.1 in
    let some = head_long (leaf h c).waiting len a.0 in
    let same = left_is c h in
    let less = length_less c (left h) (omega (arith, some, same)) in
    omega (arith, rest, less)

-- what waits has the size of a packet, so what is sent has
abbrev HaveSizes : List Waiting → Type 0
HaveSizes [] = Unit {0}
HaveSizes (w ∷ ws) = IsSized w.len × HaveSizes ws

sized_push : (ws : List Waiting) (a : Waiting) → HaveSizes ws → IsSized a.len → HaveSizes (ws ++ a ∷ [])
sized_push [] a x y = (y, tt)
sized_push (w ∷ ws) a x y = (x.0, sized_push ws a x.1 y)

sized_drop : (ws : List Waiting) → HaveSizes ws → HaveSizes (drop 1 ws)
sized_drop [] x = tt
sized_drop (w ∷ ws) x = x.1

sized_waiting : (c : ℕ) (h : HfscHistory) → AreHeads h → HaveSizes (leaf h c).waiting
sized_waiting c [] a = tt
sized_waiting c (Enqueued d at len ∷ h) a = go (d == c) (sized_waiting c h a.1)
  where
    go : (k : Bool) → HaveSizes (leaf h c).waiting → HaveSizes (if k then after_kept at len (leaf h c) else leaf h c).waiting
    go true x = sized_push (leaf h c).waiting (record { at = at; len = len }) x a.0
    go false x = x
sized_waiting c (Sent d len real start ∷ h) a = go (d == c) (sized_waiting c h a.1)
  where
    go : (k : Bool) → HaveSizes (leaf h c).waiting → HaveSizes (if k then after_sent len real (leaf h c) else leaf h c).waiting
    go true x = sized_drop (leaf h c).waiting x
    go false x = x

pub head_sized : (c len : ℕ) (h : HfscHistory) → AreHeads h → IsHead (leaf h c).waiting len → IsSized len
head_sized c len h a i = go (leaf h c).waiting (sized_waiting c h a) i
  where
    go : (ws : List Waiting) → HaveSizes ws → IsHead ws len → IsSized len
    go [] x e = absurd e
    go (w ∷ ws) x e = subst (λ n. IsSized n) e x.0

within : (h : HfscHistory) → AreHeads h → AreWithin h
within [] a = tt
within (Enqueued c at len ∷ h) a = (a.0.most, within h a.1)
within (Sent c len real start ∷ h) a = ((head_sized c len h a.1 a.0).most, within h a.1)

pub are_few : (h : HfscHistory) → AreHeads h → kept_in h ≤ 4000000 → AreFew h
are_few h a k = record { kept = k; sent = let one = balanced h a in omega (arith, one); within = within h a }
