-- Both choices stand for the longer history.
use Rattle.std.proofs.Common.{◌≡◌, ◌≤◌, ◌^◌, ℕ, Bool, true, false, List, [], ◌∷◌, Some, refl, ap, sym, subst, arith, ◌∙◌, drop}
use Rattle.std.specs.Prelude.{Option, ◌==◌, not, is_some, if◌then◌else◌}
use Rattle.std.proofs.lemmas.Bool.Decides.{nat_tests}
use Rattle.ranking.proofs.Ranks.{same_test}
use Rattle.runtime_curve.specs.declared.Opening.{Opening}
use Rattle.hfsc_model.specs.declared.HfscClass.{HfscClass}
use Rattle.hfsc_model.specs.Event.{HfscHistory, Enqueued, Sent}
use Rattle.hfsc_model.specs.Leaf.{Waiting, leaf, head_len, is_waiting, opened, after_kept, after_sent}
use Rattle.hfsc_model.specs.RealTime.{IsOpenBy, AreOpenBy}
use Rattle.hfsc_model.specs.Timely.{IsHead}
use Rattle.hfsc_model.specs.Tree.{is_leaf, reals}
use Rattle.hfsc_policy.specs.Classes.{IsClassTree}
use Rattle.hfsc_policy.specs.Heads.{AreHeads, kept_in}
use Rattle.hfsc_policy.proofs.Few.{are_few, head_sized}
use Rattle.hfsc_policy.proofs.Small.{counts_small, totals_small, times_small}
use Rattle.hfsc_eligible.specs.Eligible.{Represents as HoldsReal}
use Rattle.hfsc_groups.specs.Classes.{AreSmall}
use Rattle.hfsc_share.specs.Shares.{Represents as HoldsShare}
use Rattle.hfsc_core.specs.declared.chooser.Chooser.{Chooser}
use Rattle.hfsc_core.specs.Chooser.{MayKeep, MayLeave, Represents, classes_of, woken_at}

-- no number passes what is kept of it
pub small : (cs : List HfscClass) (h : HfscHistory) → IsClassTree cs → AreHeads h → kept_in h ≤ 4000000 → AreSmall cs h
small cs h k a f c =
    let few = are_few h a f in
    let one = totals_small cs h c few in
    let two = times_small cs h c k few in
    record { units = omega (arith, one); time = omega (arith, two) }

pub count_most : (h : HfscHistory) (c : ℕ) → AreHeads h → kept_in h ≤ 4000000 → (leaf h c).count ≤ 2 ^ 99
count_most h c a f = let one = counts_small h c (are_few h a f) in omega (arith, one)

-- openings
pub later_open : (os : List Opening) (t u : ℕ) → t ≤ u → IsOpenBy os t → IsOpenBy os u
later_open [] t u l b = tt
later_open (o ∷ os) t u l b = let one = b.0 in (omega (arith, one, l), later_open os t u l b.1)

opened_by : (ws : List Waiting) (at count t : ℕ) (os : List Opening) → IsOpenBy os t → at ≤ t → IsOpenBy (opened ws at count os) t
opened_by [] at count t os b l = (l, b)
opened_by (w ∷ ws) at count t os b l = b

opened_not : (ws : List Waiting) (at count t : ℕ) (os : List Opening) → IsOpenBy os t → is_waiting ws ≡ true → IsOpenBy (opened ws at count os) t
opened_not [] at count t os b e = absurd cc
opened_not (w ∷ ws) at count t os b e = b

open_kept : (h : HfscHistory) (class at len t : ℕ) → AreOpenBy h t → at ≤ t → AreOpenBy (Enqueued class at len ∷ h) t
open_kept h class at len t b l c = go (class == c)
  where
    go : (k : Bool) → IsOpenBy (if k then after_kept at len (leaf h c) else leaf h c).openings t
    go true = opened_by (leaf h c).waiting at (leaf h c).count t (leaf h c).openings (b c) l
    go false = b c

open_more : (h : HfscHistory) (class at len t : ℕ) → AreOpenBy h t → is_waiting (leaf h class).waiting ≡ true → AreOpenBy (Enqueued class at len ∷ h) t
open_more h class at len t b w c = go (class == c) refl
  where
    go : (k : Bool) → (class == c) ≡ k → IsOpenBy (if k then after_kept at len (leaf h c) else leaf h c).openings t
    go true e =
        let same : class ≡ c = grind (arith, nat_tests, e) in
        opened_not (leaf h c).waiting at (leaf h c).count t (leaf h c).openings (b c) (subst (λ n. is_waiting (leaf h n).waiting ≡ true) same w)
    go false e = b c

open_sent : (h : HfscHistory) (class len start t : ℕ) (real : Bool) → AreOpenBy h t → AreOpenBy (Sent class len real start ∷ h) t
open_sent h class len start t real b c = go (class == c)
  where
    go : (k : Bool) → IsOpenBy (if k then after_sent len real (leaf h c) else leaf h c).openings t
    go true = b c
    go false = b c

-- inner classes hold nothing
inside_kept : (cs : List HfscClass) (h : HfscHistory) (class at len : ℕ) → is_leaf cs class ≡ true → ((c : ℕ) → is_leaf cs c ≡ false → (leaf h c).waiting ≡ [])
    → (c : ℕ) → is_leaf cs c ≡ false → (leaf (Enqueued class at len ∷ h) c).waiting ≡ []
inside_kept cs h class at len l f c n = go (class == c) refl
  where
    go : (k : Bool) → (class == c) ≡ k → (if k then after_kept at len (leaf h c) else leaf h c).waiting ≡ []
    go true e =
        let same : class ≡ c = grind (arith, nat_tests, e) in
        let both = ap (is_leaf cs) same in
        absurd cc
    go false e = f c n

inside_sent : (cs : List HfscClass) (h : HfscHistory) (class len start : ℕ) (real : Bool) → ((c : ℕ) → is_leaf cs c ≡ false → (leaf h c).waiting ≡ [])
    → (c : ℕ) → is_leaf cs c ≡ false → (leaf (Sent class len real start ∷ h) c).waiting ≡ []
inside_sent cs h class len start real f c n = go (class == c)
  where
    go : (k : Bool) → (if k then after_sent len real (leaf h c) else leaf h c).waiting ≡ []
    go true = ap (λ (ws : List Waiting). drop 1 ws) (f c n)
    go false = f c n

-- a packet that is kept
pub kept_first : (x y : Chooser) (h : HfscHistory) (class at len : ℕ) (empty : Bool) → MayKeep x h class at len empty → classes_of y ≡ classes_of x → woken_at y ≡ at
    → HoldsReal y.eligible (reals (classes_of x)) (Enqueued class at len ∷ h) → HoldsShare y.shares (classes_of x) (Enqueued class at len ∷ h) → Represents y (Enqueued class at len ∷ h)
kept_first x y h class at len empty m same woken r s =
    let t = m.stands in
    let few = m.few in
    subst (λ (cs : List HfscClass). (IsClassTree cs → HoldsReal y.eligible (reals cs) (Enqueued class at len ∷ h) → HoldsShare y.shares cs (Enqueued class at len ∷ h)
    → ((c : ℕ) → is_leaf cs c ≡ false → (leaf (Enqueued class at len ∷ h) c).waiting ≡ []) → Represents y (Enqueued class at len ∷ h))) same
    (λ tree real share inside. record {
      tree = tree;
      real = real;
      share = share;
      opened = subst (λ n. AreOpenBy (Enqueued class at len ∷ h) n) (sym woken) (λ c. open_kept h class at len at (λ d. later_open (leaf h d).openings (woken_at x) at m.later (t.opened d)) (omega arith) c);
      packets = (m.sized, t.packets);
      inside = inside;
      few = omega (arith, few);
    }) t.tree r s (inside_kept (classes_of x) h class at len m.of_leaf t.inside)

pub kept_more : (x : Chooser) (h : HfscHistory) (class at len : ℕ) (empty : Bool) → MayKeep x h class at len empty → empty ≡ false
    → HoldsReal x.eligible (reals (classes_of x)) (Enqueued class at len ∷ h) → HoldsShare x.shares (classes_of x) (Enqueued class at len ∷ h) → Represents x (Enqueued class at len ∷ h)
kept_more x h class at len empty m e r s =
    let t = m.stands in
    let few = m.few in
    let waits : is_waiting (leaf h class).waiting ≡ true = m.waits ∙ ap not e in
    record {
      tree = t.tree;
      real = r;
      share = s;
      opened = open_more h class at len (woken_at x) t.opened waits;
      packets = (m.sized, t.packets);
      inside = inside_kept (classes_of x) h class at len m.of_leaf t.inside;
      few = omega (arith, few);
    }

pub kept_small : (x : Chooser) (h : HfscHistory) (class at len : ℕ) (empty : Bool) → MayKeep x h class at len empty → AreSmall (classes_of x) (Enqueued class at len ∷ h)
kept_small x h class at len empty m =
    let few = m.few in small (classes_of x) (Enqueued class at len ∷ h) m.stands.tree (m.sized, m.stands.packets) (omega (arith, few))

pub kept_waits : (x : Chooser) (h : HfscHistory) (class at len : ℕ) (empty : Bool) → MayKeep x h class at len empty → empty ≡ false → is_waiting (leaf h class).waiting ≡ true
kept_waits x h class at len empty m e = m.waits ∙ ap not e

-- a head that is sent
pub sent_waiting : (h : HfscHistory) (class len start : ℕ) (real : Bool) → (leaf (Sent class len real start ∷ h) class).waiting ≡ drop 1 (leaf h class).waiting
sent_waiting h class len start real = rw (same_test class) refl

some_head : (ws : List Waiting) → is_waiting ws ≡ is_some (head_len ws)
some_head [] = refl
some_head (w ∷ ws) = refl

pub sent_waits : (x : Chooser) (h : HfscHistory) (class len start : ℕ) (real : Bool) (head : Option ℕ) (none : Bool) → MayLeave x h class len head → is_some head ≡ not none
    → is_waiting (leaf (Sent class len real start ∷ h) class).waiting ≡ not none
sent_waits x h class len start real head none m e =
    ap is_waiting (sent_waiting h class len start real) ∙ some_head (drop 1 (leaf h class).waiting) ∙ ap is_some (sym m.next) ∙ e

pub sent_next : (x : Chooser) (h : HfscHistory) (class len start : ℕ) (real : Bool) (head : Option ℕ) → MayLeave x h class len head
    → head_len (leaf (Sent class len real start ∷ h) class).waiting ≡ head
sent_next x h class len start real head m = ap head_len (sent_waiting h class len start real) ∙ sym m.next

pub sent_small : (x : Chooser) (h : HfscHistory) (class len start : ℕ) (real : Bool) (head : Option ℕ) → MayLeave x h class len head
    → AreSmall (classes_of x) (Sent class len real start ∷ h)
sent_small x h class len start real head m = small (classes_of x) (Sent class len real start ∷ h) m.stands.tree (m.front, m.stands.packets) m.stands.few

pub sent_count : (x : Chooser) (h : HfscHistory) (class len start : ℕ) (real : Bool) (head : Option ℕ) → MayLeave x h class len head
    → (leaf (Sent class len real start ∷ h) class).count ≤ 2 ^ 99
sent_count x h class len start real head m = count_most (Sent class len real start ∷ h) class (m.front, m.stands.packets) m.stands.few

pub sent_stands : (x y : Chooser) (h : HfscHistory) (class len start : ℕ) (real : Bool) (head : Option ℕ) → MayLeave x h class len head → classes_of y ≡ classes_of x
    → woken_at y ≡ woken_at x → HoldsReal y.eligible (reals (classes_of x)) (Sent class len real start ∷ h) → HoldsShare y.shares (classes_of x) (Sent class len real start ∷ h)
    → Represents y (Sent class len real start ∷ h)
sent_stands x y h class len start real head m same woken r s =
    let t = m.stands in
    subst (λ (cs : List HfscClass). (IsClassTree cs → HoldsReal y.eligible (reals cs) (Sent class len real start ∷ h) → HoldsShare y.shares cs (Sent class len real start ∷ h)
    → ((c : ℕ) → is_leaf cs c ≡ false → (leaf (Sent class len real start ∷ h) c).waiting ≡ []) → Represents y (Sent class len real start ∷ h))) same
    (λ tree rs share inside. record {
      tree = tree;
      real = rs;
      share = share;
      opened = subst (λ n. AreOpenBy (Sent class len real start ∷ h) n) (sym woken) (open_sent h class len start (woken_at x) real t.opened);
      packets = (m.front, t.packets);
      inside = inside;
      few = t.few;
    }) t.tree r s (inside_sent (classes_of x) h class len start real t.inside)

-- the leaf of a head
pub sent_leaf : (x : Chooser) (h : HfscHistory) (class len : ℕ) (head : Option ℕ) → MayLeave x h class len head → is_leaf (classes_of x) class ≡ true
sent_leaf x h class len head m = go (is_leaf (classes_of x) class) refl
  where
    go : (b : Bool) → is_leaf (classes_of x) class ≡ b → is_leaf (classes_of x) class ≡ true
    go true e = e
    go false e = absurd (subst (λ (ws : List Waiting). IsHead ws len) (m.stands.inside class e) m.front)

head_of_front : (ws : List Waiting) (len : ℕ) → IsHead ws len → (head_len ws ≡ Some len) × (is_waiting ws ≡ true)
head_of_front [] len e = absurd e
head_of_front (w ∷ ws) len e = (ap Some e, refl)

pub sent_front : (x : Chooser) (h : HfscHistory) (class len : ℕ) (head : Option ℕ) → MayLeave x h class len head
    → (head_len (leaf h class).waiting ≡ Some len) × (is_waiting (leaf h class).waiting ≡ true)
sent_front x h class len head m = head_of_front (leaf h class).waiting len m.front

head_from : (ws : List Waiting) (n : ℕ) → head_len ws ≡ Some n → IsHead ws n
head_from [] n e = absurd cc
head_from (w ∷ ws) n e = cc

pub sent_next_long : (x : Chooser) (h : HfscHistory) (class len n : ℕ) (head : Option ℕ) → MayLeave x h class len head → head ≡ Some n → 1 ≤ n
sent_next_long x h class len n head m e =
    let k : HfscHistory = Sent class len true 0 ∷ h in
    let front = subst (λ (ws : List Waiting). IsHead ws n) (sym (sent_waiting h class len 0 true)) (head_from (drop 1 (leaf h class).waiting) n (sym m.next ∙ e)) in
    (head_sized class n k (m.front, m.stands.packets) front).least

-- classes without a packet
pub new_stands : (x : Chooser) (cs : List HfscClass) → IsClassTree cs → classes_of x ≡ cs → HoldsReal x.eligible (reals cs) [] → HoldsShare x.shares cs [] → Represents x []
new_stands x cs k same r s =
    subst (λ (ks : List HfscClass). (IsClassTree ks → HoldsReal x.eligible (reals ks) [] → HoldsShare x.shares ks [] → Represents x [])) same
    (λ tree real share. record {
      tree = tree;
      real = real;
      share = share;
      opened = λ c. tt;
      packets = tt;
      inside = λ c e. refl;
      few = omega arith;
    }) k r s
