-- The least moment at which a class may send, by what CBQ keeps.
use Rattle.std.proofs.Common.{◌≡◌, ◌≤◌, ◌<◌, ◌∙◌, ℕ, Bool, true, false, List, [], ◌∷◌, None, Some, length, min, refl, ap, sym, subst, arith, eqb}
use Rattle.std.proofs.lemmas.Bool.{eq-eqb, ne_eqb}
use Rattle.altq_model.specs.Link.{Link}
use Rattle.cbq_estimator.specs.Estimate.{Estimate}
use Rattle.cbq_estimator.specs.Now.{allows_now, start_now}
use Rattle.cbq_estimator.proofs.Now as now
use Rattle.altq_model.specs.Link.{end_of}
use Rattle.cbq_model.specs.declared.CbqClass.{CbqClass}
use Rattle.cbq_model.specs.Choice.{Situation, allows_in, estimate_in, head_in, least_of, may, may_send, may_with}
use Rattle.cbq_model.specs.Tree.{lenders}
use Rattle.cbq_model.proofs.Least.{IsLeastAllowed, IsLeastOwn, IsLeastSend, least_or, own_from, send_from}
use Rattle.cbq_model.proofs.Places.{at_place}
use Rattle.leaf_queue.specs.declared.node.Entry.{Entry}
use Rattle.cbq_sharing.specs.Shared.{Shared, head_len, least_with, may_end, own_now, situation_in, start_now_in}

-- the least of a moment and of those of some classes, from either side
with_more : (f : ℕ → ℕ) (a b : ℕ) (ps : List ℕ) → least_with f (min a b) ps ≡ min a (least_with f b ps)
with_more f a b [] = refl
with_more f a b (p ∷ ps) =
    let same : min (min a b) (f p) ≡ min a (min b (f p)) = omega arith in
    ap (λ (n : ℕ). least_with f n ps) same ∙ with_more f a (min b (f p)) ps

pub least_same : (f : ℕ → ℕ) (c : ℕ) (ps : List ℕ) → least_of f c ps ≡ least_with f (f c) ps
least_same f c [] = refl
least_same f c (p ∷ ps) = ap (λ (n : ℕ). min (f c) n) (least_same f p ps) ∙ sym (with_more f (f c) (f p) ps)

now_is : (e : Estimate) (rate : ℕ) (l : Link) (t len : ℕ) → l.free ≤ t → IsLeastAllowed e rate l t len (start_now e rate l t len)
now_is e rate l t len free =
    let x = now.least e rate l t len free in
    record { from = x.from; allowed = x.allowed; least = λ u from a. least_or u _ (allows_now e (end_of rate l u len) len) a (x.least u from) }

pub start_is : (d : Shared) (lists : ℕ → List Entry) (rate : ℕ) (l : Link) (c t len : ℕ) → l.free ≤ t
    → IsLeastSend d.tree rate (situation_in d lists l) t len c (start_now_in d rate l c t len)
start_is d lists rate l c t len free =
    let s : Situation = situation_in d lists l in
    let f : ℕ → ℕ = own_now d.tree d.estimates rate l t len in
    let P : ℕ → Type 0 = λ n. IsLeastSend d.tree rate s t len c n in
    subst P (least_same f c (lenders d.tree c))
    (send_from d.tree rate s t len c f (λ k. own_from d.tree rate s t len k (start_now (estimate_in s k) rate l t len) (now_is (estimate_in s k) rate l t len free)))

-- a class may send now exactly where that moment is now
is_now_by : (cs : List CbqClass) (rate : ℕ) (s : Situation) (t len c start : ℕ) (b : Bool) → may_send cs rate s c t len ≡ b
    → IsLeastSend cs rate s t len c start
    → may_send cs rate s c t len ≡ eqb start t
is_now_by cs rate s t len c start true e x =
    let low = x.least t (omega arith) e in
    let same : start ≡ t = omega (arith, low, x.from) in
    e ∙ sym (eq-eqb start t same)
is_now_by cs rate s t len c start false e x =
    let P : ℕ → Type 0 = λ n. may_send cs rate s c n len ≡ true in
    e ∙ sym (ne_eqb start t (λ same. let f = subst P same x.allowed in (cc)))

pub is_now : (cs : List CbqClass) (rate : ℕ) (s : Situation) (t len c start : ℕ) → IsLeastSend cs rate s t len c start
    → may_send cs rate s c t len ≡ eqb start t
is_now cs rate s t len c start x = is_now_by cs rate s t len c start (may_send cs rate s c t len) refl x

-- the head that a choice sees
pub head_seen : (d : Shared) (lists : ℕ → List Entry) (l : Link) (c : ℕ) → c < length d.tree → head_in (situation_in d lists l) c ≡ head_len (lists c)
head_seen d lists l c low = at_place (λ k x. head_len (lists k)) d.tree c None low

-- a class whose head is this one may send now exactly where it, or one that may lend to it, allows the head's end
pub may_at : (d : Shared) (lists : ℕ → List Entry) (l : Link) (c t len : ℕ) → c < length d.tree → head_len (lists c) ≡ Some len
    → may d.tree d.rate (situation_in d lists l) c t ≡ may_end d.tree d.estimates (end_of d.rate l t len) len c
may_at d lists l c t len low e = ap (may_with d.tree d.rate (situation_in d lists l) c t) (head_seen d lists l c low ∙ e)

pub may_where : (d : Shared) (lists : ℕ → List Entry) (l : Link) (c t len : ℕ) → c < length d.tree → l.free ≤ t → head_len (lists c) ≡ Some len
    → may d.tree d.rate (situation_in d lists l) c t ≡ eqb (start_now_in d d.rate l c t len) t
may_where d lists l c t len low free e =
    let s : Situation = situation_in d lists l in
    ap (may_with d.tree d.rate s c t) (head_seen d lists l c low ∙ e)
    ∙ is_now d.tree d.rate s t len c (start_now_in d d.rate l c t len) (start_is d lists d.rate l c t len free)

pub may_not : (d : Shared) (lists : ℕ → List Entry) (l : Link) (c t : ℕ) → c < length d.tree → head_len (lists c) ≡ None
    → may d.tree d.rate (situation_in d lists l) c t ≡ false
may_not d lists l c t low e = ap (may_with d.tree d.rate (situation_in d lists l) c t) (head_seen d lists l c low ∙ e)

-- a class's own average allows a packet now exactly where its own moment is now
own_now_by : (cs : List CbqClass) (rate : ℕ) (s : Situation) (t len c start : ℕ) (b : Bool) → allows_in cs rate s c t len ≡ b
    → IsLeastOwn cs rate s t len c start
    → allows_in cs rate s c t len ≡ eqb start t
own_now_by cs rate s t len c start true e x =
    let low = x.least t (omega arith) e in
    let same : start ≡ t = omega (arith, low, x.from) in
    e ∙ sym (eq-eqb start t same)
own_now_by cs rate s t len c start false e x =
    let P : ℕ → Type 0 = λ n. allows_in cs rate s c n len ≡ true in
    e ∙ sym (ne_eqb start t (λ same. let f = subst P same x.allowed in (cc)))

pub own_where : (d : Shared) (lists : ℕ → List Entry) (l : Link) (c t len : ℕ) → l.free ≤ t
    → allows_in d.tree d.rate (situation_in d lists l) c t len ≡ eqb (own_now d.tree d.estimates d.rate l t len c) t
own_where d lists l c t len free =
    let s : Situation = situation_in d lists l in
    own_now_by d.tree d.rate s t len c (own_now d.tree d.estimates d.rate l t len c) (allows_in d.tree d.rate s c t len) refl
    (own_from d.tree d.rate s t len c (start_now (estimate_in s c) d.rate l t len) (now_is (estimate_in s c) d.rate l t len free))
