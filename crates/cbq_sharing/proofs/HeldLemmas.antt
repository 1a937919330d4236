-- The classes that are held back, and those that are awake.
use Rattle.std.proofs.Common.{◌≡◌, ◌≢◌, ◌≤◌, ◌<◌, ◌+◌, ◌-◌, ◌∙◌, inl, inr, ℕ, Bool, true, false, List, [], ◌∷◌, ◌++◌, None, Some, length, get_or, drop, refl, ap, sym, subst, arith, eqb, min, zero-add}
use Rattle.std.specs.declared.option.Option.{Option}
use Rattle.std.specs.Prelude.{◌||◌, ◌&&◌, is_some, int_lt, pos, nat_eq, nat_le, unwrap_or, if◌then◌else◌}
use Rattle.std.specs.List.{list_any}
use Rattle.std.proofs.lemmas.Bool.{cases_eq, ne_eqb}
use Rattle.play_base.specs.Units.{ceil_div, time_of, units}
use Rattle.altq_model.specs.declared.Verdict.{Verdict}
use Rattle.altq_model.specs.History.{is_kept}
use Rattle.altq_model.specs.Link.{Link, end_of, run_on}
use Rattle.link_clock.specs.Clock.{Clock}
use Rattle.link_clock.proofs.Rounded.{ceil_sum}
use Rattle.leaf_queue.specs.declared.node.Entry.{Entry}
use Rattle.discipline.specs.Laws.{after_offer, after_sent}
use Rattle.cbq_estimator.specs.Estimate.{Estimate}
use Rattle.cbq_estimator.specs.Now.{allows_now, wanted_now}
use Rattle.cbq_estimator.specs.Starts.{enough}
use Rattle.cbq_estimator.proofs.Starting.{later_end, or_false, too_early}
use Rattle.cbq_model.specs.declared.CbqClass.{CbqClass}
use Rattle.cbq_model.specs.Choice.{may}
use Rattle.cbq_model.specs.Tree.{class_of, is_root, lender_of, lenders_up}
use Rattle.class_sets.specs.Held.{HeldBack}
use Rattle.class_sets.specs.Marked.{marked}
use Rattle.cbq_sharing.specs.Held.{AreAwake, AreHeld, IsHeldBack, IsUntold}
use Rattle.cbq_sharing.specs.Shared.{Shared, allows_end, head_len, may_end, no_estimate, own_now, situation_in}
use Rattle.cbq_sharing.specs.Waiting.{AreWaiting, waits}
use Rattle.cbq_sharing.proofs.Moments.{may_at, may_not}
use Rattle.cbq_sharing.proofs.WaitLemmas.{few_marked, no_head, not_marked}

-- a packet ends no later than an empty one that starts with it, and its own time
within_by : (rate : ℕ) (l : Link) (t len : ℕ) (b : Bool) → 0 < rate
    → (if b then run_on rate l.run l.sent (units len) else run_on rate t 0 (units len)).free
    ≤ (if b then run_on rate l.run l.sent (units 0) else run_on rate t 0 (units 0)).free + time_of len rate
within_by rate l t len true some =
    let sum = ceil_sum l.sent (units len) rate some in
    let none : l.sent ≡ l.sent + units 0 = omega arith in
    let same = ap (λ (n : ℕ). ceil_div n rate) none in
    omega (arith, sum, same)
within_by rate l t len false some =
    let own : ceil_div (0 + units len) rate ≡ time_of len rate = ap (λ (n : ℕ). ceil_div n rate) (zero-add (units len)) in
    omega (arith, own)

pub end_within : (rate : ℕ) (l : Link) (t len : ℕ) → 0 < rate → end_of rate l t len ≤ end_of rate l t 0 + time_of len rate
end_within rate l t len some = within_by rate l t len (nat_eq t l.free) some

-- a class that has no lender and does not allow a packet may not send it
alone_may : (d : Shared) (c end len : ℕ) → lender_of (class_of d.tree c) ≡ None → is_root d.tree c ≡ false
    → allows_now (get_or d.estimates c no_estimate) end len ≡ false → may_end d.tree d.estimates end len c ≡ false
alone_may d c end len alone inner refused =
    ap (λ (o : Option ℕ). allows_end d.tree d.estimates end len c || list_any (allows_end d.tree d.estimates end len) (lenders_up 8 d.tree o)) alone
    ∙ ap (λ (b : Bool). (b || allows_now (get_or d.estimates c no_estimate) end len) || false) inner
    ∙ ap (λ (b : Bool). b || false) refused

held_may_not : (d : Shared) (lists : ℕ → List Entry) (clock : Clock) (now c len moment : ℕ) → IsHeldBack d c len moment → c < length d.tree
    → head_len (lists c) ≡ Some len → clock.rate ≡ d.rate → 0 < d.rate → end_of clock.rate clock.link now 0 < moment
    → may d.tree d.rate (situation_in d lists clock.link) c now ≡ false
held_may_not d lists clock now c len moment h l e rate some late =
    let start : end_of clock.rate clock.link now 0 ≡ end_of d.rate clock.link now 0 = ap (λ (r : ℕ). end_of r clock.link now 0) rate in
    let within = end_within d.rate clock.link now len some in
    may_at d lists clock.link c now len l e
    ∙ alone_may d c (end_of d.rate clock.link now len) len h.alone h.inner (h.refused (end_of d.rate clock.link now len) (omega (arith, within, start, late)))

record HasHead (xs : List Entry) : Type 0 where
  pub len : ℕ
  pub is : head_len xs ≡ Some len

head_there : (xs : List Entry) → waits xs ≡ 1 → HasHead xs
head_there [] e = absurd (omega (arith, e))
head_there (x ∷ xs) e = record { len = x.len; is = refl }

-- those that wait and are not held back are awake
pub are_awake : (d : Shared) (lists : ℕ → List Entry) (clock : Clock) (now : ℕ) (waiting awake : List ℕ) (h : HeldBack) → AreWaiting waiting lists → AreHeld d lists h
    → clock.rate ≡ d.rate → ((c : ℕ) → marked h.set c ≡ 1 → end_of clock.rate clock.link now 0 < get_or h.moments c 0)
    → ((c : ℕ) → marked awake c ≡ marked waiting c - marked h.set c) → AreAwake d lists clock now awake
are_awake d lists clock now waiting awake h w a rate late is = record {
  wait = λ c e. sym (w c) ∙ omega (arith, is c, e, few_marked waiting c);
  others = λ c l e. elim (cases_eq (marked h.set c) 1) [
    | inl held ↦
        let x = head_there (lists c) (a.wait c held) in
        held_may_not d lists clock now c x.len (get_or h.moments c 0) (a.head c x.len held x.is) l x.is rate a.rate (late c held)
    | inr free ↦
        let none : marked h.set c ≡ 0 = omega (arith, free, few_marked h.set c) in
        may_not d lists clock.link c now l (no_head lists c (not_marked waiting lists c w (omega (arith, is c, e, none))))
  ];
}

-- fewer are held back
pub held_fewer : (d : Shared) (lists : ℕ → List Entry) (h k : HeldBack) → AreHeld d lists h → ((c : ℕ) → marked k.set c ≡ 1 → marked h.set c ≡ 1)
    → k.moments ≡ h.moments → AreHeld d lists k
held_fewer d lists h k a fewer same = record {
  rate = a.rate;
  wait = λ c e. a.wait c (fewer c e);
  head = λ c n e f. let P : List ℕ → Type 0 = λ ms. IsHeldBack d c n (get_or ms c 0) in subst P (sym same) (a.head c n (fewer c e) f);
}

-- one more is held back
pub held_more : (d : Shared) (lists : ℕ → List Entry) (h k : HeldBack) (class len : ℕ) → AreHeld d lists h → waits (lists class) ≡ 1
    → head_len (lists class) ≡ Some len → IsHeldBack d class len (get_or k.moments class 0) → ((c : ℕ) → c ≢ class → marked k.set c ≡ marked h.set c)
    → ((c : ℕ) → c ≢ class → get_or k.moments c 0 ≡ get_or h.moments c 0) → AreHeld d lists k
held_more d lists h k class len a w f x others moments = record {
  rate = a.rate;
  wait = λ c e. elim (cases_eq c class) [
    | inl same ↦ let P : ℕ → Type 0 = λ m. waits (lists m) ≡ 1 in subst P (sym same) w
    | inr other ↦ a.wait c (sym (others c other) ∙ e)
  ];
  head = λ c n e g. elim (cases_eq c class) [
    | inl same ↦
        let there : head_len (lists class) ≡ Some n = ap (λ (m : ℕ). head_len (lists m)) (sym same) ∙ g in
        let long : len ≡ n = cc in
        let P : ℕ → Type 0 = λ m. IsHeldBack d m n (get_or k.moments m 0) in
        let L : ℕ → Type 0 = λ m. IsHeldBack d class m (get_or k.moments class 0) in
        subst P (sym same) (subst L long x)
    | inr other ↦
        let M : ℕ → Type 0 = λ m. IsHeldBack d c n m in
        subst M (sym (moments c other)) (a.head c n (sym (others c other) ∙ e) g)
  ];
}

pub none_there : (o : Option ℕ) (b : Bool) → b ≡ is_some o → b ≡ false → o ≡ None
none_there None b e f = refl
none_there (Some p) b e f = absurd (cc)

-- a class that was refused, where a packet waits in it
pub refused_waits : (waiting refused some : List ℕ) (i : ℕ) → ((c : ℕ) → marked some c ≡ min (marked refused c) (marked waiting c)) → marked some i ≡ 1 → marked waiting i ≡ 1
refused_waits waiting refused some i is e = omega (arith, is i, e, few_marked waiting i)

-- a class is held back till the least moment at which its own average allows the packet
record IsFrom (e : Estimate) (rate len start : ℕ) (root : Bool) : Type 0 where
  pub inner : root ≡ false
  pub refused : (end : ℕ) → end < start + time_of len rate → allows_now e end len ≡ false

from_by : (e : Estimate) (rate : ℕ) (l : Link) (now len : ℕ) (root ahead late : Bool) → l.free ≤ now → int_lt (pos 0) e.average ≡ ahead
    → now + 1 < (if root then now else if ahead then now else if late then now else now + 1 + (wanted_now e len - end_of rate l (now + 1) len))
    → IsFrom e rate len (if root then now else if ahead then now else if late then now else now + 1 + (wanted_now e len - end_of rate l (now + 1) len)) root
from_by e rate l now len true ahead late free a s = absurd (omega (arith, s))
from_by e rate l now len false true late free a s = absurd (omega (arith, s))
from_by e rate l now len false false true free a s = absurd (omega (arith, s))
from_by e rate l now len false false false free a s =
    let next = later_end rate l (now + 1) len (omega arith) in
    record {
      inner = refl;
      refused = λ end early.
          let short : end < wanted_now e len = omega (arith, s, next, early) in
          or_false (int_lt (pos 0) e.average) _ a (too_early end (unwrap_or e.last 0) (time_of len e.pace.rate) (enough e.average) short);
    }

pub held_from : (d : Shared) (clock : Clock) (now len c start : ℕ) → clock.link.free ≤ now → clock.rate ≡ d.rate → lender_of (class_of d.tree c) ≡ None
    → start ≡ own_now d.tree d.estimates clock.rate clock.link now len c → now + 1 < start → IsHeldBack d c len start
held_from d clock now len c start free rate alone is late =
    let e : Estimate = get_or d.estimates c no_estimate in
    let same : start ≡ own_now d.tree d.estimates d.rate clock.link now len c = is ∙ ap (λ (r : ℕ). own_now d.tree d.estimates r clock.link now len c) rate in
    let x = from_by e d.rate clock.link now len (is_root d.tree c) (int_lt (pos 0) e.average) (nat_le (wanted_now e len) (end_of d.rate clock.link now len)) free refl
    (omega (arith, late, same)) in
    let P : ℕ → Type 0 = λ m. IsHeldBack d c len m in
    subst P (sym same) (record { alone = alone; inner = x.inner; refused = x.refused })

-- an offer changes no head
record HasKept (xs ys : List Entry) : Type 0 where
  pub wait : waits ys ≡ 1
  pub head : head_len ys ≡ head_len xs

kept_front : (b : Bool) (x : Entry) (xs : List Entry) → waits xs ≡ 1 → HasKept xs (if b then xs ++ x ∷ [] else xs)
kept_front b x [] e = absurd (omega (arith, e))
kept_front true x (y ∷ ys) e = record { wait = refl; head = refl }
kept_front false x (y ∷ ys) e = record { wait = refl; head = refl }

pub offer_held : (d : Shared) (v : Verdict) (class : ℕ) (x : Entry) (old new : ℕ → List Entry) (h : HeldBack) → AreHeld d old h
    → ((c : ℕ) → new c ≡ after_offer v class x old c) → AreHeld d new h
offer_held d v class x old new h a lists =
    let front : (c : ℕ) → marked h.set c ≡ 1 → HasKept (old c) (new c) = λ c e.
    let P : List Entry → Type 0 = λ xs. HasKept (old c) xs in
    subst P (sym (lists c)) (kept_front (is_kept v && eqb class c) x (old c) (a.wait c e)) in
    record { rate = a.rate; wait = λ c e. (front c e).wait; head = λ c n e f. a.head c n e (sym (front c e).head ∙ f) }

-- nor does a sending of another class
not_mine : (class c : ℕ) (old : ℕ → List Entry) → c ≢ class → after_sent class old c ≡ old c
not_mine class c old other = ap (λ (b : Bool). if b then drop 1 (old c) else old c) (ne_eqb class c (λ e. other (sym e)))

pub sent_held : (d after : Shared) (class : ℕ) (old new : ℕ → List Entry) (h k : HeldBack) → AreHeld d old h → after.tree ≡ d.tree → after.rate ≡ d.rate
    → ((c : ℕ) → new c ≡ after_sent class old c) → marked k.set class ≢ 1
    → ((c : ℕ) → marked k.set c ≡ 1 → IsUntold h.set d.estimates after.estimates c) → k.moments ≡ h.moments → AreHeld after new k
sent_held d after class old new h k a tree rate lists gone untold moments =
    let other : (c : ℕ) → marked k.set c ≡ 1 → c ≢ class = λ c e same. gone (ap (λ (m : ℕ). marked k.set m) (sym same) ∙ e) in
    let alike : (c : ℕ) → marked k.set c ≡ 1 → new c ≡ old c = λ c e. lists c ∙ not_mine class c old (other c e) in
    record {
      rate = let some = a.rate in omega (arith, some, rate);
      wait = λ c e. ap waits (alike c e) ∙ a.wait c (untold c e).was;
      head = λ c n e f.
          let x = a.head c n (untold c e).was (ap head_len (sym (alike c e)) ∙ f) in
          let same : get_or k.moments c 0 + time_of n after.rate ≡ get_or h.moments c 0 + time_of n d.rate =
          ap (λ (ms : List ℕ). get_or ms c 0 + time_of n after.rate) moments ∙ ap (λ (r : ℕ). get_or h.moments c 0 + time_of n r) rate in
          record {
            alone = ap (λ (cs : List CbqClass). lender_of (class_of cs c)) tree ∙ x.alone;
            inner = ap (λ (cs : List CbqClass). is_root cs c) tree ∙ x.inner;
            refused = λ end early. ap (λ (g : Estimate). allows_now g end n) (untold c e).same ∙ x.refused end (let P : ℕ → Type 0 = λ m. end < m in subst P same early);
          };
    }
