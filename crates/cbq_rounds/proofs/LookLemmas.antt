-- One class more that was asked.
use Rattle.std.proofs.Common.{◌≡◌, ◌≤◌, ◌<◌, ◌+◌, ◌∙◌, ◌⊎◌, inl, inr, ℕ, Bool, true, false, List, None, Some, length, get_or, refl, ap, sym, subst, arith}
use Rattle.std.specs.declared.option.Option.{Option}
use Rattle.std.specs.Prelude.{nat_lt, unwrap_or, if◌then◌else◌}
use Rattle.std.proofs.lemmas.Bool.{cases_eq, cases_lt}
use Rattle.altq_model.specs.Link.{Link, end_of}
use Rattle.cbq_model.specs.declared.Rank.{Rank}
use Rattle.cbq_model.specs.Choice.{better, goes_before, may, rank_in, rounds_for}
use Rattle.cbq_model.specs.Tree.{class_of, quantum_of}
use Rattle.cbq_model.proofs.Best.{before_trans, not_before_itself}
use Rattle.leaf_queue.specs.declared.node.Entry.{Entry}
use Rattle.link_clock.specs.Clock.{Clock}
use Rattle.cbq_rounds.specs.Looked.{HasAsked, IsAble, IsLed, IsSeen}
use Rattle.cbq_sharing.specs.Shared.{Shared, head_len, may_end, situation_in}
use Rattle.cbq_sharing.proofs.Moments.{head_seen, may_at}

-- a packet waits in it
pub record Waiting (d : Shared) (lists : ℕ → List Entry) (clock : Clock) (i len : ℕ) : Type 0 where
  pub place : i < length d.tree
  pub rate : clock.rate ≡ d.rate
  pub head : head_len (lists i) ≡ Some len

-- it may be sent now exactly where its end is allowed
pub waiting_may : (d : Shared) (lists : ℕ → List Entry) (clock : Clock) (now i len : ℕ) → Waiting d lists clock i len
    → may d.tree d.rate (situation_in d lists clock.link) i now ≡ may_end d.tree d.estimates (end_of clock.rate clock.link now len) len i
waiting_may d lists clock now i len w =
    may_at d lists clock.link i now len w.place w.head ∙ ap (λ (r : ℕ). may_end d.tree d.estimates (end_of r clock.link now len) len i) (sym w.rate)

abbrev ranked : (priority rounds : ℕ) (wraps : Bool) (class : ℕ) → Rank
ranked priority rounds wraps class = record { priority = priority; rounds = rounds; wraps = wraps; class = class }

-- a rank by its parts
pub record HasRank (d : Shared) (c len : ℕ) (r : Rank) : Type 0 where
  pub of_priority : r.priority ≡ (class_of d.tree c).priority
  pub of_rounds : r.rounds ≡ rounds_for (get_or d.credits c 0) (quantum_of d.rate (class_of d.tree c)) len
  pub of_wraps : r.wraps ≡ nat_lt c (get_or d.cursors (class_of d.tree c).priority 0)
  pub of_class : r.class ≡ c

pub rank_is : (d : Shared) (lists : ℕ → List Entry) (l : Link) (c len : ℕ) (r : Rank) → c < length d.tree → head_len (lists c) ≡ Some len
    → HasRank d c len r
    → r ≡ rank_in d.tree d.rate (situation_in d lists l) c
rank_is d lists l c len r low e k =
    let p : ℕ = (class_of d.tree c).priority in
    let w : Bool = nat_lt c (get_or d.cursors p 0) in
    let credit : ℕ = get_or d.credits c 0 in
    let quantum : ℕ = quantum_of d.rate (class_of d.tree c) in
    ap (λ (n : ℕ). ranked n r.rounds r.wraps r.class) k.of_priority
    ∙ ap (λ (n : ℕ). ranked p n r.wraps r.class) k.of_rounds
    ∙ ap (λ (b : Bool). ranked p (rounds_for credit quantum len) b r.class) k.of_wraps
    ∙ ap (λ (n : ℕ). ranked p (rounds_for credit quantum len) w n) k.of_class
    ∙ ap (λ (o : Option ℕ). ranked p (rounds_for credit quantum (unwrap_or o 0)) w c) (sym (head_seen d lists l c low ∙ e))

-- the best of those so far and one class more
led_here_by : (k r : Rank) (g : Bool) → goes_before r k ≡ g → IsLed (if g then Some r else Some k) r
led_here_by k r true e = record { one = r; is = refl; behind = not_before_itself r }
led_here_by k r false e = record { one = k; is = refl; behind = e }

led_here : (found : Option Rank) (r : Rank) → IsLed (better found r) r
led_here None r = record { one = r; is = refl; behind = not_before_itself r }
led_here (Some k) r = led_here_by k r (goes_before r k) refl

behind_new : (q r k : Rank) (g : Bool) → goes_before q r ≡ g → goes_before r k ≡ true → goes_before q k ≡ false → goes_before q r ≡ false
behind_new q r k true e f h = let t = before_trans q r k e f in absurd (cc)
behind_new q r k false e f h = e

led_still_by : (k r q : Rank) (g : Bool) → goes_before r k ≡ g → goes_before q k ≡ false → IsLed (if g then Some r else Some k) q
led_still_by k r q true e h = record { one = r; is = refl; behind = behind_new q r k (goes_before q r) refl e h }
led_still_by k r q false e h = record { one = k; is = refl; behind = h }

led_still : (found : Option Rank) (r q : Rank) → IsLed found q → IsLed (better found r) q
led_still None r q x = let e = x.is in absurd (cc)
led_still (Some k) r q x =
    let e = x.is in
    let same : x.one ≡ k = cc in
    led_still_by k r q (goes_before r k) refl (ap (goes_before q) (sym same) ∙ x.behind)

one_of_two : (k r q : Rank) (g : Bool) → (if g then Some r else Some k) ≡ Some q → (q ≡ r) ⊎ (q ≡ k)
one_of_two k r q true e = inl (cc)
one_of_two k r q false e = inr (cc)

better_one : (found : Option Rank) (r q : Rank) → better found r ≡ Some q → (q ≡ r) ⊎ (found ≡ Some q)
better_one None r q e = inl (cc)
better_one (Some k) r q e = elim (one_of_two k r q (goes_before r k) e) [
  | inl same ↦ inl same
  | inr same ↦ inr (ap (λ (x : Rank). Some x) (sym same))
]

module _ (d : Shared) (lists : ℕ → List Entry) (clock : Clock) (now : ℕ) where
  abbrev is_able : ℕ → Bool
  is_able c = may d.tree d.rate (situation_in d lists clock.link) c now

  abbrev rank : ℕ → Rank
  rank c = rank_in d.tree d.rate (situation_in d lists clock.link) c

  led_by : (p from c : ℕ) (found : Option Rank) → HasAsked d lists clock now p from found → c < length d.tree
      → is_able c ≡ true → IsSeen d.tree p from c ⊎ (is_able c ≡ false) → IsLed found (rank c)
  led_by p from c found x l e (inl i) = x.led c l i e
  led_by p from c found x l e (inr none) = absurd (cc)

  -- those that may send are the same
  pub asked_as : (p from q to : ℕ) (found : Option Rank) → HasAsked d lists clock now p from found → q ≤ p
      → ((c : ℕ) → c < length d.tree → IsSeen d.tree q to c → IsSeen d.tree p from c ⊎ (is_able c ≡ false)) → HasAsked d lists clock now q to found
  asked_as p from q to found x low more = record {
    of_able = λ r e.
        let a = x.of_able r e in
        record { class = a.class; place = a.place; able = a.able; is = a.is; low = omega (arith, low, a.low) };
    led = λ c l i e. led_by p from c found x l e (more c l i);
  }

  -- a class of the priority that is asked, after those before it
  pub record IsNext (p from i len : ℕ) (found : Option Rank) : Type 0 where
    pub asked : HasAsked d lists clock now p from found
    pub low : from ≤ i
    pub of_priority : (class_of d.tree i).priority ≡ p
    pub none : (c : ℕ) → from ≤ c → c < i → c < length d.tree → (class_of d.tree c).priority ≡ p → is_able c ≡ false
    pub waits : Waiting d lists clock i len

  before_i : (p from i c : ℕ) → IsSeen d.tree p (i + 1) c → (c ≡ i → ⊥) → ((class_of d.tree c).priority ≡ p → c < i)
  before_i p from i c x other e = let l : c < i + 1 = x.before e in omega (arith, l, other)

  seen_before : (p from i len c : ℕ) (found : Option Rank) → IsNext p from i len found → IsSeen d.tree p (i + 1) c
      → c < length d.tree
      → (c ≡ i → ⊥) → IsSeen d.tree p from c ⊎ (is_able c ≡ false)
  seen_before p from i len c found x s l other = elim (cases_eq (class_of d.tree c).priority p) [
    | inl e ↦ elim (cases_lt c from) [
      | inl m ↦ inl (record { low = s.low; before = λ k. m })
      | inr m ↦ inr (x.none c m (before_i p from i c s other e) l e)
    ]
    | inr n ↦ inl (record { low = s.low; before = λ k. absurd (n k) })
  ]

  led_either : (b : Bool) (found : Option Rank) (r q : Rank) → IsLed found q → IsLed (if b then better found r else found) q
  led_either true found r q x = led_still found r q x
  led_either false found r q x = x

  led_now : (b : Bool) (found : Option Rank) (r : Rank) → b ≡ true → IsLed (if b then better found r else found) r
  led_now true found r e = led_here found r
  led_now false found r e = absurd (cc)

  able_either : (p i : ℕ) (b : Bool) (found : Option Rank) (r : Rank) → ((q : Rank) → found ≡ Some q → IsAble d lists clock now p q) → i < length d.tree
      → (class_of d.tree i).priority ≡ p
      → is_able i ≡ b → (if b then better found (rank i) else found) ≡ Some r → IsAble d lists clock now p r
  able_either p i true found r x l e a m = elim (better_one found (rank i) r m) [
    | inl same ↦ record { class = i; place = l; able = a; is = same; low = omega (arith, e) }
    | inr still ↦ x r still
  ]
  able_either p i false found r x l e a m = x r m

  asked_next : (p from i len : ℕ) (found : Option Rank) (b : Bool) → IsNext p from i len found → is_able i ≡ b
      → HasAsked d lists clock now p (i + 1) (if b then better found (rank i) else found)
  asked_next p from i len found b x a = record {
    of_able = λ r e. able_either p i b found r x.asked.of_able x.waits.place x.of_priority a e;
    led = λ c l s e. elim (cases_eq c i) [
      | inl same ↦
          let P : ℕ → Type 0 = λ k. IsLed (if b then better found (rank i) else found) (rank k) in
          let able : b ≡ true = sym a ∙ ap is_able (sym same) ∙ e in
          subst P (sym same) (led_now b found (rank i) able)
      | inr other ↦ led_either b found (rank i) (rank c) (led_by p from c found x.asked l e (seen_before p from i len c found x s l other))
    ];
  }

  -- it may be sent now, or not yet
  pub asked_able : (p from i len : ℕ) (found : Option Rank) (r : Rank) → IsNext p from i len found
      → may_end d.tree d.estimates (end_of clock.rate clock.link now len) len i ≡ true → HasRank d i len r
      → HasAsked d lists clock now p (i + 1) (better found r)
  asked_able p from i len found r x passes k =
      let w = x.waits in
      let able : is_able i ≡ true = waiting_may d lists clock now i len w ∙ passes in
      let R : Rank → Type 0 = λ q. HasAsked d lists clock now p (i + 1) (better found q) in
      subst R (sym (rank_is d lists clock.link i len r w.place w.head k)) (asked_next p from i len found true x able)

  pub asked_held : (p from i len : ℕ) (found : Option Rank) → IsNext p from i len found
      → may_end d.tree d.estimates (end_of clock.rate clock.link now len) len i ≡ false → HasAsked d lists clock now p (i + 1) found
  asked_held p from i len found x held =
      let able : is_able i ≡ false = waiting_may d lists clock now i len x.waits ∙ held in
      asked_next p from i len found false x able

  pub asked_same : (p from : ℕ) (found after : Option Rank) → HasAsked d lists clock now p from found → found ≡ after → HasAsked d lists clock now p from after
  asked_same p from found after x e = let R : Option Rank → Type 0 = λ o. HasAsked d lists clock now p from o in subst R e x
