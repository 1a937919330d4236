-- The classes of a priority that are awake.
use Rattle.std.proofs.Common.{◌≡◌, ◌≤◌, ◌<◌, ◌-◌, ◌∙◌, inl, inr, ℕ, Bool, true, false, List, [], ◌∷◌, None, Some, length, get_or, min, refl, ap, sym, arith, eqb}
use Rattle.std.specs.declared.option.Option.{Option}
use Rattle.std.specs.Prelude.{if◌then◌else◌}
use Rattle.std.proofs.lemmas.Bool.{cases_eq, cases_lt, eq-eqb, eqb-true}
use Rattle.leaf_queue.specs.declared.node.Entry.{Entry}
use Rattle.link_clock.specs.Clock.{Clock}
use Rattle.discipline.specs.declared.pick.Pick.TheVariants.{Send}
use Rattle.discipline.specs.declared.pick.Sending.{Sending}
use Rattle.cbq_model.specs.declared.Rank.{Rank}
use Rattle.cbq_model.specs.Choice.{may}
use Rattle.cbq_model.specs.Tree.{class_of}
use Rattle.class_sets.specs.Marked.{IsFirst, marked}
use Rattle.cbq_rounds.specs.Due.{due_in}
use Rattle.cbq_rounds.specs.Gained.{HasGained, gained_by, with_gains}
use Rattle.cbq_rounds.specs.Looked.{HasAsked}
use Rattle.cbq_sharing.specs.Held.{AreAwake}
use Rattle.cbq_sharing.specs.Rings.{AreRings, IsRing, IsTop}
use Rattle.cbq_sharing.specs.Shared.{Shared, head_len, situation_in}
use Rattle.cbq_sharing.specs.Waiting.{AreSized, waits}
use Rattle.cbq_rounds.proofs.DueLemmas.{len_none, sends_picked}
use Rattle.cbq_rounds.proofs.GainLemmas.{gain_rest, gain_to, gains_nothing, not_able, other_priority}
use Rattle.cbq_rounds.proofs.LookLemmas.{IsNext, asked_as}
use Rattle.cbq_sharing.proofs.WaitLemmas.{few_marked}

in_ring_by : (b : Bool) (n : ℕ) → n ≡ (if b then 1 else 0) → 1 ≤ n → b ≡ true
in_ring_by true n e l = refl
in_ring_by false n e l = absurd (omega (arith, e, l))

-- the length of the packet that stands first
pub record HasHead (xs : List Entry) : Type 0 where
  pub len : ℕ
  pub is : head_len xs ≡ Some len
  pub most : AreSized xs → len ≤ 262144

some_head : (xs : List Entry) → waits xs ≡ 1 → HasHead xs
some_head [] e = absurd (omega (arith, e))
some_head (x ∷ xs) e = record { len = x.len; is = refl; most = λ s. s.1 }

-- a walk over the classes of a priority that are awake: `both` are those that are awake and in its ring
pub record IsWalk (d : Shared) (lists : ℕ → List Entry) (clock : Clock) (now p : ℕ) (both : List ℕ) : Type 0 where
  pub words : List ℕ
  pub ring : List ℕ
  pub awake : AreAwake d lists clock now words
  pub ring_is : IsRing d.tree p ring
  pub others : (c : ℕ) → length d.tree ≤ c → lists c ≡ []
  pub within : (c : ℕ) → marked both c ≡ min (marked words c) (marked ring c)

module _ (d : Shared) (lists : ℕ → List Entry) (clock : Clock) (now p : ℕ) (both : List ℕ) (w : IsWalk d lists clock now p both) where
  -- a packet waits in each of them
  some_wait : (c : ℕ) → marked both c ≡ 1 → waits (lists c) ≡ 1
  some_wait c e = w.awake.wait c (omega (arith, w.within c, e, few_marked w.words c))

  pub head_there : (c : ℕ) → marked both c ≡ 1 → HasHead (lists c)
  head_there c e = some_head (lists c) (some_wait c e)

  pub never_none : (c : ℕ) → marked both c ≡ 1 → head_len (lists c) ≡ None → ⊥
  never_none c e h =
      let none : waits (lists c) ≡ 0 = ap waits (len_none (lists c) h) in
      omega (arith, some_wait c e, none)

  -- it is of the tree, and of the priority
  pub inside : (c : ℕ) → marked both c ≡ 1 → c < length d.tree
  inside c e = elim (cases_lt c (length d.tree)) [
    | inl m ↦ m
    | inr m ↦
        let none : waits (lists c) ≡ 0 = ap waits (w.others c m) in
        absurd (omega (arith, some_wait c e, none))
  ]

  pub of_ring : (c : ℕ) → marked both c ≡ 1 → (class_of d.tree c).priority ≡ p
  of_ring c e =
      let some : 1 ≤ marked w.ring c = omega (arith, w.within c, e) in
      eqb-true (class_of d.tree c).priority p (in_ring_by (eqb (class_of d.tree c).priority p) (marked w.ring c) (w.ring_is c (inside c e)) some)

  -- another one of the priority may not send
  pub asleep : (c : ℕ) → marked both c ≡ 0 → c < length d.tree → (class_of d.tree c).priority ≡ p
      → may d.tree d.rate (situation_in d lists clock.link) c now ≡ false
  asleep c e l same =
      let mine : marked w.ring c ≡ 1 = w.ring_is c l ∙ ap (λ (b : Bool). if b then 1 else 0) (eq-eqb (class_of d.tree c).priority p same) in
      w.awake.others c l (omega (arith, w.within c, e, mine, few_marked w.words c))

-- the class at which a walk stands, and the length of its head
pub record IsStep (d : Shared) (lists : ℕ → List Entry) (clock : Clock) (now p from i len : ℕ) : Type 0 where
  pub both : List ℕ
  pub walk : IsWalk d lists clock now p both
  pub first : IsFirst both from i
  pub rate : clock.rate ≡ d.rate
  pub head : head_len (lists i) ≡ Some len

-- the next class of the walk is asked
pub next_of_walk : (d : Shared) (lists : ℕ → List Entry) (clock : Clock) (now p from i len : ℕ) (found : Option Rank)
    → IsStep d lists clock now p from i len → HasAsked d lists clock now p from found → IsNext d lists clock now p from i len found
next_of_walk d lists clock now p from i len found s x = record {
  asked = x;
  low = s.first.low;
  of_priority = of_ring d lists clock now p s.both s.walk i s.first.is;
  none = λ k a b l e. asleep d lists clock now p s.both s.walk k (s.first.before k a b) l e;
  waits = record { place = inside d lists clock now p s.both s.walk i s.first.is; rate = s.rate; head = s.head };
}

-- a walk over the classes of the priority of a sending
pub record IsGainWalk (d : Shared) (lists : ℕ → List Entry) (clock : Clock) (x : Sending) (both : List ℕ) : Type 0 where
  pub priority : ℕ
  pub walk : IsWalk d lists clock x.start priority both
  pub free : clock.link.free ≤ x.start
  pub rate : clock.rate ≡ d.rate
  pub due : due_in d lists clock x.start ≡ Send x.ticket x.class x.len x.rule
  pub of_class : priority ≡ (class_of d.tree x.class).priority

-- what is due, whose priority is that of the walk
pub record IsDueAt (d : Shared) (lists : ℕ → List Entry) (clock : Clock) (x : Sending) (priority : ℕ) : Type 0 where
  pub free : clock.link.free ≤ x.start
  pub rate : clock.rate ≡ d.rate
  pub due : due_in d lists clock x.start ≡ Send x.ticket x.class x.len x.rule
  pub of_class : priority ≡ (class_of d.tree x.class).priority

pub gain_walk : (d : Shared) (lists : ℕ → List Entry) (clock : Clock) (x : Sending) (words : List ℕ) (sets : List (List ℕ)) (tops : List ℕ) (both : List ℕ) (p : ℕ)
    → AreRings d.tree sets tops → AreAwake d lists clock x.start words → ((c : ℕ) → length d.tree ≤ c → lists c ≡ [])
    → ((c : ℕ) → marked both c ≡ min (marked words c) (marked (get_or sets p []) c)) → IsDueAt d lists clock x p → IsGainWalk d lists clock x both
gain_walk d lists clock x words sets tops both p rings awake others within y =
    let sends = sends_picked d lists clock x.start x.class x.len x.ticket x.rule y.free y.rate y.due in
    let few = rings.few x.class sends.place in
    record {
      priority = p;
      walk = record { words = words; ring = get_or sets p []; awake = awake; ring_is = rings.ring_of p (omega (arith, few, y.of_class)); others = others; within = within };
      free = y.free;
      rate = y.rate;
      due = y.due;
      of_class = y.of_class;
    }

module _ (d : Shared) (lists : ℕ → List Entry) (clock : Clock) (x : Sending) (both : List ℕ) (w : IsGainWalk d lists clock x both) where
  -- one that is not of the walk gains nothing
  unmarked_gains_nothing : (c : ℕ) → marked both c ≡ 0 → c < length d.tree → gained_by d lists clock x c ≡ get_or d.credits c 0
  unmarked_gains_nothing c e l = elim (cases_eq (class_of d.tree c).priority w.priority) [
    | inl same ↦ gains_nothing d lists clock x c (not_able d lists clock x c (asleep d lists clock x.start w.priority both w.walk c e l same))
    | inr other ↦
        let y = sends_picked d lists clock x.start x.class x.len x.ticket x.rule w.free w.rate w.due in
        gains_nothing d lists clock x c
        (other_priority d lists clock x c (λ k. other (k ∙ ap (λ (n : ℕ). (class_of d.tree n).priority) y.of_class ∙ sym w.of_class)))
  ]

  pub place_in : (i : ℕ) → marked both i ≡ 1 → i < length d.tree
  place_in i e = inside d lists clock x.start w.priority both w.walk i e

  pub head_in : (i : ℕ) → marked both i ≡ 1 → HasHead (lists i)
  head_in i e = head_there d lists clock x.start w.priority both w.walk i e

  pub alike_in : (i : ℕ) → marked both i ≡ 1 → (class_of d.tree i).priority ≡ (class_of d.tree x.class).priority
  alike_in i e = of_ring d lists clock x.start w.priority both w.walk i e ∙ w.of_class

  -- all before the next one have gained, and in the end all have
  pub gained_to : (from i : ℕ) (now : Shared) → HasGained d lists clock x from now → IsFirst both from i → HasGained d lists clock x i now
  gained_to from i now g first =
      let place = place_in i first.is in
      gain_to d lists clock x from i now g first.low (omega (arith, place))
      (λ k a b. unmarked_gains_nothing k (first.before k a b) (omega (arith, b, place)))

  pub gained_all : (from : ℕ) (now : Shared) → HasGained d lists clock x from now → ((k : ℕ) → from ≤ k → marked both k ≡ 0)
      → length d.credits ≡ length d.tree → now ≡ with_gains d lists clock x
  gained_all from now g none all = gain_rest d lists clock x from now g (λ k a l. unmarked_gains_nothing k (none k a) l) all

-- where a ring was asked, all from its top on were
pub asked_ring : (d : Shared) (lists : ℕ → List Entry) (clock : Clock) (now p from q : ℕ) (found : Option Rank) (both : List ℕ)
    → IsWalk d lists clock now p both → HasAsked d lists clock now p from found → IsTop d.tree p q
    → ((c : ℕ) → from ≤ c → marked both c ≡ 0) → HasAsked d lists clock now q 256 found
asked_ring d lists clock now p from q found both w x t none =
    asked_as d lists clock now p from q 256 found x t.low (λ c l s. elim (cases_lt (class_of d.tree c).priority p) [
      | inl m ↦ absurd (let low = t.below c l m in omega (arith, low, s.low))
      | inr m ↦ elim (cases_lt c from) [
        | inl a ↦ inl (record { low = m; before = λ k. a })
        | inr b ↦ elim (cases_eq (class_of d.tree c).priority p) [
          | inl same ↦ inr (asleep d lists clock now p both w c (none c b) l same)
          | inr other ↦ inl (record { low = m; before = λ k. absurd (other k) })
        ]
      ]
    ])

-- where all from a priority on were asked, its ring's below it is next
pub asked_above : (d : Shared) (lists : ℕ → List Entry) (clock : Clock) (now level : ℕ) (found : Option Rank)
    → HasAsked d lists clock now level 256 found → length d.tree ≤ 256 → HasAsked d lists clock now (level - 1) 0 found
asked_above d lists clock now level found x few =
    asked_as d lists clock now level 256 (level - 1) 0 found x (omega arith) (λ c l s. elim (cases_eq (class_of d.tree c).priority (level - 1)) [
      | inl same ↦ absurd (let none : c < 0 = s.before same in omega (arith, none))
      | inr other ↦ inl (record { low = omega (arith, s.low, other); before = λ k. omega (arith, l, few) })
    ])
