-- What is due after a history is CBQ's.
use Rattle.std.proofs.Common.{◌≡◌, ◌≤◌, ◌<◌, ◌+◌, ◌∙◌, inl, inr, ℕ, List, [], ◌∷◌, None, Some, length, refl, ap, sym, subst, arith}
use Rattle.std.specs.declared.option.Option.{Option}
use Rattle.std.specs.Prelude.{slice_get, option_map}
use Rattle.altq_model.specs.History.{Arrival, Event, LabelledEvent, unlabelled, head, waiting}
use Rattle.altq_model.specs.Link.{Link, link}
use Rattle.altq_model.specs.Play.{Policy, lesser}
use Rattle.altq_model.specs.Lawful.{first_at, start_at}
use Rattle.leaf_queue.specs.declared.node.Entry.{Entry}
use Rattle.leaf_queue.specs.Queue.{QueueEvent, Saying}
use Rattle.link_clock.specs.Clock.{Clock}
use Rattle.class_rows.specs.Rows.{list_in}
use Rattle.discipline.specs.declared.pick.Pick.{Pick}
use Rattle.discipline.specs.Laws.{IsDue, seen, seen_of}
use Rattle.cbq_estimator.specs.Estimate.{Estimate}
use Rattle.cbq_model.specs.declared.CbqClass.{CbqClass}
use Rattle.cbq_model.specs.Choice.{Situation, choice_of, least_of, own_start, start_of, start_with}
use Rattle.cbq_model.specs.Rounds.{credits, cursors, estimates, heads, situation}
use Rattle.cbq_model.specs.Tree.{each, each_from, lenders, numbers}
use Rattle.cbq_model.proofs.Lawful.{head_is}
use Rattle.cbq_model.proofs.Least.{IsLeastSend, one_least, send_is}
use Rattle.cbq_rounds.specs.Due.{due_in, first_in, first_of, start_in}
use Rattle.cbq_sharing.specs.Shared.{head_len, situation_in, start_now_in}
use Rattle.cbq_rounds.specs.Stands.{Ruling, Represents, cbq_of}
use Rattle.cbq_rounds.proofs.DueLemmas.{cases}
use Rattle.cbq_rounds.proofs.Firsts.{first_same}
use Rattle.cbq_sharing.proofs.Moments.{start_is}

-- the length that a list shows first is that of what waits first
len_shown : (xs : List Entry) (ws : List Arrival) → seen xs ≡ seen_of ws → head_len xs ≡ option_map (λ (a : Arrival). a.len) (slice_get ws 0)
len_shown [] [] e = refl
len_shown [] (a ∷ ws) e = absurd (cc)
len_shown (x ∷ xs) [] e = absurd (cc)
len_shown (x ∷ xs) (a ∷ ws) e = let same : (x.len, x.prec) ≡ (a.len, a.prec) = cc in ap (λ (p : ℕ × ℕ). Some p.0) same

pub each_same : {X : Type 0} (f g : ℕ → X) (b : ℕ) (cs : List CbqClass) → ((c : ℕ) → f c ≡ g c)
    → each_from (λ c k. f c) b cs ≡ each_from (λ c k. g c) b cs
each_same f g b [] e = refl
each_same {X} f g b (k ∷ ks) e =
    ap (λ (x : X). x ∷ each_from (λ c y. f c) (b + 1) ks) (e b) ∙ ap (λ (xs : List X). g b ∷ xs) (each_same f g (b + 1) ks e)

abbrev seen_as : List Estimate → List (Option ℕ) → (credits cursors : List ℕ) → Link → Situation
seen_as es hs credits cursors l = record { estimates = es; heads = hs; credits = credits; cursors = cursors; link = l }

-- the first moment of a policy is that of its classes
first_each : (p : Policy) (t : ℕ) (h : List Event) (b : ℕ) (cs : List CbqClass)
    → first_at p t h (each_from (λ c k. c) b cs) ≡ first_of (each_from (λ c k. start_at p t h c) b cs)
first_each p t h b [] = refl
first_each p t h b (k ∷ ks) = ap (lesser (start_at p t h b)) (first_each p t h (b + 1) ks)

-- a history that CBQ stands for
pub record Standing {Q : Type 0} (stands : Q → List QueueEvent → Type 0) (says : Q → Saying) : Type 0 where
  pub ruling : Ruling Q
  pub history : List LabelledEvent
  pub stood : Represents stands says ruling history

-- the clock of the link after a history
pub record IsClock {Q : Type 0} (d : Ruling Q) (h : List LabelledEvent) (clock : Clock) : Type 0 where
  pub same_rate : clock.rate ≡ d.shares.rate
  pub same_link : clock.link ≡ link d.shares.rate (unlabelled h)

module _ {Q : Type 0} (stands : Q → List QueueEvent → Type 0) (says : Q → Saying) (z : Standing stands says) where
  abbrev d : Ruling Q
  d = z.ruling

  abbrev b : List Event
  b = unlabelled z.history

  abbrev tree : List CbqClass
  tree = d.shares.tree

  abbrev rate : ℕ
  rate = d.shares.rate

  abbrev lists : ℕ → List Entry
  lists = list_in d.rows

  pub shown : (c : ℕ) → head_len (lists c) ≡ option_map (λ (a : Arrival). a.len) (head c b)
  shown c = len_shown (lists c) (waiting c b) (z.stood.recorded.shown c).packets

  -- what a choice looks at is what it has to
  pub situation_is : (l : Link) → l ≡ link rate b → situation_in d.shares lists l ≡ situation tree rate b
  situation_is l e =
      let hs : List (Option ℕ) = each (λ c x. head_len (lists c)) tree in
      ap (λ (es : List Estimate). seen_as es hs d.shares.credits d.shares.cursors l) z.stood.estimates
      ∙ ap (λ (os : List (Option ℕ)). seen_as (estimates tree b) os d.shares.credits d.shares.cursors l)
      (each_same (λ c. head_len (lists c)) (λ c. option_map (λ (a : Arrival). a.len) (head c b)) 0 tree shown)
      ∙ ap (λ (ns : List ℕ). seen_as (estimates tree b) (heads tree b) ns d.shares.cursors l) z.stood.credits
      ∙ ap (λ (ns : List ℕ). seen_as (estimates tree b) (heads tree b) (credits tree rate b) ns l) z.stood.cursors
      ∙ ap (λ (m : Link). seen_as (estimates tree b) (heads tree b) (credits tree rate b) (cursors tree b) m) e

  abbrev policy : Policy
  policy = cbq_of says d

  module _ (clock : Clock) (w : IsClock d z.history clock) where
    least_here : (c t n : ℕ) → clock.link.free ≤ t → IsLeastSend tree rate (situation tree rate b) t n c (start_now_in d.shares clock.rate clock.link c t n)
    least_here c t n free =
        let P : Situation → Type 0 = λ s. IsLeastSend tree rate s t n c (start_now_in d.shares rate clock.link c t n) in
        let R : ℕ → Type 0 = λ m. IsLeastSend tree rate (situation tree rate b) t n c m in
        subst R (ap (λ (r : ℕ). start_now_in d.shares r clock.link c t n) (sym w.same_rate))
        (subst P (situation_is clock.link w.same_link) (start_is d.shares lists rate clock.link c t n free))

    start_same : (c t : ℕ) (o : Option Arrival) → head c b ≡ o → clock.link.free ≤ t → c < length tree
        → option_map (λ (a : Arrival). start_of tree rate (situation tree rate b) c t) o ≡ start_in d.shares lists clock t c
    start_same c t None e free l =
        sym (ap (λ (m : Option ℕ). option_map (λ len. start_now_in d.shares clock.rate clock.link c t len) m)
        (shown c ∙ ap (λ (m : Option Arrival). option_map (λ (a : Arrival). a.len) m) e))
    start_same c t (Some a) e free l =
        let s : Situation = situation tree rate b in
        let len : head_len (lists c) ≡ Some a.len = shown c ∙ ap (λ (m : Option Arrival). option_map (λ (x : Arrival). x.len) m) e in
        let there = head_is tree rate b c l ∙ ap (λ (m : Option Arrival). option_map (λ (x : Arrival). x.len) m) e in
        let same = one_least tree rate s t a.len c (least_of (own_start tree rate s t a.len) c (lenders tree c)) (start_now_in d.shares clock.rate clock.link c t a.len)
        (send_is tree rate b t a.len c z.stood.rate) (least_here c t a.len free) in
        ap (λ (n : ℕ). Some n) (ap (start_with tree rate s c t) there ∙ same)
        ∙ sym (ap (λ (m : Option ℕ). option_map (λ n. start_now_in d.shares clock.rate clock.link c t n) m) len)

    pub first_is : (t : ℕ) → clock.link.free ≤ t → first_at policy t b (numbers tree) ≡ first_in d.shares lists clock t
    first_is t free =
        first_each policy t b 0 tree
        ∙ first_same (λ c. start_at policy t b c) (λ c. start_in d.shares lists clock t c) 0 tree
        (λ c low high. start_same c t (head c b) refl free (omega (arith, high)))

    pub choice_is : (t : ℕ) → choice_of tree rate (situation_in d.shares lists clock.link) t ≡ policy.pick b t
    choice_is t = ap (λ (s : Situation). choice_of tree rate s t) (situation_is clock.link w.same_link)

    -- what is due is the policy's
    pub due_policy : (t : ℕ) → clock.link.free ≤ t → IsDue policy b t (due_in d.shares lists clock t)
    due_policy t free =
        let D : Pick → Type 0 = λ p. IsDue policy b t p in
        elim (cases d.shares lists clock t free w.same_rate) [
          | inl x ↦ subst D (sym x.is) (first_is t free ∙ x.first)
          | inr (inl x) ↦ subst D (sym x.is) (first_is t free ∙ x.first, sym (choice_is t))
          | inr (inr x) ↦ subst D (sym x.is) (first_is t free ∙ x.first, x.later)
        ]
