-- What a discipline stands for after an offer and after a sending.
use Rattle.std.proofs.Common.{◌≡◌, ◌≤◌, ◌<◌, ◌+◌, ℕ, Bool, true, false, List, [], ◌∷◌, ◌++◌, length, refl, ap, sym, subst, arith, ◌∙◌, drop}
use Rattle.std.specs.Prelude.{Option, ◌==◌, ◌&&◌, not, is_some, slice_get, if◌then◌else◌}
use Rattle.altq_model.specs.declared.Verdict.{Verdict}
use Rattle.altq_model.specs.History.{Answer, Arrival, LabelledEvent, unlabelled, is_kept, waiting}
use Rattle.altq_model.specs.Play.{IsOneOf, Policy}
use Rattle.altq_model.specs.Policies.{Answering}
use Rattle.leaf_queue.specs.declared.node.Entry.{Entry}
use Rattle.leaf_queue.specs.Queue.{QueueEvent, Saying}
use Rattle.discipline.specs.Laws.{IsAnswer, seen, seen_of, after_offer, after_sent, offer_of}
use Rattle.discipline.specs.Moments.{IsOffer, IsOrderly}
use Rattle.class_rows.specs.Rows.{Answers, ClassQueuesView, SameRow, answering, classes_in, holding, list_in}
use Rattle.class_rows.proofs.RowHistory.{Offering, bare_arrival}
use Rattle.hfsc_model.specs.declared.HfscClass.{HfscClass}
use Rattle.hfsc_model.specs.Event.{HfscHistory, Enqueued, Sent}
use Rattle.hfsc_model.specs.Leaf.{Waiting, leaf, is_waiting, after_kept}
use Rattle.hfsc_model.specs.Leaf.{after_sent as leaf_sent}
use Rattle.hfsc_policy.specs.Classes.{leaves}
use Rattle.hfsc_policy.specs.Events.{hfsc_history, waits}
use Rattle.hfsc_policy.proofs.Histories.{leaf_waits}
use Rattle.hfsc_policy.specs.Events.{with_offer as seen_offer}
use Rattle.hfsc_policy.specs.Heads.{IsSized, kept_in}
use Rattle.hfsc_policy.specs.Policy.{hfsc_policy}
use Rattle.hfsc_policy.proofs.Lawful.{one_leaf}
use Rattle.hfsc_policy.proofs.Offers.{leaf_below}
use Rattle.hfsc_core.specs.declared.chooser.Chooser.{Chooser}
use Rattle.hfsc_core.specs.Chooser.{MayKeep, Represents, classes_of, woken_at}
use Rattle.hfsc_core.specs.Hfsc.{HfscView, HfscStands, IsHfsc, Known, lens, lens_of, policy_of}

-- a leaf has a place in the row
pub place_high : {Q : Type 0} (x : Chooser) (d : ClassQueuesView Q) (kept c : ℕ) → IsHfsc x d kept → IsOneOf c (leaves (classes_of x)) → c < d.first + length d.queues
place_high x d kept c i l = let low = leaf_below (classes_of x) c (one_leaf (classes_of x) c l) in omega (arith, low, i.first, i.count)

pub place_low : {Q : Type 0} (x : Chooser) (d : ClassQueuesView Q) (kept c : ℕ) → IsHfsc x d kept → d.first ≤ c
place_low x d kept c i = omega (arith, i.first)

-- lengths
lens_push : (xs : List Entry) (x : Entry) → lens (xs ++ x ∷ []) ≡ lens xs ++ x.len ∷ []
lens_push [] x = refl
lens_push (y ∷ xs) x = ap (λ (ns : List ℕ). y.len ∷ ns) (lens_push xs x)

lens_of_push : (ws : List Waiting) (w : Waiting) → lens_of (ws ++ w ∷ []) ≡ lens_of ws ++ w.len ∷ []
lens_of_push [] w = refl
lens_of_push (v ∷ ws) w = ap (λ (ns : List ℕ). v.len ∷ ns) (lens_of_push ws w)

lens_drop : (xs : List Entry) → lens (drop 1 xs) ≡ drop 1 (lens xs)
lens_drop [] = refl
lens_drop (x ∷ xs) = refl

lens_of_drop : (ws : List Waiting) → lens_of (drop 1 ws) ≡ drop 1 (lens_of ws)
lens_of_drop [] = refl
lens_of_drop (w ∷ ws) = refl

-- a packet that is kept
pub known_kept : (x y : Chooser) (lists new : ℕ → List Entry) (kept class at : ℕ) (e : Entry) (v : Verdict) (h : HfscHistory) → Known x lists kept h → is_kept v ≡ true
    → ((c : ℕ) → new c ≡ after_offer v class e lists c) → Represents y (Enqueued class at e.len ∷ h) → Known y new (kept + 1) (Enqueued class at e.len ∷ h)
known_kept x y lists new kept class at e v h k b f s = record { stands = s; shown = λ c. ap lens (f c) ∙ go c (class == c); count = let one = k.count in omega (arith, one) }
  where
    go : (c : ℕ) (m : Bool) → lens (if is_kept v && m then lists c ++ e ∷ [] else lists c) ≡ lens_of (if m then after_kept at e.len (leaf h c) else leaf h c).waiting
    go c true =
        rw b (lens_push (lists c) e ∙ ap (λ (ns : List ℕ). ns ++ e.len ∷ []) (k.shown c) ∙ sym (lens_of_push (leaf h c).waiting (record { at = at; len = e.len })))
    go c false = rw b (k.shown c)

-- one that is dropped
pub known_dropped : (x : Chooser) (lists new : ℕ → List Entry) (kept class : ℕ) (e : Entry) (v : Verdict) (h : HfscHistory) → Known x lists kept h → is_kept v ≡ false
    → ((c : ℕ) → new c ≡ after_offer v class e lists c) → Known x new kept h
known_dropped x lists new kept class e v h k b f = record { stands = k.stands; shown = λ c. ap lens (f c) ∙ go c (class == c); count = k.count }
  where
    go : (c : ℕ) (m : Bool) → lens (if is_kept v && m then lists c ++ e ∷ [] else lists c) ≡ lens_of (leaf h c).waiting
    go c m = rw b (k.shown c)

-- a head that is sent
pub known_sent : (x y : Chooser) (lists new : ℕ → List Entry) (kept class len start : ℕ) (real : Bool) (h : HfscHistory) → Known x lists kept h
    → ((c : ℕ) → new c ≡ after_sent class lists c) → Represents y (Sent class len real start ∷ h) → Known y new kept (Sent class len real start ∷ h)
known_sent x y lists new kept class len start real h k f s = record { stands = s; shown = λ c. ap lens (f c) ∙ go c (class == c); count = k.count }
  where
    go : (c : ℕ) (m : Bool) → lens (if m then drop 1 (lists c) else lists c) ≡ lens_of (if m then leaf_sent len real (leaf h c) else leaf h c).waiting
    go c true = lens_drop (lists c) ∙ ap (λ (ns : List ℕ). drop 1 ns) (k.shown c) ∙ sym (lens_of_drop (leaf h c).waiting)
    go c false = k.shown c

-- the row stays
pub holds_same : {Q : Type 0} (most : Q → ℕ) (says : Q → Saying) (d e : ClassQueuesView Q) → SameRow most says d e → classes_in e ≡ classes_in d
holds_same most says d e s = ap (λ (n : ℕ). holding n e.holds) s.first ∙ ap (λ (hs : List Bool). holding d.first hs) s.holds

pub hfsc_after : {Q : Type 0} (most : Q → ℕ) (says : Q → Saying) (x y : Chooser) (d e : ClassQueuesView Q) (kept more : ℕ) → IsHfsc x d kept → SameRow most says d e
    → classes_of y ≡ classes_of x → (h : HfscHistory) × Known y (list_in e) more h → IsHfsc y e more
hfsc_after most says x y d e kept more i s same known = record {
  first = s.first ∙ i.first;
  count = s.count ∙ i.count ∙ sym (ap (λ (cs : List HfscClass). length cs) same);
  holds = holds_same most says d e s ∙ i.holds ∙ sym (ap leaves same);
  known = known;
}

pub same_policy : {Q : Type 0} (most : Q → ℕ) (says : Q → Saying) (d e : HfscView Q) → SameRow most says d.rows e.rows → classes_of e.chooser ≡ classes_of d.chooser
    → policy_of says e ≡ policy_of says d
same_policy most says d e s same =
    ap (λ (cs : List HfscClass). hfsc_policy cs (answering says e.rows)) same ∙ ap (λ (a : Answering). hfsc_policy (classes_of d.chooser) a) s.answers

-- what may be kept
waits_some : (xs : List Entry) (ws : List Waiting) (o : Option Entry) (empty : Bool) → lens xs ≡ lens_of ws → o ≡ slice_get xs 0 → is_some o ≡ not empty
    → is_waiting ws ≡ not empty
waits_some [] [] o empty e f g = sym (ap (λ (p : Option Entry). is_some p) f) ∙ g
waits_some [] (w ∷ ws) o empty e f g = absurd cc
waits_some (x ∷ xs) [] o empty e f g = absurd cc
waits_some (x ∷ xs) (w ∷ ws) o empty e f g = sym (ap (λ (p : Option Entry). is_some p) f) ∙ g

pub may_keep : (x : Chooser) (lists : ℕ → List Entry) (kept class at len : ℕ) (o : Option Entry) (empty : Bool) (h : HfscHistory) → Known x lists kept h
    → IsOneOf class (leaves (classes_of x)) → o ≡ slice_get (lists class) 0 → is_some o ≡ not empty → IsSized len → kept < 4000000 → woken_at x ≤ at
    → MayKeep x h class at len empty
may_keep x lists kept class at len o empty h k i f g z few later = record {
  stands = k.stands;
  of_leaf = one_leaf (classes_of x) class i;
  waits = waits_some (lists class) (leaf h class).waiting o empty (k.shown class) f g;
  sized = z;
  few = let one = k.count in omega (arith, one, few);
  later = later;
}

-- the lists of a history that a discipline stands for
pub seen_lens : (xs : List Entry) (ws : List Arrival) → seen xs ≡ seen_of ws → lens xs ≡ lens_of (waits ws)
seen_lens [] [] e = refl
seen_lens [] (a ∷ ws) e = absurd cc
seen_lens (x ∷ xs) [] e = absurd cc
seen_lens (x ∷ xs) (a ∷ ws) e =
    let pair : (x.len, x.prec) ≡ (a.len, a.prec) = cc in
    let rest : seen xs ≡ seen_of ws = cc in
    ap (λ n. n ∷ lens xs) (ap (λ (p : ℕ × ℕ). p.0) pair) ∙ ap (λ (ns : List ℕ). a.len ∷ ns) (seen_lens xs ws rest)

drop_is : (v : Verdict) (a : Arrival) (h : HfscHistory) → is_kept v ≡ false → seen_offer v a h ≡ h
drop_is v a h e = rw e refl

keep_is : (v : Verdict) (a : Arrival) (h : HfscHistory) → is_kept v ≡ true → seen_offer v a h ≡ Enqueued a.class a.at a.len ∷ h
keep_is v a h e = rw e refl

module _ {Q : Type 0} (stands : Q → List QueueEvent → Type 0) (says : Q → Saying) (most : Q → ℕ) where
  pub known_of : (d : HfscView Q) (h : List LabelledEvent) → HfscStands stands says d h → Known d.chooser (list_in d.rows) d.kept (hfsc_history (unlabelled h))
  known_of d h s = record {
    stands = s.chooser;
    shown = λ c. seen_lens (list_in d.rows c) (waiting c (unlabelled h)) (s.recorded.shown c).packets ∙ sym (ap lens_of (leaf_waits c (unlabelled h)));
    count = s.kept;
  }

  -- an offer that is dropped
  pub offer_dropped : (d : HfscView Q) (rows : ClassQueuesView Q) (h : List LabelledEvent) (o : Offering) → SameRow most says d.rows rows → HfscStands stands says d h
      → IsOffer (bare_arrival o) (unlabelled h) → Answers stands says d.rows rows h o.class o.entry o.now o.words o.verdict o.after → is_kept o.verdict ≡ false
      → IsAnswer (policy_of says d) (unlabelled h) o.words (bare_arrival o) o.verdict o.after
      × HfscStands stands says (record { chooser = d.chooser; rows = rows; kept = d.kept }) (offer_of (policy_of says d) h o.entry.ticket o.words (bare_arrival o) ∷ h)
  offer_dropped d rows h o same k offer a e =
      let n : HfscView Q = record { chooser = d.chooser; rows = rows; kept = d.kept } in
      let c : Arrival = bare_arrival o in
      let x : Answer = answering says d.rows (unlabelled h) o.words c in
      let history = drop_is x.verdict c (hfsc_history (unlabelled h)) (sym (ap is_kept a.verdict) ∙ e) in
      let counted = k.counted in (
        record { verdict = a.verdict; words = a.words },
        record {
          recorded = a.recorded;
          chooser = subst (λ (g : HfscHistory). Represents d.chooser g) (sym history) k.chooser;
          kept = ap kept_in history ∙ k.kept;
          counted = omega (arith, counted);
          woken = λ t l. k.woken t (omega (arith, l));
          orderly = subst (λ (p : Policy). IsOrderly p (unlabelled (offer_of (policy_of says d) h o.entry.ticket o.words c ∷ h))) (sym (same_policy most says d n same refl)) (offer, refl, k.orderly);
        },
      )

  -- an offer that is kept
  pub offer_kept : (d : HfscView Q) (y : Chooser) (rows : ClassQueuesView Q) (h : List LabelledEvent) (o : Offering) → SameRow most says d.rows rows → HfscStands stands says d h
      → IsOffer (bare_arrival o) (unlabelled h) → Answers stands says d.rows rows h o.class o.entry o.now o.words o.verdict o.after → is_kept o.verdict ≡ true
      → classes_of y ≡ classes_of d.chooser → woken_at y ≤ o.now → Represents y (Enqueued o.class o.now o.entry.len ∷ hfsc_history (unlabelled h))
      → IsAnswer (policy_of says d) (unlabelled h) o.words (bare_arrival o) o.verdict o.after
      × HfscStands stands says (record { chooser = y; rows = rows; kept = d.kept + 1 }) (offer_of (policy_of says d) h o.entry.ticket o.words (bare_arrival o) ∷ h)
  offer_kept d y rows h o same k offer a e classes woken s =
      let n : HfscView Q = record { chooser = y; rows = rows; kept = d.kept + 1 } in
      let c : Arrival = bare_arrival o in
      let x : Answer = answering says d.rows (unlabelled h) o.words c in
      let history = keep_is x.verdict c (hfsc_history (unlabelled h)) (sym (ap is_kept a.verdict) ∙ e) in
      let counted = k.counted in
      let kept = k.kept in
      let count = ap kept_in history in (
        record { verdict = a.verdict; words = a.words },
        record {
          recorded = a.recorded;
          chooser = subst (λ (g : HfscHistory). Represents y g) (sym history) s;
          kept = omega (arith, count, kept);
          counted = omega (arith, counted);
          woken = λ t l. omega (arith, l, woken);
          orderly = subst (λ (p : Policy). IsOrderly p (unlabelled (offer_of (policy_of says d) h o.entry.ticket o.words c ∷ h))) (sym (same_policy most says d n same classes)) (offer, refl, k.orderly);
        },
      )
