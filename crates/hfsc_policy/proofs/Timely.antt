-- Each packet of a leaf with a real-time curve is timely.
use Rattle.std.proofs.Common.{◌≡◌, ◌≤◌, ◌<◌, ◌+◌, ◌-◌, ◌⊎◌, inl, inr, ℕ, min, Bool, true, false, List, [], ◌∷◌, ◌++◌, None, Some, length, refl, ap, sym, subst, arith, ◌∙◌, drop}
use Rattle.std.specs.Prelude.{Option, ◌==◌, ◌&&◌, nat_lt, slice_get, option_map, if◌then◌else◌}
use Rattle.std.proofs.lemmas.Bool.{cases_eq}
use Rattle.std.proofs.lemmas.Bool.Decides.{nat_tests}
use Rattle.play_base.specs.Units.{units, ceil_div}
use Rattle.altq_model.specs.History.{Arrival, Event, Offered, Sent, Sending, is_kept, head, waiting}
use Rattle.altq_model.specs.Busy.{as_of, SomeMaySend, IsLeastStart, IsBusy as IsBusyLink}
use Rattle.altq_model.specs.Laws.{StartsBefore}
use Rattle.altq_model.specs.Lawful.{first_at, start_at, latest}
use Rattle.altq_model.specs.Link.{Link, link, after_sending, run_on, HasLinkEnds}
use Rattle.altq_model.specs.Play.{Policy, Choice, IsOneOf, lesser}
use Rattle.altq_model.specs.Policies.{Answering}
use Rattle.link_clock.proofs.Rounded.{ceil_le}
use Rattle.discipline.specs.Moments.{StartsBy, IsOrderly}
use Rattle.hfsc_model.specs.declared.HfscClass.{HfscClass}
use Rattle.hfsc_model.specs.Event.{HfscHistory, Enqueued}
use Rattle.hfsc_model.specs.Leaf.{leaf}
use Rattle.hfsc_model.specs.Link.{Run, free, started, with_units, run_after, AreOneByOne}
use Rattle.hfsc_model.specs.Tree.{reals}
use Rattle.hfsc_model.specs.RealTime.{IsRealPick, NoneIsEligible}
use Rattle.hfsc_model.specs.Choice.{choice}
use Rattle.hfsc_model.specs.Timely.{moment, StartBefore, AreInOrder, IsHeld, Before, Came, IsBusyAt, Goes_on, Held, IsBusy, IsHead, AreChosen, FitLink, IsTimely}
use Rattle.hfsc_laws.proofs.Timing.{timely}
use Rattle.hfsc_policy.specs.Events.{is_real, rule_of, with_offer, hfsc_history}
use Rattle.hfsc_policy.specs.Classes.{IsClassTree, leaves}
use Rattle.hfsc_policy.specs.Policy.{send_from, choice_of, hfsc_policy}
use Rattle.hfsc_policy.specs.Heads.{AreHeads}
use Rattle.hfsc_policy.proofs.Moments.{send_is, send_there, come_at, at_come}
use Rattle.altq_model.specs.declared.Verdict.{Verdict}
use Rattle.hfsc_policy.proofs.Few.{head_sized}
use Rattle.hfsc_policy.proofs.Histories.{leaf_waits, head_waits, waits_head}
use Rattle.hfsc_policy.proofs.Offers.{leaf_below}
use Rattle.hfsc_policy.proofs.Paths.{IsSender, chosen_may, real_sender}
use Rattle.hfsc_policy.proofs.Lawful.{one_leaf, leaf_one}

-- what is known of a sending: some leaf may send at its start, its class and rule are those of the choice, and it is of the head
pub record IsSendingOf (cs : List HfscClass) (h : List Event) (s : Sending) : Type 0 where
  pub arrived : latest h ≤ s.start
  pub started : StartsBy s.start h
  pub sender : ℕ
  pub may : IsSender cs (hfsc_history h) s.start sender
  pub pick : choice_of (choice cs (hfsc_history h) s.start) ≡ record { class = s.class; rule = s.rule }
  pub front : IsHead (leaf (hfsc_history h) s.class).waiting s.len

-- and of events in order
abbrev pub Follow : List HfscClass → List Event → Type 0
Follow cs [] = Unit {0}
Follow cs (Offered a w v ∷ h) = (latest h ≤ a.at) × StartsBefore a.at h × Follow cs h
Follow cs (Sent s ∷ h) = IsSendingOf cs h s × Follow cs h

-- the order of events
moment_by : (h : List Event) (t : ℕ) → latest h ≤ t → StartsBy t h → moment (hfsc_history h) ≤ t
moment_by [] t l b = omega arith
moment_by (Offered a w v ∷ h) t l b = go (is_kept v.verdict) (moment_by h t (omega (arith, l)) b)
  where
    go : (k : Bool) → moment (hfsc_history h) ≤ t → moment (if k then Enqueued a.class a.at a.len ∷ hfsc_history h else hfsc_history h) ≤ t
    go true rest = omega (arith, l)
    go false rest = rest
moment_by (Sent s ∷ h) t l b = b.0

before_by : (h : List Event) (t : ℕ) → StartsBefore t h → StartsBy t h
before_by [] t b = tt
before_by (Offered a w v ∷ h) t b = before_by h t b
before_by (Sent s ∷ h) t b = let l = b.0 in (omega (arith, l), before_by h t b.1)

before_same : (h : List Event) (t : ℕ) → StartsBefore t h → StartBefore (hfsc_history h) t
before_same [] t b = tt
before_same (Offered a w v ∷ h) t b = go (is_kept v.verdict) (before_same h t b)
  where
    go : (k : Bool) → StartBefore (hfsc_history h) t → StartBefore (if k then Enqueued a.class a.at a.len ∷ hfsc_history h else hfsc_history h) t
    go true rest = rest
    go false rest = rest
before_same (Sent s ∷ h) t b = (b.0, before_same h t b.1)

-- what a history with an offer has, it had before
heads_before : (v : Verdict) (a : Arrival) (h : HfscHistory) → AreHeads (with_offer v a h) → AreHeads h
heads_before v a h x = go (is_kept v) x
  where
    go : (k : Bool) → AreHeads (if k then Enqueued a.class a.at a.len ∷ h else h) → AreHeads h
    go true y = y.1
    go false y = y

pub in_order : (cs : List HfscClass) (h : List Event) → Follow cs h → AreHeads (hfsc_history h) → AreInOrder (hfsc_history h)
in_order cs [] f a = tt
in_order cs (Offered b w v ∷ h) f a = go (is_kept v.verdict) (in_order cs h f.2 (heads_before v.verdict b (hfsc_history h) a))
  where
    go : (k : Bool) → AreInOrder (hfsc_history h) → AreInOrder (if k then Enqueued b.class b.at b.len ∷ hfsc_history h else hfsc_history h)
    go true rest = (moment_by h b.at f.0 (before_by h b.at f.1), before_same h b.at f.1, rest)
    go false rest = rest
in_order cs (Sent s ∷ h) f a =
    let x = f.0 in
    (moment_by h s.start x.arrived x.started, (head_sized s.class s.len (hfsc_history h) a.1 a.0).least, in_order cs h f.1 a.1)

-- the link
pub record IsRunOf (rate : ℕ) (l : Link) (r : Run) : Type 0 where
  pub start : r.start ≡ l.run
  pub sent : r.sent ≡ l.sent
  pub free : l.free ≡ free rate r

no_time : (rate : ℕ) → 0 < rate → 0 ≡ 0 + ceil_div 0 rate
no_time rate z = let one = ceil_le 0 rate 0 z (omega arith) in omega (arith, one)

goes_on : (rate start len : ℕ) (l : Link) (r : Run) → IsRunOf rate l r → IsRunOf rate (after_sending rate l start len) (with_units (started rate r start) (units len))
goes_on rate start len l r x = go (start == l.free) (start == free rate r) (ap (λ n. start == n) x.free)
  where
    go : (b d : Bool) → b ≡ d
        → IsRunOf rate (if b then run_on rate l.run l.sent (units len) else run_on rate start 0 (units len)) (with_units (if d then r else record { start = start; sent = 0 }) (units len))
    go true true e = record {
      start = x.start;
      sent = ap (λ n. n + units len) x.sent;
      free = ap (λ n. n + ceil_div (l.sent + units len) rate) (sym x.start) ∙ ap (λ n. r.start + ceil_div (n + units len) rate) (sym x.sent);
    }
    go false false e = record { start = refl; sent = refl; free = refl }
    go true false e = absurd cc
    go false true e = absurd cc

pub link_is : (rate : ℕ) (h : List Event) → 0 < rate → IsRunOf rate (link rate h) (run_after rate (hfsc_history h))
link_is rate [] z = record { start = refl; sent = refl; free = no_time rate z }
link_is rate (Offered a w v ∷ h) z = go (is_kept v.verdict) (link_is rate h z)
  where
    go : (k : Bool) → IsRunOf rate (link rate h) (run_after rate (hfsc_history h))
        → IsRunOf rate (link rate h) (run_after rate (if k then Enqueued a.class a.at a.len ∷ hfsc_history h else hfsc_history h))
    go true x = x
    go false x = x
link_is rate (Sent s ∷ h) z = goes_on rate s.start s.len (link rate h) (run_after rate (hfsc_history h)) (link_is rate h z)

pub one_by_one : (rate : ℕ) (h : List Event) → 0 < rate → HasLinkEnds rate h → AreOneByOne rate (hfsc_history h)
one_by_one rate [] z e = tt
one_by_one rate (Offered a w v ∷ h) z e = go (is_kept v.verdict) (one_by_one rate h z e)
  where
    go : (k : Bool) → AreOneByOne rate (hfsc_history h) → AreOneByOne rate (if k then Enqueued a.class a.at a.len ∷ hfsc_history h else hfsc_history h)
    go true x = x
    go false x = x
one_by_one rate (Sent s ∷ h) z e = let x = link_is rate h z in let l = e.0 in (omega (arith, l, x.free), one_by_one rate h z e.2)

-- each sending is the choice
pub length_map : (cs : List HfscClass) → length (reals cs) ≡ length cs
length_map [] = refl
length_map (k ∷ ks) = let rest = length_map ks in omega (arith, rest)

real_rule : (b : Bool) → is_real (rule_of b) ≡ b
real_rule true = refl
real_rule false = refl

pub record IsOf (cs : List HfscClass) (h : List Event) (s : Sending) : Type 0 where
  pub sender : IsSender cs (hfsc_history h) s.start s.class
  pub by_real_time : is_real s.rule ≡ true → IsRealPick (reals cs) (hfsc_history h) s.start s.class
  pub by_share : is_real s.rule ≡ false → NoneIsEligible (reals cs) (hfsc_history h) s.start

pub is_of : (cs : List HfscClass) (h : List Event) (s : Sending) → IsClassTree cs → IsSendingOf cs h s → IsOf cs h s
is_of cs h s k x =
    let y = chosen_may cs (hfsc_history h) s.start x.sender k x.may in
    let same : choice_of (Some y.chosen) ≡ record { class = s.class; rule = s.rule } = ap choice_of (sym y.is) ∙ x.pick in
    let class : y.chosen.class ≡ s.class = ap (λ (z : Choice). z.class) same in
    let rule : rule_of y.chosen.real ≡ s.rule = ap (λ (z : Choice). z.rule) same in
    let real : y.chosen.real ≡ is_real s.rule = sym (real_rule y.chosen.real) ∙ ap is_real rule in
    record {
      sender = subst (λ (n : ℕ). IsSender cs (hfsc_history h) s.start n) class y.sender;
      by_real_time = λ e. subst (λ (n : ℕ). IsRealPick (reals cs) (hfsc_history h) s.start n) class (y.by_real_time (real ∙ e));
      by_share = λ e. y.by_share (real ∙ e);
    }

pub are_chosen : (cs : List HfscClass) (h : List Event) → IsClassTree cs → Follow cs h → AreChosen (reals cs) (hfsc_history h)
are_chosen cs [] k f = tt
are_chosen cs (Offered a w v ∷ h) k f = go (is_kept v.verdict) (are_chosen cs h k f.2)
  where
    go : (b : Bool) → AreChosen (reals cs) (hfsc_history h) → AreChosen (reals cs) (if b then Enqueued a.class a.at a.len ∷ hfsc_history h else hfsc_history h)
    go true x = x
    go false x = x
are_chosen cs (Sent s ∷ h) k f =
    let x = f.0 in
    let y = is_of cs h s k x in
    let low = leaf_below cs s.class y.sender.is_leaf in
    let long = length_map cs in (
      record {
        class = omega (arith, low, long);
        head = x.front;
        by_real_time = y.by_real_time;
        by_share = y.by_share;
      },
      are_chosen cs h k f.1,
    )

-- a sending that does not follow the one before it at once was held: before it no leaf might send
held_till : (curves : List (Option _)) (start : ℕ) (h : List Event) → latest h ≤ start → NoneIsEligible curves (hfsc_history (as_of (start - 1) h)) (start - 1)
    → IsHeld curves start (hfsc_history h)
held_till curves start [] l n = Before [] n
held_till curves start (Sent s ∷ h) l n = Before (hfsc_history (Sent s ∷ h)) n
held_till curves start (Offered a w v ∷ h) l n = go (nat_lt (start - 1) a.at) refl n (λ m. held_till curves start h (omega (arith, l)) m)
  where
    came : (k : Bool) → a.at ≡ start → IsHeld curves start (hfsc_history h) → IsHeld curves start (if k then Enqueued a.class a.at a.len ∷ hfsc_history h else hfsc_history h)
    came true e x = subst (λ (t : ℕ). IsHeld curves start (Enqueued a.class t a.len ∷ hfsc_history h)) (sym e) (Came a.class a.len (hfsc_history h) x)
    came false e x = x

    go : (b : Bool) → nat_lt (start - 1) a.at ≡ b → NoneIsEligible curves (hfsc_history (if b then as_of (start - 1) h else Offered a w v ∷ h)) (start - 1)
        → (NoneIsEligible curves (hfsc_history (as_of (start - 1) h)) (start - 1) → IsHeld curves start (hfsc_history h)) → IsHeld curves start (hfsc_history (Offered a w v ∷ h))
    go true e m rest = came (is_kept v.verdict) (grind (arith, nat_tests, e, l)) (rest m)
    go false e m rest = Before (hfsc_history (Offered a w v ∷ h)) m

some_may : (cs : List HfscClass) (answer : Answering) (g : List Event) (u c : ℕ) → IsClassTree cs → IsSender cs (hfsc_history g) u c → SomeMaySend (hfsc_policy cs answer) g u
some_may cs answer g u c k x =
    let y = waits_head c g x.waits in
    record {
      class = c;
      held = leaf_one cs c x.is_leaf;
      packet = y.packet;
      front = y.front;
      may = at_come (send_from cs (hfsc_history g) c) u (sym (send_is cs (hfsc_history g) u c x.is_leaf x.waits) ∙ x.may);
    }

busy_at : (cs : List HfscClass) (answer : Answering) (rate start : ℕ) (h : List Event) → 0 < rate → IsClassTree cs → latest h ≤ start
    → IsLeastStart (hfsc_policy cs answer) (link rate h).free h start → IsBusyAt rate (reals cs) (hfsc_history h) start
busy_at cs answer rate start h z k l x = go (cases_eq start (link rate h).free)
  where
    go : (start ≡ (link rate h).free) ⊎ (start ≡ (link rate h).free → ⊥) → IsBusyAt rate (reals cs) (hfsc_history h) start
    go (inl e) = Goes_on (e ∙ (link_is rate h z).free)
    go (inr n) =
        let low = x.after_end in
        Held (held_till (reals cs) start h l (λ c e.
        let late = x.least (start - 1) (omega (arith, low, n))
        (some_may cs answer (as_of (start - 1) h) (start - 1) c k (real_sender cs (hfsc_history (as_of (start - 1) h)) (start - 1) c k e)) in
        omega (arith, late, low, n)))

pub is_busy : (cs : List HfscClass) (answer : Answering) (rate : ℕ) (h : List Event) → 0 < rate → IsClassTree cs → Follow cs h → IsBusyLink (hfsc_policy cs answer) rate h
    → IsBusy rate (reals cs) (hfsc_history h)
is_busy cs answer rate [] z k f b = tt
is_busy cs answer rate (Offered a w v ∷ h) z k f b = go (is_kept v.verdict) (is_busy cs answer rate h z k f.2 b)
  where
    go : (d : Bool) → IsBusy rate (reals cs) (hfsc_history h) → IsBusy rate (reals cs) (if d then Enqueued a.class a.at a.len ∷ hfsc_history h else hfsc_history h)
    go true x = x
    go false x = x
is_busy cs answer rate (Sent s ∷ h) z k f b = (busy_at cs answer rate s.start h z k f.0.arrived b.0, is_busy cs answer rate h z k f.1 b.1)

pub are_timely : (cs : List HfscClass) (answer : Answering) (rate : ℕ) (h : List Event) → 0 < rate → IsClassTree cs → Follow cs h → AreHeads (hfsc_history h) → HasLinkEnds rate h
    → IsBusyLink (hfsc_policy cs answer) rate h → FitLink rate (reals cs) → IsTimely rate (reals cs) (hfsc_history h)
are_timely cs answer rate h z k f a e b fit =
    timely rate (reals cs) (hfsc_history h) z (in_order cs h f a) (one_by_one rate h z e) (is_busy cs answer rate h z k f b) (are_chosen cs h k f) fit

-- the histories of a discipline follow so
record StartsOne (p : Policy) (t : ℕ) (h : List Event) (s : ℕ) : Type 0 where
  class : ℕ
  held : IsOneOf class p.classes
  packet : Arrival
  front : head class h ≡ Some packet
  start : p.start_from h class t ≡ s

lesser_one : (a b : Option ℕ) (s : ℕ) → lesser a b ≡ Some s → (a ≡ Some s) ⊎ (b ≡ Some s)
lesser_one None b s e = inr e
lesser_one (Some x) None s e = inl e
lesser_one (Some x) (Some y) s e = go (nat_lt x y) refl
  where
    same : min x y ≡ s
    same = cc

    go : (b : Bool) → nat_lt x y ≡ b → (Some x ≡ Some s) ⊎ (Some y ≡ Some s)
    go true f = inl (ap Some (grind (arith, nat_tests, f, same)))
    go false f = inr (ap Some (grind (arith, nat_tests, f, same)))

start_one : (p : Policy) (t : ℕ) (h : List Event) (c s : ℕ) → start_at p t h c ≡ Some s → (a : Arrival) × (head c h ≡ Some a) × (p.start_from h c t ≡ s)
start_one p t h c s e = go (head c h) refl e
  where
    go : (o : Option Arrival) → head c h ≡ o → option_map (λ (a : Arrival). p.start_from h c t) o ≡ Some s → (a : Arrival) × (head c h ≡ Some a) × (p.start_from h c t ≡ s)
    go None f g = absurd cc
    go (Some a) f g = (a, f, cc)

pub first_one : (p : Policy) (t : ℕ) (h : List Event) (xs : List ℕ) (s : ℕ) → first_at p t h xs ≡ Some s → (c : ℕ) × IsOneOf c xs × (start_at p t h c ≡ Some s)
first_one p t h [] s e = absurd cc
first_one p t h (x ∷ xs) s e = go (lesser_one (start_at p t h x) (first_at p t h xs) s e) (first_one p t h xs s)
  where
    go : (start_at p t h x ≡ Some s) ⊎ (first_at p t h xs ≡ Some s) → (first_at p t h xs ≡ Some s → (c : ℕ) × IsOneOf c xs × (start_at p t h c ≡ Some s))
        → (c : ℕ) × IsOneOf c (x ∷ xs) × (start_at p t h c ≡ Some s)
    go (inl f) rest = (x, inl refl, f)
    go (inr f) rest = let y = rest f in (y.0, inr y.1, y.2)

pub sends_at : (cs : List HfscClass) (answer : Answering) (h : List Event) (c t : ℕ) (b : Arrival) → IsClassTree cs → IsOneOf c (leaves cs) → head c h ≡ Some b
    → (hfsc_policy cs answer).start_from h c t ≡ t → IsSender cs (hfsc_history h) t c
sends_at cs answer h c t b k i e f =
    let l = one_leaf cs c i in
    let w = head_waits c h b e in
    record { is_leaf = l; waits = w; may = send_is cs (hfsc_history h) t c l w ∙ come_at (send_from cs (hfsc_history h) c) t (send_there cs (hfsc_history h) c k) f }

pub orderly_follows : (cs : List HfscClass) (answer : Answering) (h : List Event) → IsClassTree cs → IsOrderly (hfsc_policy cs answer) h → AreHeads (hfsc_history h) → Follow cs h
orderly_follows cs answer [] k o a = tt
orderly_follows cs answer (Offered b w v ∷ h) k o a = (o.0.arrived, o.0.started, orderly_follows cs answer h k o.2 (heads_before v.verdict b (hfsc_history h) a))
orderly_follows cs answer (Sent s ∷ h) k o a =
    let x = o.0 in
    let one = first_one (hfsc_policy cs answer) s.start h (leaves cs) s.start x.first in
    let y = start_one (hfsc_policy cs answer) s.start h one.0 s.start one.2 in (
      record {
        arrived = x.arrived;
        started = x.started;
        sender = one.0;
        may = sends_at cs answer h one.0 s.start y.0 k one.1 y.1 y.2;
        pick = x.pick;
        front = a.0;
      },
      orderly_follows cs answer h k o.1 a.1,
    )

pub orderly_timely : (cs : List HfscClass) (answer : Answering) (rate : ℕ) (h : List Event) → 0 < rate → IsClassTree cs → IsOrderly (hfsc_policy cs answer) h → AreHeads (hfsc_history h)
    → HasLinkEnds rate h → IsBusyLink (hfsc_policy cs answer) rate h → FitLink rate (reals cs) → IsTimely rate (reals cs) (hfsc_history h)
orderly_timely cs answer rate h z k o a e b fit = are_timely cs answer rate h z k (orderly_follows cs answer h k o a) a e b fit
