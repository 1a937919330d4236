-- For one moment: since the last choice that did not send a head whose deadline had come by it, or since the run's start,
-- each leaf has sent at most what its curve gives up to it.
use Rattle.std.proofs.Common.{◌≡◌, ◌≤◌, ◌<◌, ◌+◌, ◌-◌, ◌*◌, ◌⊎◌, inl, inr, ℕ, Bool, true, false, List, [], ◌∷◌, None, Some, length, refl, ap, sym, subst, arith}
use Rattle.std.specs.Prelude.{Option, if◌then◌else◌, ◌==◌}
use Rattle.std.proofs.lemmas.Bool.{cases_lt}
use Rattle.std.proofs.lemmas.Bool.Decides.{nat_tests}
use Rattle.play_base.specs.Units.{units}
use Rattle.service_curve.specs.declared.Curve.{Curve}
use Rattle.service_curve.specs.Curve.{amount}
use Rattle.service_curve.proofs.Amounts.{mul_mono, time_passed}
use Rattle.runtime_curve.specs.Opening.{Reaches}
use Rattle.hfsc_model.specs.Event.{HfscHistory, Enqueued, Sent}
use Rattle.hfsc_model.specs.Leaf.{Leaf, after_kept, after_sent, leaf}
use Rattle.hfsc_model.specs.Link.{Run, free, started, with_units, run_after, AreOneByOne}
use Rattle.hfsc_model.specs.RealTime.{curve_of, goes_first, has_come, head_deadline, is_eligible}
use Rattle.hfsc_model.specs.Timely.{AreChosen, AreInOrder, Before, Begins, Came, FitLink, Goes_on, Held, IsBusy, IsBusyAt, IsChosen, IsHead, IsHeld, amount_of, longest, moment}
use Rattle.hfsc_laws.proofs.Standing.{Standing, new_stands, kept_standing, due_standing, reaches_due, passed_over, early_passed, shared, late}
use Rattle.hfsc_laws.proofs.Past.{either_leaf, fresh, carried, free_by, started_by, starts_before}
use Rattle.hfsc_laws.proofs.Sums.{sum_below, sum_same, sum_mono, sum_add, sum_one, sum_of_curves}

-- a link, the time of the longest packet on it, the real-time curves of its classes, and the moment up to which they are watched
pub record Guarantee : Type 0 where
  pub rate : ℕ
  pub most : ℕ
  pub curves : List (Option Curve)
  pub until : ℕ

abbrev counts : HfscHistory → ℕ → ℕ
counts h c = (leaf h c).count

abbrev in_all : Guarantee → (ℕ → ℕ) → ℕ
in_all g f = sum_below f (length g.curves)

abbrev LeafStands : Guarantee → (now base c : ℕ) → Leaf → Type 0
LeafStands g now base c l = Standing (curve_of g.curves c) g.until now base l

-- from the moment `now` on, not later than `latest`, at which the leaves' counts were `base`. What the link carried, less what
-- the leaves sent by real time since, fits the time up to `now` and the longest packet's time
record Anchored (g : Guarantee) (h : HfscHistory) (sent latest : ℕ) : Type 0 where
  now : ℕ
  base : ℕ → ℕ
  before : now ≤ latest
  line : sent + in_all g base ≤ g.rate * (now + g.most) + in_all g (counts h)
  standing : (c : ℕ) → LeafStands g now (base c) c (leaf h c)

from_here : (g : Guarantee) (h : HfscHistory) (sent now latest : ℕ) → now ≤ latest → sent ≤ g.rate * (now + g.most)
    → ((c : ℕ) → LeafStands g now (counts h c) c (leaf h c)) → Anchored g h sent latest
from_here g h sent now latest b l f = record { now = now; base = counts h; before = b; line = omega arith; standing = f }

widen : (g : Guarantee) (h : HfscHistory) (more less soon late : ℕ) → less ≤ more → soon ≤ late → Anchored g h more soon → Anchored g h less late
widen g h more less soon late l k x = record {
  now = x.now;
  base = x.base;
  before = omega (arith, x.before);
  line = omega (arith, x.line);
  standing = x.standing;
}

nothing : (g : Guarantee) → Anchored g [] 0 0
nothing g = from_here g [] 0 0 0 (omega arith) (omega arith) (λ c. new_stands (curve_of g.curves c) g.until 0)

kept : (g : Guarantee) (h : HfscHistory) (sent latest d at len : ℕ) → latest ≤ at → Anchored g h sent latest → Anchored g (Enqueued d at len ∷ h) sent at
kept g h sent latest d at len b x = record {
  now = x.now;
  base = x.base;
  before = omega (arith, x.before);
  line = (let one = sum_same (counts (Enqueued d at len ∷ h)) (counts h) (length g.curves) (λ c _. same c) in omega (arith, x.line));
  standing = λ c. either_leaf (LeafStands g x.now (x.base c) c) (d == c) (after_kept at len (leaf h c)) (leaf h c)
      (λ _. kept_standing (curve_of g.curves c) g.until x.now (x.base c) at len (leaf h c) (omega (arith, x.before)) (x.standing c))
      (λ _. x.standing c);
}
  where
    same : (c : ℕ) → counts (Enqueued d at len ∷ h) c ≡ counts h c
    same c = either_leaf (λ l. l.count ≡ counts h c) (d == c) (after_kept at len (leaf h c)) (leaf h c) (λ _. refl) (λ _. refl)

-- what holds of the class that is sent and of all others, holds of each
each_leaf : (P : ℕ → Leaf → Type 0) (h : HfscHistory) (d len : ℕ) (real : Bool) (start : ℕ) → P d (after_sent len real (leaf h d)) → ((c : ℕ) → (c ≡ d → ⊥) → P c (leaf h c))
    → (c : ℕ) → P c (leaf (Sent d len real start ∷ h) c)
each_leaf P h d len real start own other c = either_leaf (P c) (d == c) (after_sent len real (leaf h c)) (leaf h c)
    (λ e. let same : d ≡ c = grind (arith, nat_tests, e) in subst (λ (k : ℕ). P k (after_sent len real (leaf h k))) same own)
    (λ e. other c (λ s. grind (arith, nat_tests, e, s)))

not_true : (b : Bool) → (b ≡ true → ⊥) → b ≡ false
not_true true n = absurd (n refl)
not_true false n = refl

-- a head is sent whose deadline has come
due : (g : Guarantee) (h : HfscHistory) (sent latest d len start : ℕ) → latest ≤ start → d < length g.curves → IsHead (leaf h d).waiting len
    → has_come (head_deadline (curve_of g.curves d) (leaf h d)) g.until ≡ true → Anchored g h sent latest → Anchored g (Sent d len true start ∷ h) (sent + units len) start
due g h sent latest d len start b n k e x = record {
  now = x.now;
  base = x.base;
  before = omega (arith, x.before);
  line = (let one = sum_one (counts h) (counts (Sent d len true start ∷ h)) (length g.curves) d (units len) n own other in omega (arith, x.line));
  standing = each_leaf (λ c l. LeafStands g x.now (x.base c) c l) h d len true start
      (due_standing (curve_of g.curves d) g.until x.now (x.base d) len (leaf h d) k e (x.standing d)) (λ c _. x.standing c);
}
  where
    own : counts (Sent d len true start ∷ h) d ≡ counts h d + units len
    own = each_leaf (λ c l. c ≡ d → l.count ≡ counts h c + units len) h d len true start (λ _. refl) (λ c n s. absurd (n s)) d refl

    other : (c : ℕ) → (c ≡ d → ⊥) → counts (Sent d len true start ∷ h) c ≡ counts h c
    other = each_leaf (λ c l. (c ≡ d → ⊥) → l.count ≡ counts h c) h d len true start (λ n. absurd (n refl)) (λ c _ _. refl)

-- what the link has carried with such a sending
due_end : (g : Guarantee) (h : HfscHistory) (sent latest d len start : ℕ) → FitLink g.rate g.curves → 1 ≤ len → latest ≤ start → d < length g.curves → IsHead (leaf h d).waiting len
    → has_come (head_deadline (curve_of g.curves d) (leaf h d)) g.until ≡ true → Anchored g h sent latest → sent + units len ≤ g.rate * (g.until + g.most)
unfolding due
due_end g h sent latest d len start f z b n k e x =
    let y = due g h sent latest d len start b n k e x in
    let own = due_standing (curve_of g.curves d) g.until x.now (x.base d) len (leaf h d) k e (x.standing d) in
    let passed = later (curve_of g.curves d) (omega (arith, own.within, (x.standing d).grown)) in
    let given : ℕ → ℕ = λ c. amount_of (curve_of g.curves c) (g.until - x.now) in
    let sums = sum_mono (counts (Sent d len true start ∷ h)) (λ c. x.base c + given c) (length g.curves) (λ c. (y.standing c).within) in
    let parts = sum_add x.base given (length g.curves) in
    let all = sum_of_curves g.curves (g.until - x.now) in
    let room = f (g.until - x.now) in
    let whole : (x.now + g.most) + (g.until - x.now) ≡ g.until + g.most = omega arith in
    let times = ap (λ m. g.rate * m) whole in
    omega (arith, y.line, sums, parts, all, room, times)
  where
    later : (o : Option Curve) → 0 < amount_of o (g.until - x.now) → x.now < g.until
    later None p = absurd (omega arith)
    later (Some s) p = time_passed s x.now g.until p

-- of two heads that are eligible the picked one has no later deadline
none_come : (a b : Option ℕ) (c d t : ℕ) → goes_first a c b d ≡ true → has_come a t ≡ false → has_come b t ≡ false
none_come a None c d t p e = refl
none_come None (Some v) c d t p e = absurd cc
none_come (Some u) (Some v) c d t p e = grind (arith, nat_tests, p, e)

-- by real time a head is sent whose deadline is past the moment
late_reset : (g : Guarantee) (h : HfscHistory) (d len start : ℕ) → IsChosen g.curves h d len true start → has_come (head_deadline (curve_of g.curves d) (leaf h d)) g.until ≡ false
    → (c : ℕ) → LeafStands g start (counts (Sent d len true start ∷ h) c) c (leaf (Sent d len true start ∷ h) c)
late_reset g h d len start x e =
    each_leaf (λ c l. LeafStands g start l.count c l) h d len true start
    (late (curve_of g.curves d) g.until start len (leaf h d) x.head e)
    (λ c n. passed_over (curve_of g.curves c) g.until start (leaf h c)
    (λ p. none_come (head_deadline (curve_of g.curves d) (leaf h d)) (head_deadline (curve_of g.curves c) (leaf h c)) d c g.until ((x.by_real_time refl).first c p n) e))

-- a head is sent by share
share_reset : (g : Guarantee) (h : HfscHistory) (d len start : ℕ) → IsChosen g.curves h d len false start
    → (c : ℕ) → LeafStands g start (counts (Sent d len false start ∷ h) c) c (leaf (Sent d len false start ∷ h) c)
share_reset g h d len start x =
    each_leaf (λ c l. LeafStands g start l.count c l) h d len false start
    (shared (curve_of g.curves d) g.until start len (leaf h d) x.head (not_true (is_eligible (curve_of g.curves d) (leaf h d) start) (x.by_share refl d)))
    (λ c n. passed_over (curve_of g.curves c) g.until start (leaf h c) (λ p. absurd (x.by_share refl c p)))

-- after a sending
after : (g : Guarantee) (h : HfscHistory) (sent d len : ℕ) (real : Bool) (start : ℕ) → sent ≤ g.rate * start → units len ≤ g.rate * g.most → IsChosen g.curves h d len real start
    → Anchored g h sent start → Anchored g (Sent d len real start ∷ h) (sent + units len) start
after g h sent d len false start a b x y =
    from_here g (Sent d len false start ∷ h) (sent + units len) start start (omega arith) (omega arith) (share_reset g h d len start x)
after g h sent d len true start a b x y = go (has_come (head_deadline (curve_of g.curves d) (leaf h d)) g.until) refl
  where
    go : (q : Bool) → has_come (head_deadline (curve_of g.curves d) (leaf h d)) g.until ≡ q → Anchored g (Sent d len true start ∷ h) (sent + units len) start
    go true e = due g h sent start d len start (omega arith) x.class x.head e y
    go false e = from_here g (Sent d len true start ∷ h) (sent + units len) start start (omega arith) (omega arith) (late_reset g h d len start x e)

-- a run that begins when the link was held until then: the leaves are bounded from the moment before
held : (g : Guarantee) (start : ℕ) (h : HfscHistory) → 1 ≤ g.most → IsHeld g.curves start h → Anchored g h (g.rate * start) start
held g start _ m (Before h f) =
    let one = mul_mono g.rate start ((start - 1) + g.most) (omega arith) in
    from_here g h (g.rate * start) (start - 1) start (omega arith) one
    (λ c. passed_over (curve_of g.curves c) g.until (start - 1) (leaf h c) (λ e. absurd (f c e)))
held g start _ m (Came d len h x) = kept g h (g.rate * start) start d start len (omega arith) (held g start h m x)

-- a history of events in order, on a busy link, whose sendings are the picks and follow one by one
pub record IsRun (rate most : ℕ) (curves : List (Option Curve)) (h : HfscHistory) : Type 0 where
  pub positive : 0 < rate
  pub order : AreInOrder h
  pub one_by_one : AreOneByOne rate h
  pub busy : IsBusy rate curves h
  pub chosen : AreChosen curves h
  pub short : units (longest h) ≤ rate * most

pub before_kept : (rate most : ℕ) (curves : List (Option Curve)) (d at len : ℕ) (h : HfscHistory) → IsRun rate most curves (Enqueued d at len ∷ h) → IsRun rate most curves h
before_kept rate most curves d at len h x =
    record { positive = x.positive; order = x.order.2; one_by_one = x.one_by_one; busy = x.busy; chosen = x.chosen; short = x.short }

pub before_sent : (rate most : ℕ) (curves : List (Option Curve)) (d len : ℕ) (real : Bool) (start : ℕ) (h : HfscHistory) → IsRun rate most curves (Sent d len real start ∷ h)
    → IsRun rate most curves h
before_sent rate most curves d len real start h x =
    record { positive = x.positive; order = x.order.2; one_by_one = x.one_by_one.1; busy = x.busy.1; chosen = x.chosen.1; short = omega (arith, x.short) }

some_time : (rate most amount : ℕ) → 0 < amount → amount ≤ rate * most → 1 ≤ most
some_time rate most amount h k = go (cases_lt 0 most)
  where
    go : (0 < most) ⊎ (most ≤ 0) → 1 ≤ most
    go (inl a) = a
    go (inr a) = let none : most ≡ 0 = omega arith in let one = ap (λ n. rate * n) none in absurd (omega arith)

-- before a sending, of the run that it goes on with or begins
begun : (g : Guarantee) (h : HfscHistory) (start : ℕ) → 1 ≤ g.most → IsRun g.rate g.most g.curves h → moment h ≤ start → IsBusyAt g.rate g.curves h start
    → free g.rate (run_after g.rate h) ≤ start
    → Anchored g h (carried g.rate (run_after g.rate h)) (moment h) → Anchored g h (carried g.rate (started g.rate (run_after g.rate h) start)) start
begun g h start m x o b f y = go (start == free g.rate (run_after g.rate h)) refl
  where
    new : (start ≡ free g.rate (run_after g.rate h) → ⊥) → IsBusyAt g.rate g.curves h start → Anchored g h (g.rate * start) start
    new n (Goes_on e) = absurd (n e)
    new n (Begins a) =
        let past : free g.rate (run_after g.rate h) < start = grind (arith, n) in
        from_here g h (g.rate * start) start start (omega arith) (omega arith)
        (λ c. fresh (curve_of g.curves c) g.until start h c x.order (starts_before g.rate h start x.positive x.one_by_one past) (a c))
    new n (Held z) = held g start h m z

    go : (q : Bool) → (start == free g.rate (run_after g.rate h)) ≡ q
        → Anchored g h (carried g.rate (if q then run_after g.rate h else record { start = start; sent = 0 })) start
    go true e = widen g h _ _ (moment h) start (omega arith) o y
    go false e = widen g h (g.rate * start) _ start start (omega arith) (omega arith) (new (λ s. grind (arith, nat_tests, e, s)) b)

-- the same of a history that goes on with the sending
sending : (g : Guarantee) (h : HfscHistory) (d len : ℕ) (real : Bool) (start : ℕ) → IsRun g.rate g.most g.curves (Sent d len real start ∷ h)
    → Anchored g h (carried g.rate (run_after g.rate h)) (moment h) → Anchored g h (carried g.rate (started g.rate (run_after g.rate h) start)) start
sending g h d len real start x y =
    begun g h start (some_time g.rate g.most (units len) (omega (arith, x.order.1)) (omega (arith, x.short)))
    (before_sent g.rate g.most g.curves d len real start h x) x.order.0 x.busy.0 x.one_by_one.0 y

anchored : (g : Guarantee) (h : HfscHistory) → IsRun g.rate g.most g.curves h → Anchored g h (carried g.rate (run_after g.rate h)) (moment h)
anchored g [] x = widen g [] 0 _ 0 0 (omega arith) (omega arith) (nothing g)
anchored g (Enqueued d at len ∷ h) x =
    kept g h (carried g.rate (run_after g.rate h)) (moment h) d at len x.order.0 (anchored g h (before_kept g.rate g.most g.curves d at len h x))
anchored g (Sent d len real start ∷ h) x =
    let r : Run = started g.rate (run_after g.rate h) start in
    let y = sending g h d len real start x (anchored g h (before_sent g.rate g.most g.curves d len real start h x)) in
    widen g (Sent d len real start ∷ h) (carried g.rate r + units len) _ start start (omega arith) (omega arith)
    (after g h (carried g.rate r) d len real start (started_by g.rate (run_after g.rate h) start x.positive x.one_by_one.0) (omega (arith, x.short)) x.chosen.0 y)

-- a sending ends at most the longest packet's time after each moment by which its head's deadline has come
pub ends_in_time : (g : Guarantee) (h : HfscHistory) (d len : ℕ) (real : Bool) (start : ℕ) (s : Curve) → IsRun g.rate g.most g.curves (Sent d len real start ∷ h) → FitLink g.rate g.curves
    → curve_of g.curves d ≡ Some s → Reaches s (leaf h d).openings g.until ((leaf h d).count + units len)
    → free g.rate (run_after g.rate (Sent d len real start ∷ h)) ≤ g.until + g.most
ends_in_time g h d len true start s x f c o =
    let y = sending g h d len true start x (anchored g h (before_sent g.rate g.most g.curves d len true start h x)) in
    let r : Run = started g.rate (run_after g.rate h) start in
    let come : has_come (head_deadline (curve_of g.curves d) (leaf h d)) g.until ≡ true
    = subst (λ (k : Option Curve). has_come (head_deadline k (leaf h d)) g.until ≡ true) (sym c) (reaches_due s (leaf h d) (leaf h d).waiting g.until len x.chosen.0.head o) in
    let most = due_end g h (carried g.rate r) start d len start f x.order.1 (omega arith) x.chosen.0.class x.chosen.0.head come y in
    free_by g.rate (with_units r (units len)) (g.until + g.most) x.positive (omega arith)
ends_in_time g h d len false start s x f c o =
    let r : Run = started g.rate (run_after g.rate h) start in
    let none : is_eligible (Some s) (leaf h d) start ≡ false
    = subst (λ (k : Option Curve). is_eligible k (leaf h d) start ≡ false) c (not_true (is_eligible (curve_of g.curves d) (leaf h d) start) (x.chosen.0.by_share refl d)) in
    let past = early_passed s (leaf h d) (leaf h d).waiting g.until start len x.order.1 x.chosen.0.head none o in
    let fits = started_by g.rate (run_after g.rate h) start x.positive x.one_by_one.0 in
    let end = free_by g.rate (with_units r (units len)) (start + g.most) x.positive (omega (arith, x.short)) in
    omega arith
