-- A class that does not borrow keeps its rate.
use Rattle.std.proofs.Common.{◌≡◌, ◌≢◌, ◌≤◌, ◌<◌, ◌+◌, ◌-◌, ◌*◌, ◌∙◌, ℕ, zero, suc, Bool, true, false, List, [], ◌∷◌, ◌++◌, None, Some, length, refl, ap, sym, subst, arith, max, eqb}
use Rattle.std.specs.declared.option.Option.{Option}
use Rattle.std.specs.Prelude.{◌||◌, if◌then◌else◌, unwrap_or}
use Rattle.std.specs.List.{list_any}
use Rattle.std.proofs.lemmas.Bool.{eq-eqb, ne_eqb, eqb-true}
use Rattle.altq_model.specs.declared.Rule.TheVariants.{Own, Borrow}
use Rattle.altq_model.specs.History.{Event, Offered, Sent, Sending}
use Rattle.altq_model.specs.Link.{end_of, link}
use Rattle.altq_model.specs.Play.{Choice}
use Rattle.play_base.specs.Units.{time_of, units}
use Rattle.play_laws.proofs.LinkLemmas.{end_later}
use Rattle.cbq_estimator.specs.Average.{Pace, Ended, EndsAreInOrder, last_end}
use Rattle.cbq_estimator.specs.Capped.{AreAllowed, AreAtMost, bytes}
use Rattle.cbq_estimator.specs.Estimate.{Estimate}
use Rattle.cbq_estimator.specs.Now.{allows_now, estimate_of}
use Rattle.cbq_estimator.specs.Starts.{allows}
use Rattle.cbq_estimator.proofs.Rises.{keeps}
use Rattle.cbq_model.specs.declared.CbqClass.{CbqClass}
use Rattle.cbq_model.specs.Tree.{class_of, is_root, is_under, pace_of, path_up}
use Rattle.cbq_model.specs.Choice.{Situation, allows_in, estimate_in, head_in, picked}
use Rattle.cbq_model.specs.Rounds.{ends, situation}
use Rattle.cbq_model.specs.Capped.{AreOwn, AreSendings, IsBottom, IsSending, IsStretch, KeepsItsRate, longest, sent_by}
use Rattle.cbq_model.proofs.Lawful.{head_len}
use Rattle.cbq_model.proofs.Least.{estimate_is}
use Rattle.cbq_model.proofs.Places.{is_below}

-- no class has a class without children above it
none_above : (cs : List CbqClass) (c levels : ℕ) (o : Option ℕ) → ((d : ℕ) → (class_of cs d).parent ≢ Some c) → o ≢ Some c
    → list_any (λ x. eqb x c) (path_up levels cs o) ≡ false
none_above cs c zero o none n = refl
none_above cs c (suc levels) None none n = refl
none_above cs c (suc levels) (Some d) none n =
    let other : eqb d c ≡ false = ne_eqb d c (λ e. n (ap (λ (m : ℕ). Some m) e)) in
    ap (λ (b : Bool). b || list_any (λ x. eqb x c) (path_up levels cs (class_of cs d).parent)) other
    ∙ none_above cs c levels (class_of cs d).parent none (none d)

or_none : (a b : Bool) → b ≡ false → (a || b) ≡ a
or_none true b e = refl
or_none false b e = e

alone : (cs : List CbqClass) (c d : ℕ) → IsBottom cs c → is_under cs c d ≡ eqb d c
alone cs c d b = or_none (eqb d c) _ (none_above cs c 7 (class_of cs d).parent b.childless (b.childless d))

-- so its packets are its own
pub own_ends : (cs : List CbqClass) (c : ℕ) (h : List Event) → IsBottom cs c → ends cs c h ≡ sent_by c h
own_ends cs c [] b = refl
own_ends cs c (Offered a w v ∷ h) b = own_ends cs c h b
own_ends cs c (Sent s ∷ h) b =
    ap (λ (t : Bool). if t then record { end = s.end; len = s.len } ∷ ends cs c h else ends cs c h) (alone cs c s.class b)
    ∙ ap (λ (es : List Ended). if eqb s.class c then record { end = s.end; len = s.len } ∷ es else es) (own_ends cs c h b)

-- what is sent by the rule Own is allowed by the class itself
rule_own : (a : Bool) → (if a then Own else Borrow) ≡ Own → a ≡ true
rule_own true e = refl
rule_own false e = absurd (cc)

abbrev allows_head : List CbqClass → (rate : ℕ) → Situation → (start c : ℕ) → Bool
allows_head cs rate x start c = allows_in cs rate x c start (unwrap_or (head_in x c) 0)

pub own_allowed : (cs : List CbqClass) (rate : ℕ) (h : List Event) (s : Sending) → IsSending cs rate h s → s.rule ≡ Own
    → allows_in cs rate (situation cs rate h) s.class s.start s.len ≡ true
own_allowed cs rate h s i own =
    let x : Situation = situation cs rate h in
    let class : picked cs rate x s.start ≡ s.class = ap (λ (k : Choice). k.class) i.choice in
    let rule : (if allows_head cs rate x s.start (picked cs rate x s.start) then Own else Borrow) ≡ Own = ap (λ (k : Choice). k.rule) i.choice ∙ own in
    let here : allows_head cs rate x s.start s.class ≡ true =
    ap (allows_head cs rate x s.start) (sym class) ∙ rule_own (allows_head cs rate x s.start (picked cs rate x s.start)) rule in
    let front : head_in x s.class ≡ Some s.len = head_len cs rate h s.class i.packet i.held i.front ∙ ap (λ (n : ℕ). Some n) (sym i.len) in
    ap (λ (o : Option ℕ). allows_in cs rate x s.class s.start (unwrap_or o 0)) (sym front) ∙ here

not_root : (a b : Bool) → a ≡ false → (a || b) ≡ true → b ≡ true
not_root true b e t = absurd (cc)
not_root false b e t = t

allowed_by_ends : (cs : List CbqClass) (rate : ℕ) (h : List Event) (s : Sending) (c : ℕ) → IsBottom cs c → IsSending cs rate h s → s.class ≡ c
    → s.rule ≡ Own
    → allows (pace_of (class_of cs c)) (sent_by c h) s.end s.len ≡ true
allowed_by_ends cs rate h s c b i e own =
    let x : Situation = situation cs rate h in
    let P : ℕ → Type 0 = λ d. allows_in cs rate x d s.start s.len ≡ true in
    let may : allows_in cs rate x c s.start s.len ≡ true = subst P e (own_allowed cs rate h s i own) in
    let now : allows_now (estimate_in x c) (end_of rate x.link s.start s.len) s.len ≡ true = not_root (is_root cs c) _ b.below may in
    let Q : ℕ → Type 0 = λ d. d < length cs in
    let place : c < length cs = subst Q e (is_below s.class cs i.held) in
    let known : estimate_in x c ≡ estimate_of (pace_of (class_of cs c)) (sent_by c h) =
    estimate_is cs rate h c place ∙ ap (estimate_of (pace_of (class_of cs c))) (own_ends cs c h b) in
    ap (λ (t : ℕ). allows_now (estimate_of (pace_of (class_of cs c)) (sent_by c h)) t s.len) i.end
    ∙ ap (λ (k : Estimate). allows_now k (end_of rate x.link s.start s.len) s.len) (sym known) ∙ now

-- the ends of a class are in order, and none is after the link's last
record IsUpTo (free : ℕ) (es : List Ended) : Type 0 where
  pub most : last_end es ≤ free
  pub order : EndsAreInOrder es

up_to_by : (free end : ℕ) (x : Ended) (es : List Ended) (b : Bool) → IsUpTo free es → free ≤ end → x.end ≡ end → IsUpTo end (if b then x ∷ es else es)
up_to_by free end x es true u l e = record { most = omega (arith, e); order = (omega (arith, u.most, e, l), u.order) }
up_to_by free end x es false u l e = record { most = omega (arith, u.most, l); order = u.order }

up_to : (cs : List CbqClass) (rate c : ℕ) (h : List Event) → 0 < rate → AreSendings cs rate h → IsUpTo (link rate h).free (sent_by c h)
up_to cs rate c [] some a = record { most = omega arith; order = tt }
up_to cs rate c (Offered x w v ∷ h) some a = up_to cs rate c h some a
up_to cs rate c (Sent s ∷ h) some a =
    let before = up_to cs rate c h some a.1 in
    let later = end_later rate h s.start s.len some in
    up_to_by (link rate h).free (end_of rate (link rate h) s.start s.len) (record { end = s.end; len = s.len }) (sent_by c h) (eqb s.class c) before
    (omega (arith, a.0.free, later)) a.0.end

-- a stretch's packets stand before the older ones
sent_by_case : (b : Bool) (x : Ended) (all newer older : List Ended) → all ≡ newer ++ older
    → (if b then x ∷ all else all) ≡ (if b then x ∷ newer else newer) ++ older
sent_by_case true x all newer older e = ap (λ (es : List Ended). x ∷ es) e
sent_by_case false x all newer older e = e

pub sent_after : (c : ℕ) (g h : List Event) → sent_by c (g ++ h) ≡ sent_by c g ++ sent_by c h
sent_after c [] h = refl
sent_after c (Offered a w v ∷ g) h = sent_after c g h
sent_after c (Sent s ∷ g) h = sent_by_case (eqb s.class c) (record { end = s.end; len = s.len }) (sent_by c (g ++ h)) (sent_by c g) (sent_by c h) (sent_after c g h)

-- each was allowed after those before it
allowed_by : (p : Pace) (x : Ended) (newer older : List Ended) (b : Bool) → (b ≡ true → allows p (newer ++ older) x.end x.len ≡ true)
    → AreAllowed p newer older
    → AreAllowed p (if b then x ∷ newer else newer) older
allowed_by p x newer older true f a = (f refl, a)
allowed_by p x newer older false f a = a

are_allowed : (cs : List CbqClass) (rate c : ℕ) (g h : List Event) → IsBottom cs c → AreSendings cs rate (g ++ h) → AreOwn c g
    → AreAllowed (pace_of (class_of cs c)) (sent_by c g) (sent_by c h)
are_allowed cs rate c [] h b a o = tt
are_allowed cs rate c (Offered x w v ∷ g) h b a o = are_allowed cs rate c g h b a o
are_allowed cs rate c (Sent s ∷ g) h b a o =
    let p : Pace = pace_of (class_of cs c) in
    let P : List Ended → Type 0 = λ es. allows p es s.end s.len ≡ true in
    allowed_by p (record { end = s.end; len = s.len }) (sent_by c g) (sent_by c h) (eqb s.class c)
    (λ t. let e = eqb-true s.class c t in subst P (sent_after c g h) (allowed_by_ends cs rate (g ++ h) s c b a.0 e (o.0 e)))
    (are_allowed cs rate c g h b a.1 o.1)

-- none is longer than the longest
at_most_more : (m n : ℕ) (es : List Ended) → m ≤ n → AreAtMost m es → AreAtMost n es
at_most_more m n [] l a = tt
at_most_more m n (e ∷ es) l a = (omega (arith, l, a.0), at_most_more m n es l a.1)

at_most : (es : List Ended) → AreAtMost (longest es) es
at_most [] = tt
at_most (e ∷ es) = (omega arith, at_most_more (longest es) (max e.len (longest es)) es (omega arith) (at_most es))

sent_one : (c : ℕ) (s : Sending) (h : List Event) → s.class ≡ c → sent_by c (Sent s ∷ h) ≡ record { end = s.end; len = s.len } ∷ sent_by c h
sent_one c s h e = ap (λ (t : Bool). if t then record { end = s.end; len = s.len } ∷ sent_by c h else sent_by c h) (eq-eqb s.class c e)

pub keeps_its_rate : (cs : List CbqClass) (rate c : ℕ) (last : Sending) (between : List Event) (first : Sending) (before : List Event)
    → 0 < rate
    → 0 < (class_of cs c).rate → IsStretch cs rate c last between first before → KeepsItsRate cs c last between first
keeps_its_rate cs rate c last between first before some own_rate s =
    let p : Pace = pace_of (class_of cs c) in
    let e : Ended = record { end = last.end; len = last.len } in
    let b : Ended = record { end = first.end; len = first.len } in
    let es : List Ended = sent_by c between in
    let older : List Ended = sent_by c before in
    let newest : sent_by c (Sent last ∷ between) ≡ e ∷ es = sent_one c last between s.of_last in
    let oldest : sent_by c (Sent first ∷ before) ≡ b ∷ older = sent_one c first before s.of_first in
    let all : sent_by c (Sent last ∷ between ++ Sent first ∷ before) ≡ e ∷ es ++ b ∷ older =
    sent_after c (Sent last ∷ between) (Sent first ∷ before)
    ∙ ap (λ (xs : List Ended). xs ++ sent_by c (Sent first ∷ before)) newest ∙ ap (λ (xs : List Ended). (e ∷ es) ++ xs) oldest in
    let order : EndsAreInOrder (e ∷ es ++ b ∷ older) = subst EndsAreInOrder all (up_to cs rate c (Sent last ∷ between ++ Sent first ∷ before) some s.sendings).order in
    let A : List Ended → Type 0 = λ xs. AreAllowed p xs (sent_by c (Sent first ∷ before)) in
    let B : List Ended → Type 0 = λ xs. AreAllowed p (e ∷ es) xs in
    let allowed : AreAllowed p (e ∷ es) (b ∷ older) =
    subst B oldest (subst A newest (are_allowed cs rate c (Sent last ∷ between) (Sent first ∷ before) s.bottom s.sendings s.own)) in
    let K : List Ended → Type 0 = λ xs. 31 * units (bytes xs) ≤ p.rate * (32 * (last.end - first.end) + 31 * (p.cap + time_of (longest xs) p.rate)) in
    subst K (sym newest) (keeps p (longest (e ∷ es)) e es b older own_rate order allowed (at_most (e ∷ es)))
