-- The openings that a leaf holds are those that its packets make.
use Rattle.std.proofs.Common.{◌≡◌, ◌≤◌, ◌<◌, ◌+◌, ◌-◌, ℕ, Bool, true, false, List, [], ◌∷◌, drop, length, None, Some, refl, ap, subst, sym, arith, ◌∙◌}
use Rattle.std.specs.Prelude.{Option, nat_lt, ◌==◌, ◌&&◌, if◌then◌else◌}
use Rattle.std.proofs.lemmas.Bool.Decides.{nat_tests}
use Rattle.std.proofs.lemmas.List.{length_push}
use Rattle.play_base.specs.Units.{units}
use Rattle.service_curve.specs.declared.Curve.{Curve}
use Rattle.runtime_curve.specs.declared.Opening.{Opening}
use Rattle.runtime_curve.specs.Opening.{opening}
use Rattle.hfsc_model.specs.Event.{HfscHistory, Enqueued, Sent}
use Rattle.hfsc_model.specs.Leaf.{Leaf, Waiting, after_kept, after_sent, leaf, opened}
use Rattle.hfsc_model.specs.Timely.{AreChosen, AreInOrder, IsHead, StartBefore, moment}
use Rattle.hfsc_laws.specs.Openings.{Packet, Sending, all_sent, all_started, openings_among, openings_of, packets, real_before, real_units, started_before, units_before, was_sent, with_sending}

-- all arrived by t, and each that was sent started before u
abbrev ComeBy : ℕ → List Packet → Type 0
ComeBy t [] = Unit {0}
ComeBy t (p ∷ ps) = (p.at ≤ t) × ComeBy t ps

abbrev Begins : ℕ → Option Sending → Type 0
Begins u None = Unit {0}
Begins u (Some s) = s.start < u

abbrev Begin : ℕ → List Packet → Type 0
Begin u [] = Unit {0}
Begin u (p ∷ ps) = Begins u p.sending × Begin u ps

come_later : (t u : ℕ) (ps : List Packet) → t ≤ u → ComeBy t ps → ComeBy u ps
come_later t u [] h a = tt
come_later t u (p ∷ ps) h a = (omega (arith, a.0), come_later t u ps h a.1)

-- how many wait
abbrev unsent_of : Option Sending → ℕ
unsent_of None = 1
unsent_of (Some s) = 0

abbrev unsent : List Packet → ℕ
unsent [] = 0
unsent (p ∷ ps) = unsent ps + unsent_of p.sending

-- the units sent by real time
abbrev units_sent : Option Sending → ℕ
units_sent None = 0
units_sent (Some s) = real_units s

abbrev real_sent : List Packet → ℕ
real_sent [] = 0
real_sent (p ∷ ps) = real_sent ps + units_sent p.sending

none_unsent : (ps : List Packet) → all_sent ps ≡ true → unsent ps ≡ 0
none_unsent [] e = refl
none_unsent (p ∷ ps) e = go p.sending e (none_unsent ps)
  where
    go : (o : Option Sending) → (was_sent o && all_sent ps) ≡ true → (all_sent ps ≡ true → unsent ps ≡ 0) → unsent ps + unsent_of o ≡ 0
    go None e ih = absurd cc
    go (Some s) e ih = let one = ih e in omega arith

some_unsent : (ps : List Packet) → all_sent ps ≡ false → 1 ≤ unsent ps
some_unsent [] e = absurd cc
some_unsent (p ∷ ps) e = go p.sending e (some_unsent ps)
  where
    go : (o : Option Sending) → (was_sent o && all_sent ps) ≡ false → (all_sent ps ≡ false → 1 ≤ unsent ps) → 1 ≤ unsent ps + unsent_of o
    go None e ih = omega arith
    go (Some s) e ih = let one = ih e in omega arith

and_true : (a b : Bool) → a ≡ true → b ≡ true → (a && b) ≡ true
and_true true true e f = refl
and_true true false e f = absurd cc
and_true false b e f = absurd cc

unsent_is : (o : Option Sending) → was_sent o ≡ false → unsent_of o ≡ 1
unsent_is None e = refl
unsent_is (Some s) e = absurd cc

nothing_sent : (o : Option Sending) → was_sent o ≡ false → units_sent o ≡ 0
nothing_sent None e = refl
nothing_sent (Some s) e = absurd cc

-- the forms that a list has after a sending
module _ (s : Sending) (p : Packet) (ps : List Packet) where
  abbrev marked : List Packet
  marked = record { at = p.at; sending = Some s } ∷ ps

  abbrev formed : (rest_sent own_sent : Bool) → List Packet
  formed b c = if b then (if c then p ∷ ps else marked) else p ∷ with_sending s ps

sent_unsent : (s : Sending) (ps : List Packet) → all_sent ps ≡ false → unsent (with_sending s ps) + 1 ≡ unsent ps
sent_unsent s [] e = absurd cc
sent_unsent s (p ∷ ps) e = go (all_sent ps) (was_sent p.sending) refl refl (sent_unsent s ps)
  where
    go : (b c : Bool) → all_sent ps ≡ b → was_sent p.sending ≡ c → (all_sent ps ≡ false → unsent (with_sending s ps) + 1 ≡ unsent ps)
        → unsent (formed s p ps b c) + 1 ≡ unsent ps + unsent_of p.sending
    go true true f g ih = let one = and_true (was_sent p.sending) (all_sent ps) g f in absurd cc
    go true false f g ih = let one = unsent_is p.sending g in omega arith
    go false c f g ih = let one = ih f in omega arith

sent_units : (s : Sending) (ps : List Packet) → all_sent ps ≡ false → real_sent (with_sending s ps) ≡ real_sent ps + real_units s
sent_units s [] e = absurd cc
sent_units s (p ∷ ps) e = go (all_sent ps) (was_sent p.sending) refl refl (sent_units s ps)
  where
    go : (b c : Bool) → all_sent ps ≡ b → was_sent p.sending ≡ c → (all_sent ps ≡ false → real_sent (with_sending s ps) ≡ real_sent ps + real_units s)
        → real_sent (formed s p ps b c) ≡ real_sent ps + units_sent p.sending + real_units s
    go true true f g ih = let one = and_true (was_sent p.sending) (all_sent ps) g f in absurd cc
    go true false f g ih = let one = nothing_sent p.sending g in omega arith
    go false c f g ih = let one = ih f in omega arith

-- a sending from s.start on changes nothing of what started before an earlier moment
not_before : (t : ℕ) (s : Sending) → t ≤ s.start → started_before t (Some s) ≡ false
not_before t s h = go (nat_lt s.start t) refl
  where
    go : (b : Bool) → nat_lt s.start t ≡ b → b ≡ false
    go true e = absurd (grind (arith, nat_tests, e, h))
    go false e = refl

no_start : (t : ℕ) (o : Option Sending) → was_sent o ≡ false → started_before t o ≡ false
no_start t None e = refl
no_start t (Some s) e = absurd cc

none_before : (t : ℕ) (s : Sending) → t ≤ s.start → units_before t (Some s) ≡ 0
none_before t s h = go (nat_lt s.start t) refl
  where
    go : (b : Bool) → nat_lt s.start t ≡ b → (if b then real_units s else 0) ≡ 0
    go true e = absurd (grind (arith, nat_tests, e, h))
    go false e = refl

no_units : (t : ℕ) (o : Option Sending) → was_sent o ≡ false → units_before t o ≡ 0
no_units t None e = refl
no_units t (Some s) e = absurd cc

same_started : (t : ℕ) (s : Sending) (ps : List Packet) → t ≤ s.start → all_started t (with_sending s ps) ≡ all_started t ps
same_started t s [] h = refl
same_started t s (p ∷ ps) h = go (all_sent ps) (was_sent p.sending) refl (same_started t s ps h)
  where
    go : (b c : Bool) → was_sent p.sending ≡ c → all_started t (with_sending s ps) ≡ all_started t ps
        → all_started t (formed s p ps b c) ≡ (started_before t p.sending && all_started t ps)
    go true true g ih = refl
    go true false g ih = ap (λ x. x && all_started t ps) (not_before t s h ∙ sym (no_start t p.sending g))
    go false c g ih = ap (λ x. started_before t p.sending && x) ih

same_units : (t : ℕ) (s : Sending) (ps : List Packet) → t ≤ s.start → real_before t (with_sending s ps) ≡ real_before t ps
same_units t s [] h = refl
same_units t s (p ∷ ps) h = go (all_sent ps) (was_sent p.sending) refl (same_units t s ps h)
  where
    go : (b c : Bool) → was_sent p.sending ≡ c → real_before t (with_sending s ps) ≡ real_before t ps
        → real_before t (formed s p ps b c) ≡ real_before t ps + units_before t p.sending
    go true true g ih = refl
    go true false g ih = ap (λ n. real_before t ps + n) (none_before t s h ∙ sym (no_units t p.sending g))
    go false c g ih = ap (λ n. n + units_before t p.sending) ih

-- an opening or none
same_opening : (at x y : ℕ) (a b : Bool) (os qs : List Opening) → a ≡ b → x ≡ y → os ≡ qs
    → (if a then opening at x ∷ os else os) ≡ (if b then opening at y ∷ qs else qs)
same_opening at x y a b os qs e f g =
    ap (λ z. if z then opening at x ∷ os else os) e ∙ ap (λ n. if b then opening at n ∷ os else os) f ∙ ap (λ zs. if b then opening at y ∷ zs else zs) g

among_same : (u : ℕ) (all other ps : List Packet) → ((t : ℕ) → t ≤ u → real_before t all ≡ real_before t other) → ComeBy u ps → openings_among all ps ≡ openings_among other ps
among_same u all other [] f a = refl
among_same u all other (p ∷ ps) f a =
    same_opening p.at (real_before p.at all) (real_before p.at other) (all_started p.at ps) (all_started p.at ps) (openings_among all ps) (openings_among other ps)
    refl (f p.at a.0) (among_same u all other ps f a.1)

among_sent : (s : Sending) (all other ps : List Packet) → ((t : ℕ) → t ≤ s.start → real_before t all ≡ real_before t other) → ComeBy s.start ps
    → openings_among all (with_sending s ps) ≡ openings_among other ps
among_sent s all other [] f a = refl
among_sent s all other (p ∷ ps) f a = go (all_sent ps) (was_sent p.sending) (among_sent s all other ps f a.1) (among_same s.start all other ps f a.1)
  where
    go : (b c : Bool) → openings_among all (with_sending s ps) ≡ openings_among other ps → openings_among all ps ≡ openings_among other ps
        → openings_among all (formed s p ps b c) ≡ openings_among other (p ∷ ps)
    go true true ih same =
        same_opening p.at (real_before p.at all) (real_before p.at other) (all_started p.at ps) (all_started p.at ps) (openings_among all ps) (openings_among other ps)
        refl (f p.at a.0) same
    go true false ih same =
        same_opening p.at (real_before p.at all) (real_before p.at other) (all_started p.at ps) (all_started p.at ps) (openings_among all ps) (openings_among other ps)
        refl (f p.at a.0) same
    go false c ih same =
        same_opening p.at (real_before p.at all) (real_before p.at other) (all_started p.at (with_sending s ps)) (all_started p.at ps)
        (openings_among all (with_sending s ps)) (openings_among other ps) (same_started p.at s ps a.0) (f p.at a.0) ih

openings_sent : (s : Sending) (ps : List Packet) → ComeBy s.start ps → openings_of (with_sending s ps) ≡ openings_of ps
openings_sent s ps a = among_sent s (with_sending s ps) ps ps (λ t h. same_units t s ps h) a

-- where all that were sent started before t, all started that were sent, and all units count
all_begun : (t : ℕ) (ps : List Packet) → Begin t ps → all_started t ps ≡ all_sent ps
all_begun t [] b = refl
all_begun t (p ∷ ps) b = go p.sending b.0 (all_begun t ps b.1)
  where
    go : (o : Option Sending) → Begins t o → all_started t ps ≡ all_sent ps → (started_before t o && all_started t ps) ≡ (was_sent o && all_sent ps)
    go None h ih = refl
    go (Some s) h ih = first (nat_lt s.start t) refl ih
      where
        first : (x : Bool) → nat_lt s.start t ≡ x → all_started t ps ≡ all_sent ps → (x && all_started t ps) ≡ all_sent ps
        first true e ih = ih
        first false e ih = absurd (grind (arith, nat_tests, e, h))

all_units : (t : ℕ) (ps : List Packet) → Begin t ps → real_before t ps ≡ real_sent ps
all_units t [] b = refl
all_units t (p ∷ ps) b = go p.sending b.0 (all_units t ps b.1)
  where
    go : (o : Option Sending) → Begins t o → real_before t ps ≡ real_sent ps → real_before t ps + units_before t o ≡ real_sent ps + units_sent o
    go None h ih = omega (arith, ih)
    go (Some s) h ih = first (nat_lt s.start t) refl
      where
        first : (x : Bool) → nat_lt s.start t ≡ x → real_before t ps + (if x then real_units s else 0) ≡ real_sent ps + real_units s
        first true e = ap (λ n. n + real_units s) ih
        first false e = absurd (grind (arith, nat_tests, e, h))

begin_sent : (t : ℕ) (s : Sending) (ps : List Packet) → s.start < t → Begin t ps → Begin t (with_sending s ps)
begin_sent t s [] h b = tt
begin_sent t s (p ∷ ps) h b = go (all_sent ps) (was_sent p.sending) (begin_sent t s ps h b.1)
  where
    go : (x y : Bool) → Begin t (with_sending s ps) → Begin t (formed s p ps x y)
    go true true ih = b
    go true false ih = (h, b.1)
    go false y ih = (b.0, ih)

come_sent : (t : ℕ) (s : Sending) (ps : List Packet) → ComeBy t ps → ComeBy t (with_sending s ps)
come_sent t s [] a = tt
come_sent t s (p ∷ ps) a = go (all_sent ps) (was_sent p.sending) (come_sent t s ps a.1)
  where
    go : (x y : Bool) → ComeBy t (with_sending s ps) → ComeBy t (formed s p ps x y)
    go true true ih = a
    go true false ih = a
    go false y ih = (a.0, ih)

begins : (h : HfscHistory) (c t : ℕ) → StartBefore h t → Begin t (packets h c)
begins [] c t b = tt
begins (Enqueued d at len ∷ h) c t b = go (d == c) (begins h c t b)
  where
    go : (x : Bool) → Begin t (packets h c) → Begin t (if x then record { at = at; sending = None } ∷ packets h c else packets h c)
    go true a = (tt, a)
    go false a = a
begins (Sent d len real start ∷ h) c t b = go (d == c) (begins h c t b.1)
  where
    go : (x : Bool) → Begin t (packets h c) → Begin t (if x then with_sending (record { start = start; len = len; real = real }) (packets h c) else packets h c)
    go true a = begin_sent t (record { start = start; len = len; real = real }) (packets h c) b.0 a
    go false a = a

record Same (l : Leaf) (t : ℕ) (ps : List Packet) : Type 0 where
  waits : length l.waiting ≡ unsent ps
  count : l.count ≡ real_sent ps
  come : ComeBy t ps
  openings : l.openings ≡ openings_of ps

-- a packet that is kept
kept_opens : (l : Leaf) (at t : ℕ) (ps : List Packet) → t ≤ at → Begin at ps → Same l t ps
    → opened l.waiting at l.count l.openings ≡ openings_of (record { at = at; sending = None } ∷ ps)
kept_opens l at t ps h b x =
    go l.waiting (all_sent ps) refl x.waits
    ∙ same_opening at l.count (real_before at all) (all_sent ps) (all_started at ps) l.openings (openings_among all ps) (sym (all_begun at ps b)) units_are older
  where
    all : List Packet
    all = record { at = at; sending = None } ∷ ps

    same : (u : ℕ) → real_before u ps ≡ real_before u all
    same u = omega arith

    units_are : l.count ≡ real_before at all
    units_are = x.count ∙ sym (all_units at ps b) ∙ same at

    older : l.openings ≡ openings_among all ps
    older = x.openings ∙ among_same t ps all ps (λ u k. same u) x.come

    go : (ws : List Waiting) (a : Bool) → all_sent ps ≡ a → length ws ≡ unsent ps → opened ws at l.count l.openings ≡ (if a then opening at l.count ∷ l.openings else l.openings)
    go [] true e f = refl
    go [] false e f = let one = some_unsent ps e in absurd (omega (arith, f, one))
    go (w ∷ ws) true e f = let one = none_unsent ps e in absurd (omega (arith, f, one))
    go (w ∷ ws) false e f = refl

kept_same : (l : Leaf) (at len t : ℕ) (ps : List Packet) → t ≤ at → Begin at ps → Same l t ps
    → Same (after_kept at len l) at (record { at = at; sending = None } ∷ ps)
kept_same l at len t ps h b x = record {
  waits = length_push l.waiting (record { at = at; len = len }) ∙ ap (λ n. n + 1) x.waits;
  count = x.count ∙ plus_none (real_sent ps);
  come = (omega arith, come_later t at ps h x.come);
  openings = kept_opens l at t ps h b x;
}
  where
    plus_none : (n : ℕ) → n ≡ n + 0
    plus_none n = omega arith

sent_same : (l : Leaf) (len t start : ℕ) (real : Bool) (ps : List Packet) → t ≤ start → IsHead l.waiting len → Same l t ps
    → Same (after_sent len real l) start (with_sending (record { start = start; len = len; real = real }) ps)
sent_same l len t start real ps h k x = record {
  waits = fewer l.waiting k x.waits;
  count = more real ∙ ap (λ n. n + real_units s) x.count ∙ sym (sent_units s ps left);
  come = come_sent start s ps (come_later t start ps h x.come);
  openings = x.openings ∙ sym (openings_sent s ps (come_later t start ps h x.come));
}
  where
    s : Sending
    s = record { start = start; len = len; real = real }

    unsent_there : (ws : List Waiting) → IsHead ws len → length ws ≡ unsent ps → (a : Bool) → all_sent ps ≡ a → a ≡ false
    unsent_there [] k e a f = absurd k
    unsent_there (w ∷ ws) k e true f = let one = none_unsent ps f in absurd (omega (arith, e, one))
    unsent_there (w ∷ ws) k e false f = refl

    left : all_sent ps ≡ false
    left = unsent_there l.waiting k x.waits (all_sent ps) refl

    fewer : (ws : List Waiting) → IsHead ws len → length ws ≡ unsent ps → length (drop 1 ws) ≡ unsent (with_sending s ps)
    fewer [] k e = absurd k
    fewer (w ∷ ws) k e = let one = sent_unsent s ps left in omega (arith, e, one)

    more : (b : Bool) → (if b then l.count + units len else l.count) ≡ l.count + (if b then units len else 0)
    more true = refl
    more false = omega arith

same : (curves : List (Option Curve)) (h : HfscHistory) (c : ℕ) → AreInOrder h → AreChosen curves h → Same (leaf h c) (moment h) (packets h c)
same curves [] c o x = record { waits = refl; count = refl; come = tt; openings = refl }
same curves (Enqueued d at len ∷ h) c o x = go (d == c) (same curves h c o.2 x)
  where
    go : (b : Bool) → Same (leaf h c) (moment h) (packets h c)
        → Same (if b then after_kept at len (leaf h c) else leaf h c) at (if b then record { at = at; sending = None } ∷ packets h c else packets h c)
    go true y = kept_same (leaf h c) at len (moment h) (packets h c) o.0 (begins h c at o.1) y
    go false y = record { waits = y.waits; count = y.count; come = come_later (moment h) at (packets h c) o.0 y.come; openings = y.openings }
same curves (Sent d len real start ∷ h) c o x = go (d == c) refl (same curves h c o.2 x.1)
  where
    go : (b : Bool) → (d == c) ≡ b → Same (leaf h c) (moment h) (packets h c)
        → Same (if b then after_sent len real (leaf h c) else leaf h c) start
        (if b then with_sending (record { start = start; len = len; real = real }) (packets h c) else packets h c)
    go true e y =
        let one : d ≡ c = grind (arith, nat_tests, e) in
        sent_same (leaf h c) len (moment h) start real (packets h c) o.0 (subst (λ (k : ℕ). IsHead (leaf h k).waiting len) one x.0.head) y
    go false e y = record { waits = y.waits; count = y.count; come = come_later (moment h) start (packets h c) o.0 y.come; openings = y.openings }

pub opened_by_packets : (curves : List (Option Curve)) (h : HfscHistory) (c : ℕ) → AreInOrder h → AreChosen curves h → (leaf h c).openings ≡ openings_of (packets h c)
opened_by_packets curves h c o x = (same curves h c o x).openings
