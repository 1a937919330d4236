-- Each fate of a play can occur in the class of its packet, and each packet that is sent marked is one that may be.
use Rattle.std.proofs.Common.{◌≡◌, ◌-◌, ◌∙◌, ◌⊎◌, inl, inr, ℕ, Bool, true, false, List, [], ◌∷◌, ◌++◌, Some, refl, ap, sym, subst, arith}
use Rattle.std.specs.Prelude.{◌==◌, ◌&&◌, if◌then◌else◌, slice_get}
use Rattle.std.specs.Option.{option_map_or}
use Rattle.std.specs.declared.option.Option.{Option}
use Rattle.std.proofs.lemmas.Bool.Decides.{nat_tests}
use Rattle.altq_model.specs.declared.Fate.TheVariants as fate
use Rattle.altq_model.specs.declared.Reason.{Reason}
use Rattle.altq_model.specs.declared.Reason.TheVariants.{Full, Early, Forced}
use Rattle.altq_model.specs.declared.Rule.{Rule}
use Rattle.altq_model.specs.declared.Verdict.{Verdict}
use Rattle.altq_model.specs.declared.Verdict.TheVariants.{Keep, Mark, Drop}
use Rattle.altq_model.specs.Arrivals.{Captured, bare_arrivals}
use Rattle.altq_model.specs.History.{Answer, Arrival, Decision, DrawnWords, Event, Offered, Sent, LabelledEvent, Sending, unlabelled, decided, drawn, dropped_by, is_mark, journal, was_marked}
use Rattle.altq_model.specs.Lawful.{AreHeld, AreRising, MaySend}
use Rattle.altq_model.specs.Link.{link}
use Rattle.altq_model.specs.Play.{AreDue, offer_of}
use Rattle.conf_laws.proofs.ListPlaces.{map_on}
use Rattle.conf_laws.specs.Fit.{IsInterface}
use Rattle.conf_tree.specs.declared.class.Class.{Class}
use Rattle.conf_tree.specs.declared.interface.Interface.{Interface}
use Rattle.conf_tree.specs.declared.interface.Kind.{Kind}
use Rattle.conf_tree.specs.declared.interface.Kind.TheVariants.{Hfsc, Cbq}
use Rattle.fate_departures.specs.Frames.{Packets, is_markable, precedence_of}
use Rattle.fate_judge.specs.declared.given.Allowed.{Allowed}
use Rattle.fate_judge.specs.Reading.{can_drop}
use Rattle.fate_laws.proofs.Passing.{class_is}
use Rattle.fate_laws.specs.Plays.{CanOccur, MarksAreAllowed, MayHaveMarked}
use Rattle.frame_classes.specs.Handlings.{is_ecn}
use Rattle.given_play.specs.Rights.{allowed_in, allowed_of, drops_early, marks_by, marks_of}
use Rattle.interface_policy.specs.Policy.{answering_of, policy_by, policy_of}
use Rattle.interface_policy.proofs.Promised.{policies_are_lawful}
use Rattle.play_laws.proofs.AllLaws.{due_laws}
use Rattle.play_laws.specs.Events.{AreOfArrivals, EachFollows, IsOfArrival, IsOffer, IsSending}
use Rattle.verify_laws.proofs.Classes.{class_at, has_class, occurs_there}
use Rattle.verify_laws.proofs.Rules.{pick_can}
use Rattle.verify_laws.proofs.Verdicts.{CanAnswer, MayDrop, answer_can}

-- THE EVENTS OF A PLAY
-- what is known of the first events of a play of an interface
pub record IsOfPlay (i : Interface) (seed : ℕ) (arrived : List Arrival) (g : List LabelledEvent) : Type 0 where
  pub fit : IsInterface i
  pub held : AreHeld (policy_of i) arrived
  pub each : EachFollows (policy_of i) i.rate seed arrived g
  pub of_arrivals : AreOfArrivals arrived g

older : (i : Interface) (seed : ℕ) (arrived : List Arrival) (e : LabelledEvent) (g : List LabelledEvent) → IsOfPlay i seed arrived (e ∷ g) → IsOfPlay i seed arrived g
older i seed arrived e g x = record { fit = x.fit; held = x.held; each = x.each.1; of_arrivals = x.of_arrivals.1 }

-- an offer is of the packet of its number, and its class's queue answers it
record IsAnswered (i : Interface) (arrived : List Arrival) (n : ℕ) (v : Verdict) : Type 0 where
  packet : Arrival
  at : slice_get arrived (n - 1) ≡ Some packet
  class : Class
  there : slice_get i.classes packet.class ≡ Some class
  can : CanAnswer class.drop packet.prec v

answer_by : (kind : Kind) (i : Interface) (h : List Event) (w : DrawnWords) (a : Arrival) → (policy_by kind i).answer h w a ≡ answering_of i h w a
answer_by Hfsc i h w a = refl
answer_by Cbq i h w a = refl

abbrev words_of : (seed : ℕ) → List LabelledEvent → DrawnWords
words_of seed g = record { seed = seed; drawn = drawn (unlabelled g) }

offer_answered : (i : Interface) (seed : ℕ) (arrived : List Arrival) (g : List LabelledEvent) (n : ℕ) (a : Arrival) → AreHeld (policy_of i) arrived
    → slice_get arrived (n - 1) ≡ Some a → IsAnswered i arrived n ((policy_of i).answer (unlabelled g) (words_of seed g) a).verdict
offer_answered i seed arrived g n a held at =
    let its = has_class i arrived n a held at in
    let P : Answer → Type 0 = λ v. CanAnswer its.class.drop a.prec v.verdict in
    record {
      packet = a;
      at = at;
      class = its.class;
      there = its.at;
      can = subst P (sym (answer_by i.kind i (unlabelled g) (words_of seed g) a)) (answer_can i (unlabelled g) (words_of seed g) a its.class its.at);
    }

-- FATES
can_append : (classes : List Allowed) (arrived : List Arrival) (xs ys : List Decision) → CanOccur classes arrived xs → CanOccur classes arrived ys
    → CanOccur classes arrived (xs ++ ys)
can_append classes arrived [] ys x y = y
can_append classes arrived (d ∷ xs) ys x y = (x.0, can_append classes arrived xs ys x.1 y)

early_by : (kind : Kind) (k : Class) → (allowed_in kind k).early ≡ drops_early k.drop
early_by Hfsc k = refl
early_by Cbq k = refl

drop_can : (c : Allowed) (r : Reason) → MayDrop c.early (Drop r) → can_drop c r ≡ true
drop_can c Full m = refl
drop_can c Early m = m
drop_can c Forced m = m

drop_by : (i : Interface) (arrived : List Arrival) (n : ℕ) (v : Verdict) → IsAnswered i arrived n v
    → CanOccur (allowed_of i) arrived (dropped_by v n)
drop_by i arrived n Keep x = tt
drop_by i arrived n Mark x = tt
drop_by i arrived n (Drop r) x =
    let P : Bool → Type 0 = λ early. MayDrop early (Drop r) in
    let may = drop_can (allowed_in i.kind x.class) r (subst P (sym (early_by i.kind x.class)) x.can.drops) in
    (occurs_there i arrived n x.packet x.class (fate.Dropped r) x.at x.there may, tt)

offer_can : (i : Interface) (seed : ℕ) (arrived : List Arrival) (e : LabelledEvent) (g : List LabelledEvent) → AreHeld (policy_of i) arrived
    → IsOffer (policy_of i) i.rate seed arrived g e → IsOfArrival arrived e.label e.what → CanOccur (allowed_of i) arrived (decided e.label e.what)
offer_can i seed arrived e g held x of =
    let o : LabelledEvent = offer_of (policy_of i) seed g x.packet in
    let P : LabelledEvent → Type 0 = λ z. IsOfArrival arrived z.label z.what in
    let Q : LabelledEvent → Type 0 = λ z. CanOccur (allowed_of i) arrived (decided z.label z.what) in
    let its = subst P x.offer of in
    subst Q (sym x.offer) (drop_by i arrived o.label ((policy_of i).answer (unlabelled g) (words_of seed g) x.packet).verdict
    (offer_answered i seed arrived g o.label x.packet held its.1))

sending_can : (i : Interface) (seed : ℕ) (arrived : List Arrival) (e : LabelledEvent) (g : List LabelledEvent) → IsInterface i → AreHeld (policy_of i) arrived
    → IsSending (policy_of i) i.rate arrived g e → IsOfArrival arrived e.label e.what → CanOccur (allowed_of i) arrived (decided e.label e.what)
sending_can i seed arrived e g fit held x of =
    let P : Event → Type 0 = λ z. IsOfArrival arrived e.label z in
    let Q : Event → Type 0 = λ z. CanOccur (allowed_of i) arrived (decided e.label z) in
    let s : Sending = x.sending in
    let its = subst P x.event of in
    let there = has_class i arrived e.label its.packet held its.arrival in
    let class : its.packet.class ≡ ((policy_of i).pick (unlabelled g) s.start).class = sym its.class ∙ x.class in
    let R : ℕ → Type 0 = λ c. slice_get i.classes c ≡ Some there.class in
    let M : ℕ → Type 0 = λ c. MaySend (policy_of i) (link i.rate (unlabelled g)).free (unlabelled g) c s.start in
    let picked = pick_can i.kind i (unlabelled g) (link i.rate (unlabelled g)).free s.start there.class fit (subst M x.class x.may) (subst R class there.at) in
    let S : Rule → Type 0 = λ r. CanOccur (allowed_of i) arrived ((e.label, fate.Sent s.start s.end r) ∷ []) in
    subst Q (sym x.event) (subst S (sym x.rule)
    (occurs_there i arrived e.label its.packet there.class (fate.Sent s.start s.end ((policy_of i).pick (unlabelled g) s.start).rule) its.arrival there.at picked, tt))

event_can : (i : Interface) (seed : ℕ) (arrived : List Arrival) (e : LabelledEvent) (g : List LabelledEvent) → IsInterface i → AreHeld (policy_of i) arrived
    → IsOffer (policy_of i) i.rate seed arrived g e ⊎ IsSending (policy_of i) i.rate arrived g e → IsOfArrival arrived e.label e.what
    → CanOccur (allowed_of i) arrived (decided e.label e.what)
event_can i seed arrived e g fit held (inl x) of = offer_can i seed arrived e g held x of
event_can i seed arrived e g fit held (inr x) of = sending_can i seed arrived e g fit held x of

pub fates_can_occur : (i : Interface) (seed : ℕ) (arrived : List Arrival) (g : List LabelledEvent) → IsOfPlay i seed arrived g
    → CanOccur (allowed_of i) arrived (journal g)
fates_can_occur i seed arrived [] x = tt
fates_can_occur i seed arrived (e ∷ g) x =
    can_append (allowed_of i) arrived (journal g) (decided e.label e.what) (fates_can_occur i seed arrived g (older i seed arrived e g x))
    (event_can i seed arrived e g x.fit x.held x.each.0 x.of_arrivals.0)

-- MARKS
-- the packet of a number is one that may be marked
record IsMarkable (i : Interface) (arrived : List Arrival) (n : ℕ) : Type 0 where
  packet : Arrival
  at : slice_get arrived (n - 1) ≡ Some packet
  class : Class
  there : slice_get i.classes packet.class ≡ Some class
  ecn : is_ecn class.drop ≡ true
  capable : (packet.prec == 1) ≡ true

answered_mark : (i : Interface) (arrived : List Arrival) (n : ℕ) (v : Verdict) → IsAnswered i arrived n v → is_mark v ≡ true → IsMarkable i arrived n
answered_mark i arrived n v x e =
    let may = x.can.marks e in
    record { packet = x.packet; at = x.at; class = x.class; there = x.there; ecn = may.ecn; capable = may.capable }

mark_if : (i : Interface) (arrived : List Arrival) (n label : ℕ) (b mark before : Bool) → (b ≡ true → label ≡ n)
    → (mark ≡ true → IsMarkable i arrived label) → (before ≡ true → IsMarkable i arrived n) → (if b then mark else before) ≡ true → IsMarkable i arrived n
mark_if i arrived n label true mark before same here there e =
    let P : ℕ → Type 0 = λ m. IsMarkable i arrived m in subst P (same refl) (here e)
mark_if i arrived n label false mark before same here there e = there e

same_label : (m n : ℕ) → (m == n) ≡ true → m ≡ n
same_label m n e = grind (arith, nat_tests, e)

event_mark : (i : Interface) (seed : ℕ) (arrived : List Arrival) (n : ℕ) (e : LabelledEvent) (g : List LabelledEvent) → AreHeld (policy_of i) arrived
    → IsOffer (policy_of i) i.rate seed arrived g e ⊎ IsSending (policy_of i) i.rate arrived g e → IsOfArrival arrived e.label e.what
    → (was_marked n g ≡ true → IsMarkable i arrived n) → was_marked n (e ∷ g) ≡ true → IsMarkable i arrived n
event_mark i seed arrived n e g held (inl x) of before =
    let o : LabelledEvent = offer_of (policy_of i) seed g x.packet in
    let v : Verdict = ((policy_of i).answer (unlabelled g) (words_of seed g) x.packet).verdict in
    let P : LabelledEvent → Type 0 = λ z. IsOfArrival arrived z.label z.what in
    let Q : LabelledEvent → Type 0 = λ z. was_marked n (z ∷ g) ≡ true → IsMarkable i arrived n in
    let its = subst P x.offer of in
    let answered = offer_answered i seed arrived g o.label x.packet held its.1 in
    subst Q (sym x.offer)
    (mark_if i arrived n o.label (o.label == n) (is_mark v) (was_marked n g) (same_label o.label n) (answered_mark i arrived o.label v answered) before)
event_mark i seed arrived n e g held (inr x) of before =
    let Q : Event → Type 0 = λ z. was_marked n (record { label = e.label; what = z } ∷ g) ≡ true → IsMarkable i arrived n in
    subst Q (sym x.event) before

marked : (i : Interface) (seed : ℕ) (arrived : List Arrival) (n : ℕ) (g : List LabelledEvent) → IsOfPlay i seed arrived g → was_marked n g ≡ true
    → IsMarkable i arrived n
marked i seed arrived n [] x e = absurd cc
marked i seed arrived n (y ∷ g) x e =
    event_mark i seed arrived n y g x.held x.each.0 x.of_arrivals.0 (marked i seed arrived n g (older i seed arrived y g x)) e

both : (a b : Bool) → a ≡ true → b ≡ true → (a && b) ≡ true
both true b e f = f
both false b e f = absurd cc

-- the packets of a play, whatever their bytes are
abbrev pub packets_of : Interface → List Arrival → List (List ℕ) → Packets
packets_of i arrived frames = record { arrived = arrived; frames = frames; marks = marks_of i }

markable : (i : Interface) (arrived : List Arrival) (frames : List (List ℕ)) (n c : ℕ) (x : IsMarkable i arrived n) → c ≡ x.packet.class
    → is_markable (packets_of i arrived frames) n c ≡ true
markable i arrived frames n c x is =
    let its : slice_get (marks_of i) c ≡ Some (marks_by x.class) = ap (slice_get (marks_of i)) is ∙ map_on marks_by i.classes x.packet.class x.class x.there in
    let marks : option_map_or (λ (b : Bool). b) (slice_get (marks_of i) c) false ≡ true =
    ap (λ (o : Option Bool). option_map_or (λ (b : Bool). b) o false) its ∙ x.ecn in
    let prec : precedence_of arrived n ≡ x.packet.prec = ap (λ (o : Option Arrival). option_map_or (λ (a : Arrival). a.prec) o 0) x.at in
    both (option_map_or (λ (b : Bool). b) (slice_get (marks_of i) c) false) (precedence_of arrived n == 1) marks
    (ap (λ (m : ℕ). m == 1) prec ∙ x.capable)

event_may : (i : Interface) (seed : ℕ) (arrived : List Captured) (frames : List (List ℕ)) (n : ℕ) (e : Event) (g : List LabelledEvent)
    → IsOfPlay i seed (bare_arrivals arrived) g → MayHaveMarked (packets_of i (bare_arrivals arrived) frames) arrived n e g
event_may i seed arrived frames n (Offered a w v) g x = tt
event_may i seed arrived frames n (Sent s) g x = λ e.
    let m = marked i seed (bare_arrivals arrived) n g x e in
    markable i (bare_arrivals arrived) frames n _ m (class_is arrived n ∙ class_at (bare_arrivals arrived) n m.packet m.at)

pub marks_are_allowed : (i : Interface) (seed : ℕ) (arrived : List Captured) (frames : List (List ℕ)) (g : List LabelledEvent)
    → IsOfPlay i seed (bare_arrivals arrived) g → MarksAreAllowed (packets_of i (bare_arrivals arrived) frames) arrived g
marks_are_allowed i seed arrived frames [] x = tt
marks_are_allowed i seed arrived frames (e ∷ g) x =
    let rest = older i seed (bare_arrivals arrived) e g x in
    (event_may i seed arrived frames e.label e.what g rest, marks_are_allowed i seed arrived frames g rest)

-- OF THE EVENTS THAT WERE DUE
of_play : (i : Interface) (seed : ℕ) (arrived : List Arrival) (g : List LabelledEvent) → IsInterface i → AreRising arrived → AreHeld (policy_of i) arrived
    → AreDue (policy_of i) i.rate seed arrived g → IsOfPlay i seed arrived g
of_play i seed arrived g fit rising held due =
    let least = fit.rate.0 in
    let laws = due_laws (policy_of i) i.rate seed arrived g (omega (arith, least)) (policies_are_lawful i fit) rising due in
    record { fit = fit; held = held; each = laws.each; of_arrivals = laws.of_arrivals }

pub play_can_occur : (i : Interface) (seed : ℕ) (arrived : List Arrival) (g : List LabelledEvent) → IsInterface i → AreRising arrived
    → AreHeld (policy_of i) arrived → AreDue (policy_of i) i.rate seed arrived g → CanOccur (allowed_of i) arrived (journal g)
play_can_occur i seed arrived g fit rising held due = fates_can_occur i seed arrived g (of_play i seed arrived g fit rising held due)

pub play_marks : (i : Interface) (seed : ℕ) (arrived : List Captured) (p : Packets) (g : List LabelledEvent) → IsInterface i → AreRising (bare_arrivals arrived)
    → AreHeld (policy_of i) (bare_arrivals arrived) → AreDue (policy_of i) i.rate seed (bare_arrivals arrived) g → p.arrived ≡ bare_arrivals arrived
    → p.marks ≡ marks_of i → MarksAreAllowed p arrived g
play_marks i seed arrived p g fit rising held due comes marks =
    let same : packets_of i (bare_arrivals arrived) p.frames ≡ p =
    ap (λ (xs : List Arrival). record { arrived = xs; frames = p.frames; marks = marks_of i }) (sym comes)
    ∙ ap (λ (xs : List Bool). record { arrived = p.arrived; frames = p.frames; marks = xs }) (sym marks) in
    let P : Packets → Type 0 = λ q. MarksAreAllowed q arrived g in
    subst P same (marks_are_allowed i seed arrived p.frames g (of_play i seed (bare_arrivals arrived) g fit rising held due))
