-- When a policy is lawful, and which arrivals it can play. Each law is required after every history, even after one with packets of
-- classes that the policy does not have; but it is required only for the policy's own classes in which a packet waits.
use Rattle.std.specs.Prelude.{◌≡◌, ◌≤◌, ◌↔◌, ℕ, max, List, [], ◌∷◌, None, Some, option_map}
use Rattle.std.specs.declared.option.Option.{Option}
use Rattle.capture_model.specs.Capture.{Record}
use Rattle.altq_model.specs.History.{Arrival, Answer, DrawnWords, Event, Offered, Sent, head}
use Rattle.altq_model.specs.Play.{Policy, class_start, first_start, lesser}
pub use Rattle.altq_model.specs.Play.{IsOneOf}

-- every head of the policy's classes has arrived by this moment
abbrev pub HaveArrived : Policy → (by : ℕ) → List Event → Type 0
HaveArrived p by h = (c : ℕ) (a : Arrival) → IsOneOf c p.classes → head c h ≡ Some a → a.at ≤ by

-- after a history this is a class of the policy, and this the least moment, not before the last end, at which it may send
pub record MaySend (p : Policy) (free : ℕ) (h : List Event) (c s : ℕ) : Type 0 where
  pub held : IsOneOf c p.classes
  pub start : class_start p free h c ≡ Some s

-- after a history this packet is the head of a class of the policy
pub record IsHead (p : Policy) (h : List Event) (c : ℕ) (b : Arrival) : Type 0 where
  pub held : IsOneOf c p.classes
  pub front : head c h ≡ Some b

pub record IsLawful (p : Policy) : Type 0 where
  -- the least moment from t on is not before t
  pub later : (h : List Event) (c t : ℕ) (b : Arrival) → IsHead p h c b → t ≤ p.start_from h c t
  -- an offer, of whatever class, changes no moment of a class that waits
  pub offers : (h : List Event) (a : Arrival) (w : DrawnWords) (v : Answer) (c t : ℕ) (b : Arrival) → IsHead p h c b
      → p.start_from (Offered a w v ∷ h) c t ≡ p.start_from h c t
  -- at the least moment at which some class may send, if every head has arrived by then, the pick is a class that may
  pub picks : (h : List Event) (free s : ℕ) → first_start p free h p.classes ≡ Some s → HaveArrived p s h → MaySend p free h (p.pick h s).class s

-- any class may send at any moment
abbrev pub NeverWaits : Policy → Type 0
NeverWaits p = (h : List Event) (c t : ℕ) (b : Arrival) → IsHead p h c b → p.start_from h c t ≡ t

-- if the least moment from t on is m, then the least moment from any u between t and m on is also m
abbrev pub IsSteady : Policy → Type 0
IsSteady p = (h : List Event) (c t u : ℕ) (b : Arrival) → IsHead p h c b → t ≤ u → u ≤ p.start_from h c t
    → p.start_from h c u ≡ p.start_from h c t

-- after a history this class of the policy waits, and may send at this moment
pub record IsCandidate (allowed : List Event → (c t : ℕ) → Type 0) (p : Policy) (h : List Event) (s c : ℕ) : Type 0 where
  pub packet : Arrival
  pub head : IsHead p h c packet
  pub may : allowed h c s

-- a policy given by a predicate that says when a waiting class may send: the policy gives the least such moment, an offer changes
-- nothing of the predicate, and the pick is a candidate wherever there is one
pub record SendsWhen (allowed : List Event → (c t : ℕ) → Type 0) (p : Policy) : Type 0 where
  pub later : (h : List Event) (c t : ℕ) (b : Arrival) → IsHead p h c b → t ≤ p.start_from h c t
  pub may : (h : List Event) (c t : ℕ) (b : Arrival) → IsHead p h c b → allowed h c (p.start_from h c t)
  pub least : (h : List Event) (c t u : ℕ) (b : Arrival) → IsHead p h c b → t ≤ u → allowed h c u → p.start_from h c t ≤ u
  pub keeps : (h : List Event) (a : Arrival) (w : DrawnWords) (v : Answer) (c t : ℕ) (b : Arrival) → IsHead p h c b
      → allowed (Offered a w v ∷ h) c t ↔ allowed h c t
  pub picks : (h : List Event) (s c : ℕ) → IsCandidate allowed p h s c → IsCandidate allowed p h s (p.pick h s).class

-- the greatest arrival of what was offered, 0 at first
abbrev pub latest : List Event → ℕ
latest [] = 0
latest (Offered a w v ∷ h) = max a.at (latest h)
latest (Sent s ∷ h) = latest h

-- the least moment, from one moment on for all, at which a class that waits may send
abbrev pub start_at : Policy → (t : ℕ) → List Event → (c : ℕ) → Option ℕ
start_at p t h c = option_map (λ (a : Arrival). p.start_from h c t) (head c h)

abbrev pub first_at : Policy → (t : ℕ) → List Event → List ℕ → Option ℕ
first_at p t h [] = None
first_at p t h (c ∷ cs) = lesser (start_at p t h c) (first_at p t h cs)

-- no arrival is before the one before it, and the first is not before t
abbrev pub RiseFrom : (t : ℕ) → List Arrival → Type 0
RiseFrom t [] = Unit {0}
RiseFrom t (a ∷ rest) = (t ≤ a.at) × RiseFrom a.at rest

abbrev pub AreRising : List Arrival → Type 0
AreRising arrived = RiseFrom 0 arrived

-- each arrival is of a class of the policy
abbrev pub AreHeld : Policy → List Arrival → Type 0
AreHeld p [] = Unit {0}
AreHeld p (a ∷ rest) = IsOneOf a.class p.classes × AreHeld p rest

-- the greatest of t and the stamps of the records
abbrev pub greatest : (t : ℕ) → List Record → ℕ
greatest t [] = t
greatest t (r ∷ rs) = greatest (max t r.stamp) rs
