-- What a class that does not borrow may send: no more than its rate carries in the time, a burst ahead.
use Rattle.std.specs.Prelude.{◌≡◌, ◌≢◌, ◌≤◌, ◌==◌, ◌+◌, ◌-◌, ◌*◌, ◌++◌, ℕ, max, false, List, [], ◌∷◌, Some, if◌then◌else◌}
use Rattle.altq_model.specs.declared.Rule.TheVariants.{Own}
use Rattle.altq_model.specs.History.{Arrival, Event, Offered, Sent, Sending, head}
use Rattle.altq_model.specs.Link.{end_of, link}
use Rattle.altq_model.specs.Play.{IsOneOf}
use Rattle.play_base.specs.Units.{time_of, units}
use Rattle.cbq_estimator.specs.Average.{Ended}
use Rattle.cbq_estimator.specs.Capped.{bytes}
use Rattle.cbq_model.specs.declared.CbqClass.{CbqClass}
use Rattle.cbq_model.specs.Tree.{class_of, is_root, numbers, pace_of}
use Rattle.cbq_model.specs.Choice.{choice_of}
use Rattle.cbq_model.specs.Rounds.{situation}

-- after a history this is CBQ's sending: of the head of a class of its own, no earlier than the last end, with the link's end, the class
-- and the rule being those of the choice at its start
pub record IsSending (cs : List CbqClass) (rate : ℕ) (h : List Event) (s : Sending) : Type 0 where
  pub held : IsOneOf s.class (numbers cs)
  pub free : (link rate h).free ≤ s.start
  pub end : s.end ≡ end_of rate (link rate h) s.start s.len
  pub packet : Arrival
  pub front : head s.class h ≡ Some packet
  pub len : s.len ≡ packet.len
  pub choice : choice_of cs rate (situation cs rate h) s.start ≡ record { class = s.class; rule = s.rule }

-- each sending of a history is one of CBQ's
abbrev pub AreSendings : List CbqClass → (rate : ℕ) → List Event → Type 0
AreSendings cs rate [] = Unit {0}
AreSendings cs rate (Offered a w v ∷ h) = AreSendings cs rate h
AreSendings cs rate (Sent s ∷ h) = IsSending cs rate h s × AreSendings cs rate h

-- a class without children that is not the root
pub record IsBottom (cs : List CbqClass) (c : ℕ) : Type 0 where
  pub below : is_root cs c ≡ false
  pub childless : (d : ℕ) → (class_of cs d).parent ≢ Some c

-- the packets that a class sent itself, the newest first
abbrev pub sent_by : (c : ℕ) → List Event → List Ended
sent_by c [] = []
sent_by c (Offered a w v ∷ h) = sent_by c h
sent_by c (Sent s ∷ h) = if s.class == c then record { end = s.end; len = s.len } ∷ sent_by c h else sent_by c h

abbrev pub longest : List Ended → ℕ
longest [] = 0
longest (e ∷ es) = max e.len (longest es)

-- each packet that a class sent was its own
abbrev pub AreOwn : (c : ℕ) → List Event → Type 0
AreOwn c [] = Unit {0}
AreOwn c (Offered a w v ∷ h) = AreOwn c h
AreOwn c (Sent s ∷ h) = (s.class ≡ c → s.rule ≡ Own) × AreOwn c h

-- a stretch of a history, from a sending of a class that has no children and is not the root, up to another one of it; the class borrows
-- for none of those after the first
pub record IsStretch (cs : List CbqClass) (rate c : ℕ) (last : Sending) (between : List Event) (first : Sending) (before : List Event) : Type 0 where
  pub sendings : AreSendings cs rate (Sent last ∷ between ++ Sent first ∷ before)
  pub bottom : IsBottom cs c
  pub of_last : last.class ≡ c
  pub of_first : first.class ≡ c
  pub own : AreOwn c (Sent last ∷ between)

-- 31 units <= rate (32 (last end - first end) + 31 (cap + longest packet's time)), the units being those that the class sent after
-- the first of the two, up to and with the last
abbrev pub KeepsItsRate : List CbqClass → (c : ℕ) → (last : Sending) → (between : List Event) → (first : Sending) → Type 0
KeepsItsRate cs c last between first =
    let p = pace_of (class_of cs c) in
    let sent = sent_by c (Sent last ∷ between) in
    31 * units (bytes sent) ≤ p.rate * (32 * (last.end - first.end) + 31 * (p.cap + time_of (longest sent) p.rate))
