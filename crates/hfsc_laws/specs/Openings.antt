-- When a leaf opens, said of its packets, their arrivals and starts: after Stoica, Zhang and Ng, "A Hierarchical Fair Service Curve
-- Algorithm for Link-Sharing, Real-Time and Priority Services", SIGCOMM 1997. Moments are nanoseconds, lengths bytes.
use Rattle.std.specs.Prelude.{◌==◌, ◌&&◌, ◌+◌, ℕ, nat_lt, Bool, true, false, List, [], ◌∷◌, Option, None, Some, if◌then◌else◌}
use Rattle.play_base.specs.Units.{units}
use Rattle.runtime_curve.specs.declared.Opening.{Opening}
use Rattle.runtime_curve.specs.Opening.{opening}
use Rattle.hfsc_model.specs.Event.{HfscHistory, Enqueued, Sent}

-- the sending of a packet
pub record Sending : Type 0 where
  pub start : ℕ
  pub len : ℕ
  pub real : Bool

-- a packet that was kept, and its sending, once it was sent
pub record Packet : Type 0 where
  pub at : ℕ
  pub sending : Option Sending

abbrev pub was_sent : Option Sending → Bool
was_sent None = false
was_sent (Some s) = true

abbrev pub all_sent : List Packet → Bool
all_sent [] = true
all_sent (p ∷ ps) = was_sent p.sending && all_sent ps

-- the oldest packet that was not sent is sent, in a list that has the newest first
abbrev pub with_sending : Sending → List Packet → List Packet
with_sending s [] = []
with_sending s (p ∷ ps) =
    if all_sent ps then (if was_sent p.sending then p ∷ ps else record { at = p.at; sending = Some s } ∷ ps) else p ∷ with_sending s ps

-- the packets that were kept in a class, the newest first
abbrev pub packets : HfscHistory → ℕ → List Packet
packets [] c = []
packets (Enqueued d at len ∷ h) c = if d == c then record { at = at; sending = None } ∷ packets h c else packets h c
packets (Sent d len real start ∷ h) c = if d == c then with_sending (record { start = start; len = len; real = real }) (packets h c) else packets h c

-- it was sent, from before this moment on
abbrev pub started_before : ℕ → Option Sending → Bool
started_before t None = false
started_before t (Some s) = nat_lt s.start t

abbrev pub all_started : ℕ → List Packet → Bool
all_started t [] = true
all_started t (p ∷ ps) = started_before t p.sending && all_started t ps

-- the units of the sendings by real time that start before a moment
abbrev pub real_units : Sending → ℕ
real_units s = if s.real then units s.len else 0

abbrev pub units_before : ℕ → Option Sending → ℕ
units_before t None = 0
units_before t (Some s) = if nat_lt s.start t then real_units s else 0

abbrev pub real_before : ℕ → List Packet → ℕ
real_before t [] = 0
real_before t (p ∷ ps) = real_before t ps + units_before t p.sending

-- of these packets each opens that arrives later than the starts of all older ones, all of them sent. Its opening has its arrival, and the
-- units of the leaf's sendings by real time that start before that
abbrev pub openings_among : (all : List Packet) → List Packet → List Opening
openings_among all [] = []
openings_among all (p ∷ older) =
    if all_started p.at older then opening p.at (real_before p.at all) ∷ openings_among all older else openings_among all older

abbrev pub openings_of : List Packet → List Opening
openings_of ps = openings_among ps ps
