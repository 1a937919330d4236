-- What HFSC sees of the events of a link: the packets that were kept, marked or not, and the sendings, each by real time or by share.
use Rattle.std.specs.Prelude.{Bool, true, false, List, [], ◌∷◌, if◌then◌else◌}
use Rattle.altq_model.specs.declared.Rule.{Rule}
use Rattle.altq_model.specs.declared.Rule.TheVariants.{RealTime, Share, Own, Borrow}
use Rattle.altq_model.specs.declared.Verdict.{Verdict}
use Rattle.altq_model.specs.History.{Arrival, Event, Offered, Sent, is_kept}
use Rattle.hfsc_model.specs.Event.{HfscHistory, Enqueued, Sent as HfscSent}
use Rattle.hfsc_model.specs.Leaf.{Waiting}

abbrev pub is_real : Rule → Bool
is_real RealTime = true
is_real Share = false
is_real Own = false
is_real Borrow = false

abbrev pub rule_of : Bool → Rule
rule_of real = if real then RealTime else Share

-- a packet that is dropped changes nothing
abbrev pub with_offer : Verdict → Arrival → HfscHistory → HfscHistory
with_offer v a h = if is_kept v then Enqueued a.class a.at a.len ∷ h else h

abbrev pub hfsc_history : List Event → HfscHistory
hfsc_history [] = []
hfsc_history (Offered a w v ∷ h) = with_offer v.verdict a (hfsc_history h)
hfsc_history (Sent s ∷ h) = HfscSent s.class s.len (is_real s.rule) s.start ∷ hfsc_history h

-- the packets that wait, as HFSC sees them
abbrev pub waits : List Arrival → List Waiting
waits [] = []
waits (a ∷ rest) = record { at = a.at; len = a.len } ∷ waits rest
