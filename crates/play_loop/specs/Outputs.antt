-- The two output files of a play while their texts are gathered.
use Rattle.std.specs.Prelude.{◌≡◌, ◌++◌, ℕ, List, [], IfErr, IsSome, OnOk, Result}
use Rattle.std.specs.Option.{option_map_or}
use Rattle.std.specs.declared.option.Option.{Option}
use Rattle.altq_model.specs.declared.Counts.{Counts}
use Rattle.altq_model.specs.Departures.{Dressing}
use Rattle.play_text.specs.Names.{HasClass, NameList, name_of}
use Rattle.play_text.specs.Texts.{Naming, fate_text}
use Rattle.altq_model.specs.declared.Fate.TheVariants as fate
use Rattle.capture_model.specs.Capture.{Record}
use Rattle.capture_model.specs.Written.{record_text}
use Rattle.play_base.specs.declared.trouble.Trouble.{Trouble}
use Rattle.play_base.specs.declared.trouble.Trouble.TheVariants as trouble
use Rattle.play_base.specs.View.{SameCounts, View, WriteFault}
use Rattle.play_base.specs.Holds.{Apart}
use Rattle.play_core.specs.declared.turn.Departure.{Departure}
use Rattle.play_core.specs.declared.turn.Dropped.{Dropped}
use Rattle.class_counts.specs.Counting.{AreCountable, count_at}
use Rattle.gathered_writes.specs.Gathered.{HasText, HoldsFront}
use Rattle.play_loop.specs.Kept.{OnlyWrote}
use Rattle.class_counts.specs.declared.counting.Counted.TheVariants as counted
use Rattle.play_loop.specs.declared.fault.Opened.{Opened}
use Rattle.play_loop.specs.declared.fault.Output.{Output}
use Rattle.play_loop.specs.declared.fault.Output.TheVariants as output
use Rattle.play_loop.specs.declared.fault.PlayFault.{PlayFault}
use Rattle.play_loop.specs.declared.fault.PlayFault.TheVariants as play
use Rattle.play_loop.specs.declared.outputs.Outputs.{Outputs}

-- the departures' text and the fates' text so far, with what is gathered of each
pub record TextsAre (v : View) (dep fat : ℕ) (gathered_records gathered_rows ds ts : List ℕ) : Type 0 where
  pub departures : HasText v dep gathered_records ds
  pub fates : HasText v fat gathered_rows ts
  pub apart : Apart v dep fat

-- each file holds a front of its text
pub record FrontsAre (v : View) (dep fat : ℕ) (ds ts : List ℕ) : Type 0 where
  pub departures : HoldsFront v dep ds
  pub fates : HoldsFront v fat ts

abbrev pub HasTexts : View → Outputs → (ds ts : List ℕ) → Type 0
HasTexts v o ds ts = TextsAre v o.departures o.fates o.records.items o.rows ds ts

abbrev pub HasFronts : View → Outputs → (ds ts : List ℕ) → Type 0
HasFronts v o ds ts = FrontsAre v o.departures o.fates ds ts

-- the same two files
pub record SameFiles (old new : Outputs) : Type 0 where
  pub departures : new.departures ≡ old.departures
  pub fates : new.fates ≡ old.fates

-- those of the opened files
pub record AreOpened (p : Outputs) (o : Opened) : Type 0 where
  pub departures : p.departures ≡ o.departures
  pub fates : p.fates ≡ o.fates

-- a packet that was sent with the bytes with which it leaves, and its record
abbrev pub dressed : Dressing → Departure → Departure
dressed dress d = record d { packet = record d.packet { bytes = dress d.class d.marked d.packet.bytes } }

abbrev pub leaving : Departure → Record
leaving d = record { stamp = d.end; captured = d.packet.bytes; original = d.packet.len }

abbrev pub record_of : Dressing → Departure → Record
record_of dress d = leaving (dressed dress d)

-- its row
abbrev pub sent_row : Naming → Departure → List ℕ
sent_row names d = fate_text d.packet.number d.packet.at d.packet.len (names d.class) (fate.Sent d.start d.end d.rule)

-- the row of a packet that was dropped
abbrev pub dropped_row : Naming → (class : ℕ) → Dropped → List ℕ
dropped_row names class d = fate_text d.number d.at d.len (names class) (fate.Dropped d.reason)

-- what trouble with an output means for the play
abbrev pub output_fault : Output → Trouble → PlayFault
output_fault output trouble.Failed = play.Write output
output_fault output trouble.NoMemory = play.NoMemory

-- when a write of the two files ends a play
abbrev pub IsWriteCause : (dep fat : ℕ) → View → View → PlayFault → Type 0
IsWriteCause dep fat old new (play.Write output.Departures) = WriteFault old new dep
IsWriteCause dep fat old new (play.Write output.Fates) = WriteFault old new fat
IsWriteCause dep fat old new (play.Write output.Statistics) = ⊥
IsWriteCause dep fat old new play.NoMemory = Unit {0}
IsWriteCause dep fat old new (play.Capture damage) = ⊥
IsWriteCause dep fat old new play.Read = ⊥
IsWriteCause dep fat old new (play.Limit limit) = ⊥

-- when a write of the statistics ends a play
abbrev pub IsStatsCause : (stats : ℕ) → View → View → PlayFault → Type 0
IsStatsCause stats old new (play.Write output.Departures) = ⊥
IsStatsCause stats old new (play.Write output.Fates) = ⊥
IsStatsCause stats old new (play.Write output.Statistics) = WriteFault old new stats
IsStatsCause stats old new play.NoMemory = Unit {0}
IsStatsCause stats old new (play.Capture damage) = ⊥
IsStatsCause stats old new play.Read = ⊥
IsStatsCause stats old new (play.Limit limit) = ⊥

-- what ends a play before its statistics are written: none of theirs
abbrev pub IsBeforeStats : PlayFault → Type 0
IsBeforeStats (play.Write output.Departures) = Unit {0}
IsBeforeStats (play.Write output.Fates) = Unit {0}
IsBeforeStats (play.Write output.Statistics) = ⊥
IsBeforeStats play.NoMemory = Unit {0}
IsBeforeStats (play.Capture damage) = Unit {0}
IsBeforeStats play.Read = Unit {0}
IsBeforeStats (play.Limit limit) = Unit {0}

-- what a call needs that adds a decision of a class to the outputs
pub record CanAdd (names : NameList) (v : View) (o : Outputs) (class : ℕ) : Type 0 where
  pub named : HasClass names class
  pub countable : AreCountable names o.counts.items
  pub departures : IsSome (v.part o.departures)
  pub fates : IsSome (v.part o.fates)

-- the texts and the counts of a packet that was sent were added, and what is sure where that stopped early
pub record AddsSent (dress : Dressing) (names : NameList) (old new : View) (before after : Outputs) (d : Departure) : Type 0 where
  pub wrote : (ds ts : List ℕ) → HasTexts old before ds ts → HasTexts new after (ds ++ record_text (record_of dress d)) (ts ++ sent_row (name_of names) d)
  pub counted : after.counts.items ≡ count_at names d.class (counted.Sent d.packet.len) before.counts.items

abbrev pub StopsSent : Dressing → NameList → (old new : View) → Outputs → Departure → Type 0
StopsSent dress names old new o d = (ds ts : List ℕ) → HasTexts old o ds ts
    → HasFronts new o (ds ++ record_text (record_of dress d)) (ts ++ sent_row (name_of names) d)

-- the same of a packet that was offered to a class, and dropped or kept
abbrev pub dropped_rows : Naming → (class : ℕ) → Option Dropped → List ℕ
dropped_rows names class dropped = option_map_or (dropped_row names class) dropped []

abbrev pub dropped_counts : NameList → (class : ℕ) → Option Dropped → List Counts → List Counts
dropped_counts names class dropped ks = option_map_or (λ d. count_at names class (counted.Dropped d.reason) ks) dropped ks

pub record AddsDropped (names : NameList) (old new : View) (before after : Outputs) (class : ℕ) (dropped : Option Dropped) : Type 0 where
  pub wrote : (ds ts : List ℕ) → HasTexts old before ds ts → HasTexts new after ds (ts ++ dropped_rows (name_of names) class dropped)
  pub counted : after.counts.items ≡ dropped_counts names class dropped before.counts.items

abbrev pub StopsDropped : NameList → (old new : View) → Outputs → (class : ℕ) → Option Dropped → Type 0
StopsDropped names old new o class dropped = (ds ts : List ℕ) → HasTexts old o ds ts → HasFronts new o ds (ts ++ dropped_rows (name_of names) class dropped)

-- what a call that adds to the outputs leaves of the rest, and why it fails
pub record AddsOnly {A : Type 0} (old new : View) (before after : Outputs) (r : Result A PlayFault) : Type 0 where
  pub same : SameFiles before after
  pub others : OnlyWrote before.departures before.fates old new
  pub no_fault : OnOk r (SameCounts old new)
  pub why : IfErr r (IsWriteCause before.departures before.fates old new)
