-- What a play over files leaves, and when each of its faults comes.
use Rattle.std.specs.Prelude.{◌≡◌, ◌≤◌, ◌<◌, ◌+◌, ◌⊎◌, ℕ, List, [], ◌∷◌, ◌++◌, length, Some, IsTrue, IsSome}
use Rattle.altq_model.specs.Arrivals.{Captured, bare_arrivals}
use Rattle.altq_model.specs.Departures.{departed}
use Rattle.altq_model.specs.History.{Event, Offered, Sent, LabelledEvent, unlabelled, offered, journal}
use Rattle.altq_model.specs.Lawful.{greatest}
use Rattle.capture_model.specs.Capture.{Record, Step, End, Fault, Limit, Reads, IsCapture, IsLast, place_after}
use Rattle.capture_model.specs.Header.{capture_header}
use Rattle.pcap_files.specs.Reading.{AreAllTaken}
use Rattle.play_base.specs.View.{View, ReadFault, WriteFault}
use Rattle.play_base.specs.Holds.{HoldsAt, Apart}
use Rattle.play_text.specs.Texts.{fates_header}
use Rattle.play_core.specs.declared.totals.Totals.{Totals}
use Rattle.play_core.specs.Ended.{IsBegun}
use Rattle.play_core.specs.Finished.{EndsWithOffer, IsFinished, IsStopped}
use Rattle.play_loop.specs.declared.fault.Opened.{Opened}
use Rattle.play_loop.specs.declared.fault.Limit.TheVariants as limit
use Rattle.play_loop.specs.declared.fault.Output.TheVariants as output
use Rattle.play_loop.specs.declared.fault.PlayFault.{PlayFault}
use Rattle.play_loop.specs.declared.fault.PlayFault.TheVariants as play
use Rattle.altq_model.specs.Play.{IsPlay}
use Rattle.play_loop.specs.declared.outputs.Tally.{Tally}
use Rattle.play_loop.specs.declared.kept.KeptFate.{KeptFate}
use Rattle.play_loop.specs.KeptFates.{kept_fates}
use Rattle.class_counts.specs.Counting.{HasCounted}
use Rattle.gathered_writes.specs.Gathered.{HoldsFront}
use Rattle.play_loop.specs.Setup.{Setup, arrivals_in, departures_of, fates_of, statistics_of}

-- two files of different names, to which nothing was written
pub record AreEmpty (v : View) (dep fat : ℕ) : Type 0 where
  pub departures : HoldsAt v dep []
  pub fates : HoldsAt v fat []
  pub apart : Apart v dep fat

-- the files of a play before it: at most 24 bytes of the arrivals were taken; they have another name than departures and fates, and these another than the statistics, to
-- which nothing was written either
pub record AreReady (v : View) (o : Opened) : Type 0 where
  pub arrivals : IsSome (v.part o.arrivals)
  pub few : length o.first.now ≤ 24
  pub empty : AreEmpty v o.departures o.fates
  pub from_departures : Apart v o.arrivals o.departures
  pub from_fates : Apart v o.arrivals o.fates
  pub stats : HoldsAt v o.stats []
  pub departures_from_stats : Apart v o.departures o.stats
  pub fates_from_stats : Apart v o.fates o.stats

-- the bytes under the file's name begin with these
abbrev pub BeginsWith : View → (file : ℕ) → (front : List ℕ) → Type 0
BeginsWith v file front = (more : List ℕ) × (v.bytes (v.name file) ≡ Some (front ++ more))

-- departures and fates hold their heads, and maybe more
abbrev pub HaveHeads : View → (dep fat : ℕ) → Type 0
HaveHeads v dep fat = BeginsWith v dep capture_header × BeginsWith v fat fates_header

-- the fates hold nothing, or the departures hold their whole head
abbrev pub RowsWait : View → (dep fat : ℕ) → Type 0
RowsWait v dep fat = (v.bytes (v.name fat) ≡ Some []) ⊎ BeginsWith v dep capture_header

-- THE HEADS COME FIRST, where the object tells: unless both files hold theirs nothing more was taken of the arrivals, and the fates hold
-- nothing unless the departures hold all of theirs
abbrev pub HeadsFirst : View → View → Opened → Type 0
HeadsFirst old new o =
    IsTrue old.tells → HaveHeads new o.departures o.fates ⊎ (RowsWait new o.departures o.fates × (new.left o.arrivals ≡ old.left o.arrivals))

-- the files hold the departures and the fates of this history
pub record HoldTexts (v : View) (o : Opened) (x : Setup) (arrived : List Captured) (g : List LabelledEvent) : Type 0 where
  pub departures : HoldsAt v o.departures (departures_of x arrived g)
  pub fates : HoldsAt v o.fates (fates_of x arrived g)

-- they hold a front of each
pub record HoldFronts (v : View) (o : Opened) (x : Setup) (arrived : List Captured) (g : List LabelledEvent) : Type 0 where
  pub departures : HoldsFront v o.departures (departures_of x arrived g)
  pub fates : HoldsFront v o.fates (fates_of x arrived g)

-- a discipline stands for a history of the same events
abbrev pub IsStanding : (List LabelledEvent → Type 0) → List LabelledEvent → Type 0
IsStanding stood g = (told : List LabelledEvent) × stood told × (unlabelled told ≡ unlabelled g)

-- the whole play of these records: departures and fates hold its texts, and these are its counts. The departures are a capture of the
-- packets that were sent, in the order of decision, the discipline stands for it, and its journal was told
pub record WasWritten (x : Setup) (stood : List LabelledEvent → Type 0) (told : List KeptFate
    → Type 0) (v : View) (o : Opened) (records : List Record) (t : Tally) : Type 0 where
  pub history : List LabelledEvent
  pub play : IsFinished x.policy x.rate x.seed (arrivals_in x records) history t.totals
  pub texts : HoldTexts v o x (arrivals_in x records) history
  pub counted : HasCounted x.names (arrivals_in x records) (journal history) t.counts.items
  pub reads : IsCapture (departures_of x (arrivals_in x records) history) (departed x.dress (arrivals_in x records) history)
  pub stands : IsStanding stood history
  pub was_told : told (kept_fates (arrivals_in x records) (journal history))

-- the same but for what was told, and the statistics hold those of the play
pub record HasPlayed (x : Setup) (stood : List LabelledEvent → Type 0) (v : View) (o : Opened) (records : List Record) (t : Totals) : Type 0 where
  pub history : List LabelledEvent
  pub play : IsFinished x.policy x.rate x.seed (arrivals_in x records) history t
  pub texts : HoldTexts v o x (arrivals_in x records) history
  pub stats : HoldsAt v o.stats (statistics_of x (arrivals_in x records) history)
  pub reads : IsCapture (departures_of x (arrivals_in x records) history) (departed x.dress (arrivals_in x records) history)
  pub stands : IsStanding stood history

-- the first events of the play of these records, up to and with the offer of the last of them, each sending in time: the files hold
-- exactly their texts. These are all drops of these records, and all sendings that start before the last of them arrives
pub record HasOffered (x : Setup) (stood : List LabelledEvent → Type 0) (v : View) (o : Opened) (records : List Record) : Type 0 where
  pub history : List LabelledEvent
  pub begun : IsBegun x.policy x.rate x.seed (bare_arrivals (arrivals_in x records)) history
  pub all : offered (unlabelled history) ≡ length records
  pub last : EndsWithOffer history
  pub texts : HoldTexts v o x (arrivals_in x records) history
  pub stands : IsStanding stood history

-- when a sending starts
abbrev pub start_of : Event → ℕ
start_of (Offered a w v) = 0
start_of (Sent s) = s.start

-- what was taken of the file's `bytes` ends at most 65,536 bytes past `place`
pub record TookUpTo (v : View) (file place : ℕ) (bytes : List ℕ) : Type 0 where
  pub rest : List ℕ
  pub left : v.left file ≡ Some rest
  pub within : length bytes ≤ place + 65536 + length rest

-- if a complete record arrives later than `moment`, the bytes taken end at most 65,536 bytes past the first such record. A record
-- arrives at the greatest stamp up to its own
abbrev pub Streams : View → (file : ℕ) → List ℕ → List Record → (moment : ℕ) → Type 0
Streams v file bytes records moment = (before : List Record) (r : Record) (after : List Record) → records ≡ before ++ r ∷ after
    → greatest 0 before ≤ moment → moment < greatest 0 (before ++ r ∷ []) → TookUpTo v file (place_after 24 (before ++ r ∷ [])) bytes

-- the play of these records up to a sending that is due next and would end too late: the files hold exactly the texts of the events
-- before it. Where the records are not a whole capture, it starts before the last of them arrives
pub record WasCutOff (x : Setup) (stood : List LabelledEvent
    → Type 0) (v : View) (o : Opened) (bytes : List ℕ) (records : List Record) (last : Step) : Type 0 where
  pub history : List LabelledEvent
  pub totals : Totals
  pub play : IsStopped x.policy x.rate x.seed (arrivals_in x records) history totals
  pub texts : HoldTexts v o x (arrivals_in x records) history
  pub stands : IsStanding stood history
  pub before : (last ≡ End) ⊎ (start_of play.cut.next.what < greatest 0 records)
  pub streams : Streams v o.arrivals bytes records (start_of play.cut.next.what)

-- the files hold fronts of the texts of the first events of the play
pub record HasStopped (x : Setup) (v : View) (o : Opened) (records : List Record) : Type 0 where
  pub history : List LabelledEvent
  pub begun : IsBegun x.policy x.rate x.seed (bare_arrivals (arrivals_in x records)) history
  pub texts : HoldFronts v o x (arrivals_in x records) history

-- P holds of the bytes that the arrivals hold: those that were taken before, and what their file has left, where the files tell it
abbrev pub OfArrivals : View → Opened → (List ℕ → Type 0) → Type 0
OfArrivals old o P = IsTrue old.tells → (rest : List ℕ) → old.left o.arrivals ≡ Some rest → P (o.first.now ++ rest)

-- what the arrivals hold is a capture, and its play ended
abbrev pub Writes : Setup → (List LabelledEvent → Type 0) → (List KeptFate → Type 0) → View → View → Opened → Tally → Type 0
Writes x stood told old new o t = OfArrivals old o (λ bytes. (records : List Record) × IsCapture bytes records × WasWritten x stood told new o records t)

abbrev pub Plays : Setup → (List LabelledEvent → Type 0) → View → View → Opened → Totals → Type 0
Plays x stood old new o t = OfArrivals old o (λ bytes. (records : List Record) × IsCapture bytes records × HasPlayed x stood new o records t)

-- the files hold fronts of the texts of the play of its complete records
abbrev pub Fronts : Setup → View → View → Opened → Type 0
Fronts x old new o = OfArrivals old o (λ bytes. (records : List Record) (last : Step) → Reads bytes records last → IsLast last → HasStopped x new o records)

-- all complete records were offered, and the reading of the capture ends with `last`
abbrev pub Offers : Setup → (List LabelledEvent → Type 0) → View → View → Opened → Step → Type 0
Offers x stood old new o last = OfArrivals old o (λ bytes. (records : List Record) × Reads bytes records last × HasOffered x stood new o records)

-- the complete records of the bytes that were taken from the arrivals were all offered
abbrev pub OffersTaken : Setup → (List LabelledEvent → Type 0) → View → View → Opened → Type 0
OffersTaken x stood old new o = OfArrivals old o (λ bytes. (records : List Record) × AreAllTaken new o.arrivals bytes records
    × HasOffered x stood new o records)

-- the play of its complete records was cut off
abbrev pub IsLate : Setup → (List LabelledEvent → Type 0) → View → View → Opened → Type 0
IsLate x stood old new o = OfArrivals old o (λ bytes. (records : List Record) × ((last : Step) × Reads bytes records last × IsLast last
    × WasCutOff x stood new o bytes records last))

-- when each fault of a play comes
abbrev pub Explains : Setup → (List LabelledEvent → Type 0) → View → View → Opened → PlayFault → Type 0
Explains x stood old new o (play.Capture damage) = Offers x stood old new o (Fault damage)
Explains x stood old new o play.Read = ReadFault old new o.arrivals × OffersTaken x stood old new o
Explains x stood old new o (play.Write output.Departures) = WriteFault old new o.departures
Explains x stood old new o (play.Write output.Fates) = WriteFault old new o.fates
Explains x stood old new o (play.Write output.Statistics) = WriteFault old new o.stats
Explains x stood old new o (play.Limit limit.Capture) = Offers x stood old new o Limit
Explains x stood old new o (play.Limit limit.Clock) = IsLate x stood old new o
Explains x stood old new o play.NoMemory = Unit {0}

-- the statistics hold a front of those of the whole play of these records, behind departures and fates that hold all of its texts
pub record HasBegunStats (x : Setup) (v : View) (o : Opened) (records : List Record) : Type 0 where
  pub history : List LabelledEvent
  pub play : IsPlay x.policy x.rate x.seed (bare_arrivals (arrivals_in x records)) history
  pub texts : HoldTexts v o x (arrivals_in x records) history
  pub stats : HoldsFront v o.stats (statistics_of x (arrivals_in x records) history)

-- what the arrivals hold is a capture, its play ended, and the statistics hold a front of those of the play
abbrev pub AreBegun : Setup → View → View → Opened → Type 0
AreBegun x old new o = OfArrivals old o (λ bytes. (records : List Record) × IsCapture bytes records × HasBegunStats x new o records)

-- the statistics are empty, or they are begun
abbrev pub BeginsStats : Setup → View → View → Opened → Type 0
BeginsStats x old new o = HoldsAt new o.stats [] ⊎ AreBegun x old new o

-- what the statistics hold after each fault: nothing, but where it came, or may have come, while they were written
abbrev pub LeavesStats : Setup → View → View → Opened → PlayFault → Type 0
LeavesStats x old new o (play.Capture damage) = HoldsAt new o.stats []
LeavesStats x old new o play.Read = HoldsAt new o.stats []
LeavesStats x old new o (play.Write output.Departures) = HoldsAt new o.stats []
LeavesStats x old new o (play.Write output.Fates) = HoldsAt new o.stats []
LeavesStats x old new o (play.Write output.Statistics) = AreBegun x old new o
LeavesStats x old new o (play.Limit limit) = HoldsAt new o.stats []
LeavesStats x old new o play.NoMemory = BeginsStats x old new o
