-- What can come of a run, and its status: the code, and what place and kind are by the code's own table.
use Rattle.std.specs.Prelude.{◌≡◌, ◌⊎◌, ℕ, Result, Ok, Err}
use Rattle.capture_model.specs.Numbers.{damage_number}
use Rattle.conf_lines.specs.Kinds.{kind_number}
use Rattle.file_plans.specs.declared.part.Part.{Part}
use Rattle.file_plans.specs.declared.part.Part.TheVariants as part
use Rattle.file_plans.specs.Parts.{part_number}
use Rattle.file_tests.specs.Numbers.{test_number}
use Rattle.pcapng_model.specs.Numbers.{block_number}
use Rattle.play_words.specs.Kinds.{words_kind}
use Rattle.run_outcomes.specs.declared.outcome.CaptureStop.{CaptureStop}
use Rattle.run_outcomes.specs.declared.outcome.CaptureStop.TheVariants as capture
use Rattle.run_outcomes.specs.declared.outcome.Done.{Done}
use Rattle.run_outcomes.specs.declared.outcome.Done.TheVariants as done
use Rattle.run_outcomes.specs.declared.outcome.Failure.{Failure}
use Rattle.run_outcomes.specs.declared.outcome.Failure.TheVariants as failure
use Rattle.run_outcomes.specs.declared.outcome.Link.{Link}
use Rattle.run_outcomes.specs.declared.outcome.Link.TheVariants as link
use Rattle.run_outcomes.specs.declared.status.Status.{Status}

abbrev pub Outcome : Type 0
Outcome = Result Done Failure

-- this came, or memory ran out
abbrev pub IsOrMemory : Outcome → Outcome → Type 0
IsOrMemory o p = (o ≡ p) ⊎ (o ≡ Err failure.NoMemory)

-- this came, or memory ran out; or what was done could not be said
abbrev pub IsOr : Outcome → Outcome → Type 0
IsOr o (Ok d) = IsOrMemory o (Ok d) ⊎ (o ≡ Err failure.Unsaid)
IsOr o (Err f) = IsOrMemory o (Err f)

-- the kinds of a read fault (5), of a write fault (6) and of a file that is too long (7)
abbrev pub read_kind : Part → ℕ
read_kind p = part_number p

abbrev pub write_kind : Part → ℕ
write_kind part.Configuration = 0  -- no command writes it
write_kind part.Departures = 1
write_kind part.Fates = 2
write_kind part.Statistics = 3
write_kind part.Arrivals = 4
write_kind part.Marked = 5
write_kind part.SecondDepartures = 6
write_kind part.SecondFates = 7
write_kind part.SecondStatistics = 8
write_kind part.Path = 9

abbrev pub unsaid_kind : ℕ
unsaid_kind = 10

abbrev pub long_kind : Part → ℕ
long_kind part.Configuration = 3
long_kind part.Fates = 4
long_kind other = 5  -- the departures

abbrev pub link_number : Link → ℕ
link_number link.Sole = 0
link_number link.First = 1
link_number link.Second = 2

-- the status of this code and kind, without a place
abbrev pub ended : (code kind : ℕ) → Status
ended code kind = record { code = code; line = 0; word = 0; place = 0; kind = kind }

abbrev pub capture_status : (line : ℕ) → CaptureStop → Status
capture_status line (capture.Damage d) = record { code = 4; line = line; word = 0; place = d.place; kind = damage_number d.kind }
capture_status line (capture.Block b) = record { code = 4; line = line; word = 0; place = b.place; kind = block_number b.kind }
capture_status line capture.TooLong = record { code = 7; line = line; word = 0; place = 0; kind = 1 }
capture_status line capture.Late = record { code = 7; line = line; word = 0; place = 0; kind = 2 }

abbrev pub failure_status : Failure → Status
failure_status (failure.Words fault) = ended 2 (words_kind fault)
failure_status (failure.Configuration place) =
    record { code = 3; line = place.line; word = place.word; place = 0; kind = kind_number place.kind }
failure_status (failure.Capture link stop) = capture_status (link_number link) stop
failure_status (failure.Read part) = ended 5 (read_kind part)
failure_status (failure.Write part) = ended 6 (write_kind part)
failure_status failure.Unsaid = ended 6 unsaid_kind
failure_status (failure.TooLong part) = ended 7 (long_kind part)
failure_status (failure.Refuted row test) = record { code = 10; line = row; word = 0; place = 0; kind = test_number test }
failure_status failure.NoMemory = ended 8 0

abbrev pub done_status : Done → Status
done_status done.Done = ended 0 0
done_status done.Exceeds = ended 0 1

abbrev pub status_of : Outcome → Status
status_of (Ok d) = done_status d
status_of (Err f) = failure_status f
