-- The message of what ended a command early.
use Rattle.std.specs.Prelude.{ℕ, List, ◌++◌, codes, decimal}
use Rattle.capture_model.specs.Numbers.{damage_name}
use Rattle.conf_lines.specs.Kinds.{kind_name}
use Rattle.file_plans.specs.declared.part.Part.{Part}
use Rattle.file_plans.specs.declared.part.Part.TheVariants as part
use Rattle.file_tests.specs.Numbers.{test_number}
use Rattle.pcapng_model.specs.Numbers.{block_name}
use Rattle.play_words.specs.Kinds.{words_kind}
use Rattle.run_outcomes.specs.Outcome.{long_kind}
use Rattle.run_outcomes.specs.declared.outcome.CaptureStop.{CaptureStop}
use Rattle.run_outcomes.specs.declared.outcome.CaptureStop.TheVariants as capture
use Rattle.run_outcomes.specs.declared.outcome.Failure.{Failure}
use Rattle.run_outcomes.specs.declared.outcome.Failure.TheVariants as failure

-- what could not be read or written
abbrev pub part_name : Part → List ℕ
part_name part.Configuration = codes "configuration"
part_name part.Arrivals = codes "arrivals"
part_name part.Departures = codes "departures"
part_name part.Fates = codes "fates"
part_name part.Statistics = codes "statistics"
part_name part.Marked = codes "marked arrivals"
part_name part.SecondDepartures = codes "second departures"
part_name part.SecondFates = codes "second fates"
part_name part.SecondStatistics = codes "second statistics"
part_name part.Path = codes "path"

-- the message where there is no memory takes none
abbrev pub out_of_memory : List ℕ
out_of_memory = codes "altqplay: out of memory\n"

-- the message of a fault of a capture, by the byte at fault and the name of the fault; it does not name the link
abbrev pub capture_message : ℕ → List ℕ → List ℕ
capture_message place name = codes "altqplay: capture byte " ++ (decimal place ++ (codes ": " ++ (name ++ codes "\n")))

abbrev pub stop_message : CaptureStop → List ℕ
stop_message (capture.Damage damage) = capture_message damage.place (damage_name damage.kind)
stop_message (capture.Block block) = capture_message block.place (block_name block.kind)
stop_message capture.TooLong = codes "altqplay: limit 1 reached\n"
stop_message capture.Late = codes "altqplay: limit 2 reached\n"

-- the message of each failure: a line
abbrev pub message_of : Failure → List ℕ
message_of (failure.Words fault) = codes "altqplay: words refused, kind " ++ (decimal (words_kind fault) ++ codes "\n")
message_of (failure.Configuration place) =
    codes "altqplay: configuration line " ++ (decimal place.line
    ++ (codes " word " ++ (decimal place.word ++ (codes ": " ++ (kind_name place.kind ++ codes "\n")))))
message_of (failure.Capture link stop) = stop_message stop
message_of (failure.Read part) = codes "altqplay: reading " ++ (part_name part ++ codes " failed\n")
message_of (failure.Write part) = codes "altqplay: writing " ++ (part_name part ++ codes " failed\n")
message_of failure.Unsaid = codes "altqplay: writing result failed\n"
message_of (failure.TooLong part) = codes "altqplay: limit " ++ (decimal (long_kind part) ++ codes " reached\n")
message_of (failure.Refuted row test) =
    codes "altqplay: not verified, row " ++ (decimal row ++ (codes " kind " ++ (decimal (test_number test) ++ codes "\n")))
message_of failure.NoMemory = out_of_memory
