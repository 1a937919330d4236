-- What stands at a place of a capture, told from the bytes that were taken there.
use Rattle.std.specs.Prelude.{◌==◌, ◌||◌, ◌&&◌, ◌+◌, ℕ, nat_lt, List, length, take, drop, if◌then◌else◌}
use Rattle.capture_model.specs.declared.damage.DamageKind.TheVariants.{ShortRecord, EmptyRecord, LongRecord}
use Rattle.capture_model.specs.Capture.{Form, Step, Next, Fault, word, stamp, damage, most_records, most_bytes, longest}
use Rattle.capture_model.specs.Capture as capture
use Rattle.pcap_files.specs.declared.stand.Stand.{Stand}
use Rattle.pcap_files.specs.declared.stand.Stand.TheVariants.{End, Limit, Damaged, Headed}

-- the tests that need no more than a record's header
abbrev pub stand_at : Form → (count at : ℕ) → List ℕ → Stand
stand_at form count at ahead =
    let captured = word form.big ahead 8 in
    let original = word form.big ahead 12 in
    if length ahead == 0 then End
    else if count == most_records then Limit
    else if nat_lt (length ahead) 16 then Damaged ShortRecord
    else if nat_lt longest captured || nat_lt longest original then Damaged LongRecord
    else if (captured == 0) && (original == 0) then Damaged EmptyRecord
    else if nat_lt most_bytes (at + 16 + captured) then Limit
    else Headed (stamp form ahead 0) captured original

-- what that makes of the place, with the bytes from the place on
abbrev pub step_of : Stand → ℕ → List ℕ → Step
step_of End at bytes = capture.End
step_of Limit at bytes = capture.Limit
step_of (Damaged kind) at bytes = Fault (damage at kind)
step_of (Headed stamp captured original) at bytes =
    if nat_lt (length bytes) (16 + captured) then Fault (damage at ShortRecord)
    else Next (record { stamp = stamp; captured = take captured (drop 16 bytes); original = original }) (at + 16 + captured)
