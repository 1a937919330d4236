-- The header of a record, where the format allows a record.
use Rattle.std.specs.Prelude.{◌==◌, ◌||◌, ◌+◌, ◌&&◌, ℕ, nat_lt, List, length, if◌then◌else◌, Option, None, Some}
use Rattle.capture_model.specs.Capture.{Form, word, stamp, most_records, most_bytes, longest}
use Rattle.marked_files.specs.declared.record_head.RecordHead.{RecordHead}

-- the header that these bytes begin with, of the record after `count` others that begins at a place of the capture
abbrev pub headed : Form → (count at : ℕ) → List ℕ → Option RecordHead
headed form count at bytes =
    let captured = word form.big bytes 8 in
    let original = word form.big bytes 12 in
    if nat_lt (length bytes) 16 then None
    else if count == most_records then None
    else if nat_lt longest captured || nat_lt longest original then None
    else if (captured == 0) && (original == 0) then None
    else if nat_lt most_bytes (at + 16 + captured) then None
    else Some (record { stamp = stamp form bytes 0; captured = captured; original = original })

-- the same where all of the record stands there
abbrev pub whole : Option RecordHead → List ℕ → Option RecordHead
whole None bytes = None
whole (Some head) bytes = if nat_lt (length bytes) (16 + head.captured) then None else Some head
