-- A frame that departs is as long as it came.
use Rattle.std.proofs.Common.{◌≡◌, ◌+◌, ◌==◌, ◌∙◌, ℕ, List, length, Bool, true, false, refl}
use Rattle.std.specs.Prelude.{if◌then◌else◌}
use Rattle.packet_heads.specs.Flow.{Flow, V4, V6, Other, flow, packet_place, two_at}
use Rattle.packet_heads.specs.Retagged.{checksum_after, first_word_4, first_word_6, retagged, retagged_4, retagged_6, retagged_as, with_two}
use Rattle.packet_heads.specs.Departing.{departing, departing_tos, tos_of}
use Rattle.packet_heads.proofs.Words.{length-with_two}

either : (b : Bool) (frame changed : List ℕ) → length changed ≡ length frame → length (if b then frame else changed) ≡ length frame
either true frame changed e = refl
either false frame changed e = e

length-retagged_as : (f : Flow) (frame : List ℕ) (tos : ℕ) → length (retagged_as f frame tos) ≡ length frame
length-retagged_as (V4 heads) frame tos =
    let place = packet_place frame in
    let word = two_at frame place in
    let changed = first_word_4 word tos in
    let sum = checksum_after (two_at frame (place + 10)) word changed in
    either (heads.tos == tos) frame (retagged_4 frame place tos)
    (length-with_two (with_two frame place changed) (place + 10) sum ∙ length-with_two frame place changed)
length-retagged_as (V6 heads) frame tos =
    let place = packet_place frame in
    either (heads.tos == tos) frame (retagged_6 frame place tos)
    (length-with_two frame place (first_word_6 (two_at frame place) tos))
length-retagged_as Other frame tos = refl

pub length-retagged : (frame : List ℕ) (tos : ℕ) → length (retagged frame tos) ≡ length frame
length-retagged frame tos = length-retagged_as (flow frame) frame tos

pub length-departing : (clear marked : Bool) (frame : List ℕ) → length (departing clear marked frame) ≡ length frame
length-departing clear marked frame = length-retagged frame (departing_tos clear marked (tos_of (flow frame)))
