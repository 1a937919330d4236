-- The tests of a packet's body that come before those of the packet.
use Rattle.std.specs.Prelude.{◌≡◌, ◌≢◌, ◌≤◌, ◌+◌, ℕ, Bool, List, length, slice_get}
use Rattle.std.specs.declared.option.Option.{Option}
use Rattle.std.proofs.Common.{refl}
use Rattle.capture_model.specs.Capture.{most_records}
use Rattle.pcapng_model.specs.Block.{packet_on, told_packet}
use Rattle.pcapng_model.specs.Interface.{Interface}
use Rattle.pcapng_model.specs.Number.{number, padded}
use Rattle.pcapng_files.proofs.OptionLemmas.{not_less, is_other}

pub told_on : (big : Bool) (body : List ℕ) (interfaces : List Interface) (count : ℕ) (i : Option Interface) → 20 ≤ length body
    → 20 + padded (number big 4 body 12) ≤ length body → count ≢ most_records → slice_get interfaces (number big 4 body 0) ≡ i
    → told_packet big body interfaces count ≡ packet_on i big body
told_on big body interfaces count i long fits few at =
    rw (not_less (length body) 20 long, not_less (length body) (20 + padded (number big 4 body 12)) fits, is_other count most_records few, at) refl
