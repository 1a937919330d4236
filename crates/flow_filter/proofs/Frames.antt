-- The addresses of the flow of a frame are bytes, four or sixteen.
use Rattle.std.proofs.Common.{◌≡◌, ℕ, ◌+◌, ◌-◌, ◌<◌, Bool, true, false, List, length, take, drop, refl, ap, sym, subst, arith}
use Rattle.std.specs.Prelude.{All, slice_range, if◌then◌else◌}
use Rattle.std.proofs.lemmas.Grind.{common_steps}
use Rattle.std.proofs.lemmas.List.Elements.{All-take, All-drop}
use Rattle.packet_heads.specs.Flow.{Flow, V4, V6, Other, StandsAt, HasAddresses, has_bytes, two_at, type_place, packet_place, flow_by_type, flow}
use Rattle.packet_heads.proofs.Addresses.{addresses_of}

-- a list of `count` bytes
pub record IsAddress (count : ℕ) (address : List ℕ) : Type 0 where
  pub whole : length address ≡ count
  pub bytes : All (λ byte. byte < 256) address

abbrev pub HasWholeAddresses : Flow → Type 0
HasWholeAddresses (V4 heads) = IsAddress 4 heads.source × IsAddress 4 heads.target
HasWholeAddresses (V6 heads) = IsAddress 16 heads.source × IsAddress 16 heads.target
HasWholeAddresses Other = Unit {0}

part : (frame : List ℕ) (at count : ℕ) (address : List ℕ) → All (λ byte. byte < 256) frame → StandsAt frame at count address → IsAddress count address
part frame at count address all h =
    let P : List ℕ → Type 0 = λ xs. All (λ byte. byte < 256) xs in
    let within : All (λ byte. byte < 256) (slice_range frame at (at + count)) =
    All-take (λ byte. byte < 256) (at + count - at) (drop at frame) (All-drop (λ byte. byte < 256) at frame all) in
    record { whole = h.whole; bytes = subst P (sym h.part) within }

parts : (frame : List ℕ) (place : ℕ) (f : Flow) → All (λ byte. byte < 256) frame → HasAddresses frame place f → HasWholeAddresses f
parts frame place (V4 heads) all h =
    (part frame (place + 12) 4 heads.source all h.0, part frame (place + 16) 4 heads.target all h.1)
parts frame place (V6 heads) all h =
    (part frame (place + 8) 16 heads.source all h.0, part frame (place + 24) 16 heads.target all h.1)
parts frame place Other all h = tt

-- a range up to the end is the rest
to_the_end : (xs : List ℕ) (at : ℕ) → drop at xs ≡ take (length xs - at) (drop at xs)
to_the_end xs at = grind (arith, common_steps)

by_length : (frame : List ℕ) (long : Bool) → All (λ byte. byte < 256) frame
    → HasWholeAddresses (if long then flow_by_type (two_at frame (type_place frame)) (drop (packet_place frame) frame) else Other)
by_length frame true all =
    let kind = two_at frame (type_place frame) in
    let f = flow_by_type kind (drop (packet_place frame) frame) in
    parts frame (packet_place frame) f all
    (addresses_of frame kind (type_place frame) f refl (ap (flow_by_type kind) (to_the_end frame (packet_place frame))))
by_length frame false all = tt

pub whole_addresses : (frame : List ℕ) → All (λ byte. byte < 256) frame → HasWholeAddresses (flow frame)
whole_addresses frame all = by_length frame (has_bytes 2 frame (type_place frame)) all
