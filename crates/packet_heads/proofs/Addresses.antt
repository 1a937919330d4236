-- The addresses of a flow are parts of its frame.
use Rattle.std.proofs.Common.{◌≡◌, ◌≤◌, ◌+◌, ◌-◌, ◌∙◌, ap, ℕ, List, length, take, drop, Bool, true, false, refl, arith, subst, sym}
use Rattle.std.specs.Prelude.{slice_range, if◌then◌else◌, nat_eq}
use Rattle.std.proofs.lemmas.Grind.{common_steps}
use Rattle.std.proofs.lemmas.Bool.Decides.{nat_tests}
use Rattle.packet_heads.specs.Flow.{Flow, V4, V6, Other, StandsAt, HasAddresses, flow, flow_4, flow_by_type, has_bytes, heads_4, heads_6, is_head_4, is_head_6, is_tag_at, two_at, type_place, packet_place}

part : (frame : List ℕ) (place at count : ℕ) → at + count ≤ length (drop place frame)
    → StandsAt frame (place + at) count (slice_range (drop place frame) at (at + count))
part frame place at count h = record { whole = grind (arith, common_steps); part = grind (arith, common_steps) }

long_4 : (packet : List ℕ) → is_head_4 packet ≡ true → 20 ≤ length packet
long_4 packet h = grind (arith, nat_tests)

long_6 : (packet : List ℕ) → is_head_6 packet ≡ true → 40 ≤ length packet
long_6 packet h = grind (arith, nat_tests)

of_4 : (frame : List ℕ) (place : ℕ) (b : Bool) → is_head_4 (drop place frame) ≡ b
    → HasAddresses frame place (if b then V4 (heads_4 (drop place frame)) else Other)
of_4 frame place true h =
    let long = long_4 (drop place frame) h in
    (part frame place 12 4 (omega arith), part frame place 16 4 (omega arith))
of_4 frame place false h = tt

of_6 : (frame : List ℕ) (place : ℕ) (b : Bool) → is_head_6 (drop place frame) ≡ b
    → HasAddresses frame place (if b then V6 (heads_6 (drop place frame)) else Other)
of_6 frame place true h =
    let long = long_6 (drop place frame) h in
    (part frame place 8 16 (omega arith), part frame place 24 16 (omega arith))
of_6 frame place false h = tt

by_type : (frame : List ℕ) (place : ℕ) (four six : Bool)
    → HasAddresses frame place (if four then (if is_head_4 (drop place frame) then V4 (heads_4 (drop place frame)) else Other)
    else if six then (if is_head_6 (drop place frame) then V6 (heads_6 (drop place frame)) else Other) else Other)
by_type frame place true six = of_4 frame place (is_head_4 (drop place frame)) refl
by_type frame place false true = of_6 frame place (is_head_6 (drop place frame)) refl
by_type frame place false false = tt

-- a range up to the end is the rest
to_the_end : (xs : List ℕ) (at : ℕ) → take (length xs - at) (drop at xs) ≡ drop at xs
to_the_end xs at = grind (arith, common_steps)

-- a frame with the type of IPv4 in the first place has no tag
pub record IsUntagged (frame : List ℕ) : Type 0 where
  pub long : has_bytes 2 frame 12 ≡ true
  pub type : two_at frame 12 ≡ 0x0800

no_tag : (frame : List ℕ) → IsUntagged frame → is_tag_at frame 12 ≡ false
no_tag frame u = rw (u.long, u.type) refl

untagged_place : (frame : List ℕ) → IsUntagged frame → 12 ≡ type_place frame
untagged_place frame u = rw (no_tag frame u) refl

untagged_whole : (frame : List ℕ) → IsUntagged frame → flow frame ≡ flow_4 (drop 14 frame)
untagged_whole frame u = rw (no_tag frame u, u.long, u.type) refl

pub untagged_flow : (frame : List ℕ) → IsUntagged frame → flow_4 (take (length frame - 14) (drop 14 frame)) ≡ flow frame
untagged_flow frame u = ap flow_4 (to_the_end frame 14) ∙ sym (untagged_whole frame u)

-- whatever the type is
pub addresses_of : (frame : List ℕ) (type place : ℕ) (f : Flow) → place ≡ type_place frame
    → f ≡ flow_by_type type (take (length frame - (place + 2)) (drop (place + 2) frame)) → HasAddresses frame (packet_place frame) f
addresses_of frame type place f at is =
    let P : ℕ → Type 0 = λ n. HasAddresses frame (n + 2) f in
    let Q : Flow → Type 0 = λ g. HasAddresses frame (place + 2) g in
    let whole : f ≡ flow_by_type type (drop (place + 2) frame) = is ∙ ap (flow_by_type type) (to_the_end frame (place + 2)) in
    subst P at (subst Q (sym whole) (by_type frame (place + 2) (nat_eq type 0x0800) (nat_eq type 0x86dd)))

pub untagged_addresses : (frame : List ℕ) (f : Flow) → IsUntagged frame → f ≡ flow_4 (take (length frame - 14) (drop 14 frame))
    → HasAddresses frame (packet_place frame) f
untagged_addresses frame f u is = addresses_of frame 0x0800 12 f (untagged_place frame u) is
