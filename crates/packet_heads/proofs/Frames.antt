-- What a frame keeps where its packet changes.
use Rattle.std.proofs.Common.{◌≡◌, ◌≢◌, ◌≤◌, ◌+◌, ◌%◌, ℕ, List, length, drop, get_or, Bool, true, false, refl, arith}
use Rattle.std.specs.Prelude.{if◌then◌else◌, nat_eq}
use Rattle.std.proofs.lemmas.Grind.{common_steps}
use Rattle.std.proofs.lemmas.Bool.Decides.{nat_tests}
use Rattle.packet_heads.specs.Flow.{Heads, V4, V6, Other, flow, flow_by_type, flow_4, flow_6, heads_4, heads_6, is_head_4, is_head_6, is_tag_at, has_bytes, type_place, packet_place, two_at}

-- the head of a packet stands whole in its frame
long_4 : (frame : List ℕ) (place : ℕ) (b : Bool) (heads : Heads) → is_head_4 (drop place frame) ≡ b → place ≤ length frame
    → V4 heads ≡ (if b then V4 (heads_4 (drop place frame)) else Other) → place + 20 ≤ length frame
long_4 frame place true heads h within e = grind (arith, nat_tests, common_steps)
long_4 frame place false heads h within e = cc

pub not_4_in_6 : (packet : List ℕ) (b : Bool) (heads : Heads) {A : Type 0} → V4 heads ≡ (if b then V6 (heads_6 packet) else Other) → A
not_4_in_6 packet true heads e = cc
not_4_in_6 packet false heads e = cc

pub not_6_in_4 : (packet : List ℕ) (b : Bool) (heads : Heads) {A : Type 0} → V6 heads ≡ (if b then V4 (heads_4 packet) else Other) → A
not_6_in_4 packet true heads e = cc
not_6_in_4 packet false heads e = cc

long_6 : (frame : List ℕ) (place : ℕ) (b : Bool) (heads : Heads) → is_head_6 (drop place frame) ≡ b → place ≤ length frame
    → V6 heads ≡ (if b then V6 (heads_6 (drop place frame)) else Other) → place + 40 ≤ length frame
long_6 frame place true heads h within e = grind (arith, nat_tests, common_steps)
long_6 frame place false heads h within e = cc

by_type_4 : (frame : List ℕ) (place : ℕ) (four six : Bool) (heads : Heads) → place ≤ length frame
    → V4 heads ≡ (if four then flow_4 (drop place frame) else if six then flow_6 (drop place frame) else Other) → place + 20 ≤ length frame
by_type_4 frame place true six heads within e = long_4 frame place (is_head_4 (drop place frame)) heads refl within e
by_type_4 frame place false true heads within e = not_4_in_6 (drop place frame) (is_head_6 (drop place frame)) heads e
by_type_4 frame place false false heads within e = cc

by_type_6 : (frame : List ℕ) (place : ℕ) (four six : Bool) (heads : Heads) → place ≤ length frame
    → V6 heads ≡ (if four then flow_4 (drop place frame) else if six then flow_6 (drop place frame) else Other) → place + 40 ≤ length frame
by_type_6 frame place true six heads within e = not_6_in_4 (drop place frame) (is_head_4 (drop place frame)) heads e
by_type_6 frame place false true heads within e = long_6 frame place (is_head_6 (drop place frame)) heads refl within e
by_type_6 frame place false false heads within e = cc

typed_4 : (frame : List ℕ) (b : Bool) (heads : Heads) → has_bytes 2 frame (type_place frame) ≡ b
    → V4 heads ≡ (if b then flow_by_type (two_at frame (type_place frame)) (drop (packet_place frame) frame) else Other)
    → packet_place frame + 20 ≤ length frame
typed_4 frame true heads h e =
    let type = two_at frame (type_place frame) in
    let within : packet_place frame ≤ length frame = grind (arith, nat_tests) in
    by_type_4 frame (packet_place frame) (nat_eq type 0x0800) (nat_eq type 0x86dd) heads within e
typed_4 frame false heads h e = cc

typed_6 : (frame : List ℕ) (b : Bool) (heads : Heads) → has_bytes 2 frame (type_place frame) ≡ b
    → V6 heads ≡ (if b then flow_by_type (two_at frame (type_place frame)) (drop (packet_place frame) frame) else Other)
    → packet_place frame + 40 ≤ length frame
typed_6 frame true heads h e =
    let type = two_at frame (type_place frame) in
    let within : packet_place frame ≤ length frame = grind (arith, nat_tests) in
    by_type_6 frame (packet_place frame) (nat_eq type 0x0800) (nat_eq type 0x86dd) heads within e
typed_6 frame false heads h e = cc

pub whole_4 : (frame : List ℕ) (heads : Heads) → V4 heads ≡ flow frame → packet_place frame + 20 ≤ length frame
whole_4 frame heads e = typed_4 frame (has_bytes 2 frame (type_place frame)) heads refl e

pub whole_6 : (frame : List ℕ) (heads : Heads) → V6 heads ≡ flow frame → packet_place frame + 40 ≤ length frame
whole_6 frame heads e = typed_6 frame (has_bytes 2 frame (type_place frame)) heads refl e

-- the packet begins at one of three places
pub record IsPlace (place : ℕ) : Type 0 where
  pub least : 14 ≤ place
  pub greatest : place ≤ 22
  pub step : place % 4 ≡ 2

place_by : (a b : Bool) → IsPlace ((if a then (if b then 20 else 16) else 12) + 2)
place_by true true = record { least = omega arith; greatest = omega arith; step = refl }
place_by true false = record { least = omega arith; greatest = omega arith; step = refl }
place_by false b = record { least = omega arith; greatest = omega arith; step = refl }

pub is_place : (frame : List ℕ) → IsPlace (packet_place frame)
is_place frame = place_by (is_tag_at frame 12) (is_tag_at frame 16)

-- a frame of the same length that has the same bytes before its packet, as far as they are read, is of the same type
pub record SameType (frame changed : List ℕ) : Type 0 where
  pub same_length : length changed ≡ length frame
  pub same_place : type_place changed ≡ type_place frame
  pub same_type : two_at changed (type_place frame) ≡ two_at frame (type_place frame)

pub same_type : (frame changed : List ℕ) → length changed ≡ length frame
    → ((k : ℕ) → k ≢ packet_place frame → k ≢ packet_place frame + 1 → k ≢ packet_place frame + 10 → k ≢ packet_place frame + 11
    → get_or changed k 0 ≡ get_or frame k 0) → SameType frame changed
same_type frame changed e others =
    let at = is_place frame in
    let b12 = others 12 (omega arith) (omega arith) (omega arith) (omega arith) in
    let b13 = others 13 (omega arith) (omega arith) (omega arith) (omega arith) in
    let b16 = others 16 (omega arith) (omega arith) (omega arith) (omega arith) in
    let b17 = others 17 (omega arith) (omega arith) (omega arith) (omega arith) in
    let first = others (type_place frame) (omega arith) (omega arith) (omega arith) (omega arith) in
    let second = others (type_place frame + 1) (omega arith) (omega arith) (omega arith) (omega arith) in
    record { same_length = e; same_place = rw (e, b12, b13, b16, b17) refl; same_type = rw (first, second) refl }
