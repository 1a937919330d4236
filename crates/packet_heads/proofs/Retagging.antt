-- A retagged frame differs in its type of service alone.
use Rattle.std.proofs.Common.{◌≡◌, ◌≢◌, ◌≤◌, ◌<◌, ◌+◌, ◌-◌, ◌*◌, ◌/◌, ◌%◌, ◌==◌, ◌∙◌, ap, ℕ, List, [], ◌∷◌, length, drop, get_or, Bool, true, false, refl, arith, sym, subst, IsTrue, add-zero, zero, suc}
use Rattle.std.specs.Prelude.{All, if◌then◌else◌, nat_eq, nat_le, not}
use Rattle.std.specs.List.{list_any}
use Rattle.std.proofs.lemmas.Bool.Decides.{nat_tests}
use Rattle.std.proofs.lemmas.List.{length-drop, get_or-drop}
use Rattle.std.proofs.lemmas.List.Elements.{All-head, All-tail}
use Rattle.packet_heads.specs.Flow.{Flow, Heads, V4, V6, Other, flow, flow_by_type, flow_4, flow_6, heads_4, heads_6, is_head_4, is_head_6, has_bytes, type_place, packet_place, two_at}
use Rattle.packet_heads.specs.Retagged.{DiffersInTos, KeepsTheRest, checksum_after, first_word_4, first_word_6, retagged, retagged_4, retagged_6, retagged_as, tos_places, with_tos, with_two}
use Rattle.packet_heads.specs.Departing.{departing, departing_tos, tos_of}
use Rattle.packet_heads.proofs.Frames.{SameType, same_type, not_4_in_6, not_6_in_4, whole_4, whole_6}
use Rattle.packet_heads.proofs.Packets.{Agrees4, Agrees6, flow_same_4, flow_same_6}
use Rattle.packet_heads.proofs.Words.{length-with_two, other_of, first_of, second_of, two_of, upper_4, lower_4, bound_4, version_6, class_6, label_6, sum_stays}

-- the flow of a frame by what is tested of it
abbrev flow_by : (whole four six : Bool) → List ℕ → Flow
flow_by whole four six packet = if whole then (if four then flow_4 packet else if six then flow_6 packet else Other) else Other

by_tests_4 : (whole four six : Bool) (packet changed : List ℕ) (tos : ℕ) (heads : Heads) → V4 heads ≡ flow_by whole four six packet
    → Agrees4 packet changed tos → flow_by whole four six changed ≡ with_tos (flow_by whole four six packet) tos
by_tests_4 true true six packet changed tos heads e a = flow_same_4 packet changed tos a
by_tests_4 true false true packet changed tos heads e a = not_4_in_6 packet (is_head_6 packet) heads e
by_tests_4 true false false packet changed tos heads e a = cc
by_tests_4 false four six packet changed tos heads e a = cc

by_tests_6 : (whole four six : Bool) (packet changed : List ℕ) (tos : ℕ) (heads : Heads) → V6 heads ≡ flow_by whole four six packet
    → Agrees6 packet changed tos → flow_by whole four six changed ≡ with_tos (flow_by whole four six packet) tos
by_tests_6 true true six packet changed tos heads e a = not_6_in_4 packet (is_head_4 packet) heads e
by_tests_6 true false true packet changed tos heads e a = flow_same_6 packet changed tos a
by_tests_6 true false false packet changed tos heads e a = cc
by_tests_6 false four six packet changed tos heads e a = cc

abbrev as_flow : (frame : List ℕ) → (place type : ℕ) → Flow
as_flow frame place type = if has_bytes 2 frame place then flow_by_type type (drop (place + 2) frame) else Other

pub same_tests : (frame changed : List ℕ) → SameType frame changed
    → flow changed ≡ flow_by (has_bytes 2 frame (type_place frame)) (nat_eq (two_at frame (type_place frame)) 0x0800)
    (nat_eq (two_at frame (type_place frame)) 0x86dd) (drop (packet_place frame) changed)
same_tests frame changed s =
    let place = ap (λ p. as_flow changed p (two_at changed p)) s.same_place in
    let type = ap (λ t. as_flow changed (type_place frame) t) s.same_type in
    let long = ap (λ n. flow_by (nat_le (type_place frame + 2) n) (nat_eq (two_at frame (type_place frame)) 0x0800)
    (nat_eq (two_at frame (type_place frame)) 0x86dd) (drop (packet_place frame) changed)) s.same_length in
    place ∙ type ∙ long

-- a packet of version 4: the frame that is made of it
record Made4 (frame : List ℕ) (place tos : ℕ) (changed : List ℕ) : Type 0 where
  pub same_length : length changed ≡ length frame
  pub others : (k : ℕ) → k ≢ place + 1 → k ≢ place + 10 → k ≢ place + 11 → get_or changed k 0 ≡ get_or frame k 0
  pub class : get_or changed (place + 1) 0 ≡ tos
  pub first_word : two_at changed place ≡ first_word_4 (two_at frame place) tos
  pub checksum : two_at changed (place + 10) ≡ checksum_after (two_at frame (place + 10)) (two_at frame place) (first_word_4 (two_at frame place) tos)

byte_or : (frame changed : List ℕ) (k place : ℕ) → k ≢ place + 1 → get_or changed place 0 ≡ get_or frame place 0
    → (k ≢ place → get_or changed k 0 ≡ get_or frame k 0) → get_or changed k 0 ≡ get_or frame k 0
byte_or frame changed k place ne here there = grind (arith)

made_4 : (frame : List ℕ) (place tos : ℕ) → ((k : ℕ) → get_or frame k 0 < 256) → tos < 256 → place + 20 ≤ length frame
    → Made4 frame place tos (retagged_4 frame place tos)
made_4 frame place tos bytes h long =
    let word = two_at frame place in
    let changed = first_word_4 word tos in
    let sum = checksum_after (two_at frame (place + 10)) word changed in
    let front = with_two frame place changed in
    let b0 = bytes place in
    let b1 = bytes (place + 1) in
    let front_length : length front ≡ length frame = length-with_two frame place changed in
    let upper : changed / 256 ≡ get_or frame place 0 = upper_4 (get_or frame place 0) (get_or frame (place + 1) 0) tos b0 b1 h in
    let lower : changed % 256 ≡ tos = lower_4 (get_or frame place 0) (get_or frame (place + 1) 0) tos b0 b1 h in
    let kept : (k : ℕ) → k ≢ place + 10 → k ≢ place + 11 → get_or (with_two front (place + 10) sum) k 0 ≡ get_or front k 0 =
    λ k ten eleven. other_of front (place + 10) sum k ten (λ e. eleven (omega arith)) in
    let first : get_or (with_two front (place + 10) sum) place 0 ≡ changed / 256 =
    kept place (omega arith) (omega arith) ∙ first_of frame place changed (omega arith) in
    let second : get_or (with_two front (place + 10) sum) (place + 1) 0 ≡ changed % 256 =
    kept (place + 1) (omega arith) (omega arith) ∙ second_of frame place changed (omega arith) in
    record {
      same_length = length-with_two front (place + 10) sum ∙ front_length;
      others = λ k one ten eleven. byte_or frame (with_two front (place + 10) sum) k place one (first ∙ upper)
          (λ ne. kept k ten eleven ∙ other_of frame place changed k ne one);
      class = second ∙ lower;
      first_word = omega arith;
      checksum = two_of front (place + 10) sum (omega arith);
    }

-- the packet of a frame
at_packet : (frame : List ℕ) (place k : ℕ) → get_or (drop place frame) k 0 ≡ get_or frame (place + k) 0
at_packet frame place k = get_or-drop place frame k 0

agrees_4 : (frame changed : List ℕ) (place tos : ℕ) → Made4 frame place tos changed → Agrees4 (drop place frame) (drop place changed) tos
agrees_4 frame changed place tos m = record {
  same_length = length-drop place changed ∙ ap (λ n. n - place) m.same_length ∙ sym (length-drop place frame);
  others = λ k one ten eleven. at_packet changed place k ∙ m.others (place + k) (omega arith) (omega arith) (omega arith)
      ∙ sym (at_packet frame place k);
  class = at_packet changed place 1 ∙ m.class;
}

word_bound : (a b : ℕ) → a < 256 → b < 256 → a * 256 + b ≤ 65535
word_bound a b ha hb = omega arith

none_of_three : (k a b c : ℕ) → IsTrue (not (list_any (λ place. place == k) (a ∷ b ∷ c ∷ []))) → (k ≢ a) × (k ≢ b) × (k ≢ c)
none_of_three k a b c h = (λ e. grind (arith, nat_tests), λ e. grind (arith, nat_tests), λ e. grind (arith, nat_tests))

none_of_two : (k a b : ℕ) → IsTrue (not (list_any (λ place. place == k) (a ∷ b ∷ []))) → (k ≢ a) × (k ≢ b)
none_of_two k a b h = (λ e. grind (arith, nat_tests), λ e. grind (arith, nat_tests))

-- what holds of each byte
abbrev AreBytes : List ℕ → Type 0
AreBytes frame = (k : ℕ) → get_or frame k 0 < 256

pub differs_4 : (frame : List ℕ) (tos : ℕ) (heads : Heads) → AreBytes frame → tos < 256 → V4 heads ≡ flow frame
    → DiffersInTos frame (retagged_4 frame (packet_place frame) tos) tos
differs_4 frame tos heads bytes h e =
    let place = packet_place frame in
    let changed = retagged_4 frame place tos in
    let long : place + 20 ≤ length frame = whole_4 frame heads e in
    let m = made_4 frame place tos bytes h long in
    let s = same_type frame changed m.same_length (λ k zero one ten eleven. m.others k one ten eleven) in
    let tests_agree = by_tests_4 (has_bytes 2 frame (type_place frame)) (nat_eq (two_at frame (type_place frame)) 0x0800)
    (nat_eq (two_at frame (type_place frame)) 0x86dd) (drop place frame) (drop place changed) tos heads e
    (agrees_4 frame changed place tos m) in
    let Places : Flow → Type 0 = λ f. (k : ℕ) → IsTrue (not (list_any (λ place. place == k) (tos_places f (packet_place frame))))
    → get_or changed k 0 ≡ get_or frame k 0 in
    let Rest : Flow → Type 0 = λ f. KeepsTheRest f (packet_place frame) frame changed in
    let sums = sum_stays (two_at frame (place + 10)) (two_at frame place) (first_word_4 (two_at frame place) tos)
    (word_bound (get_or frame (place + 10) 0) (get_or frame (place + 10 + 1) 0) (bytes (place + 10)) (bytes (place + 10 + 1)))
    (word_bound (get_or frame place 0) (get_or frame (place + 1) 0) (bytes place) (bytes (place + 1)))
    (bound_4 (get_or frame place 0) (get_or frame (place + 1) 0) tos (bytes place) (bytes (place + 1)) h) in
    let rest : Rest (V4 heads) = ap (λ n. n % 65535) (ap (λ n. n + two_at changed (place + 10)) m.first_word)
    ∙ ap (λ n. (first_word_4 (two_at frame place) tos + n) % 65535) m.checksum ∙ sums in
    let places : Places (V4 heads) = λ k none.
    let three = none_of_three k (place + 1) (place + 10) (place + 11) none in m.others k three.0 three.1 three.2 in
    record {
      same_flow = same_tests frame changed s ∙ tests_agree;
      same_length = m.same_length;
      others = subst Places e places;
      rest = subst Rest e rest;
    }

-- a packet of version 6
record Made6 (frame : List ℕ) (place tos : ℕ) (changed : List ℕ) : Type 0 where
  pub same_length : length changed ≡ length frame
  pub others : (k : ℕ) → k ≢ place → k ≢ place + 1 → get_or changed k 0 ≡ get_or frame k 0
  pub version : get_or changed place 0 / 16 ≡ get_or frame place 0 / 16
  pub first_word : two_at changed place ≡ first_word_6 (two_at frame place) tos

made_6 : (frame : List ℕ) (place tos : ℕ) → AreBytes frame → tos < 256 → place + 40 ≤ length frame
    → Made6 frame place tos (retagged_6 frame place tos)
made_6 frame place tos bytes h long =
    let changed = first_word_6 (two_at frame place) tos in
    record {
      same_length = length-with_two frame place changed;
      others = λ k zero one. other_of frame place changed k zero one;
      version = ap (λ n. n / 16) (first_of frame place changed (omega arith))
          ∙ version_6 (get_or frame place 0) (get_or frame (place + 1) 0) tos (bytes place) (bytes (place + 1)) h;
      first_word = two_of frame place changed (omega arith);
    }

agrees_6 : (frame changed : List ℕ) (place tos : ℕ) → tos < 256 → Made6 frame place tos changed → Agrees6 (drop place frame) (drop place changed) tos
agrees_6 frame changed place tos h m =
    let first = at_packet changed place 0 ∙ ap (λ n. get_or changed n 0) (add-zero place) in
    let was = at_packet frame place 0 ∙ ap (λ n. get_or frame n 0) (add-zero place) in
    let second = at_packet changed place 1 in
    record {
      same_length = length-drop place changed ∙ ap (λ n. n - place) m.same_length ∙ sym (length-drop place frame);
      others = λ k two. at_packet changed place k ∙ m.others (place + k) (omega arith) (omega arith) ∙ sym (at_packet frame place k);
      version = ap (λ n. n / 16) first ∙ m.version ∙ sym (ap (λ n. n / 16) was);
      class = rw (first, second) (ap (λ n. n / 16 % 256) m.first_word ∙ class_6 (two_at frame place) tos h);
    }

pub differs_6 : (frame : List ℕ) (tos : ℕ) (heads : Heads) → AreBytes frame → tos < 256 → V6 heads ≡ flow frame
    → DiffersInTos frame (retagged_6 frame (packet_place frame) tos) tos
differs_6 frame tos heads bytes h e =
    let place = packet_place frame in
    let changed = retagged_6 frame place tos in
    let long : place + 40 ≤ length frame = whole_6 frame heads e in
    let m = made_6 frame place tos bytes h long in
    let s = same_type frame changed m.same_length (λ k zero one ten eleven. m.others k zero one) in
    let tests_agree = by_tests_6 (has_bytes 2 frame (type_place frame)) (nat_eq (two_at frame (type_place frame)) 0x0800)
    (nat_eq (two_at frame (type_place frame)) 0x86dd) (drop place frame) (drop place changed) tos heads e
    (agrees_6 frame changed place tos h m) in
    let Places : Flow → Type 0 = λ f. (k : ℕ) → IsTrue (not (list_any (λ place. place == k) (tos_places f (packet_place frame))))
    → get_or changed k 0 ≡ get_or frame k 0 in
    let Rest : Flow → Type 0 = λ f. KeepsTheRest f (packet_place frame) frame changed in
    let rest : Rest (V6 heads) = ap (λ n. n % 16) m.first_word ∙ label_6 (two_at frame place) tos in
    let places : Places (V6 heads) = λ k none. let two = none_of_two k place (place + 1) none in m.others k two.0 two.1 in
    record {
      same_flow = same_tests frame changed s ∙ tests_agree;
      same_length = m.same_length;
      others = subst Places e places;
      rest = subst Rest e rest;
    }

-- a frame that stays
rest_stays : (f : Flow) (place : ℕ) (frame : List ℕ) → KeepsTheRest f place frame frame
rest_stays (V4 heads) place frame = refl
rest_stays (V6 heads) place frame = refl
rest_stays Other place frame = refl

pub stays : (frame : List ℕ) (tos : ℕ) → flow frame ≡ with_tos (flow frame) tos → DiffersInTos frame frame tos
stays frame tos e = record {
  same_flow = e;
  same_length = refl;
  others = λ k none. refl;
  rest = rest_stays (flow frame) (packet_place frame) frame;
}

chosen : (b : Bool) (frame changed : List ℕ) (tos : ℕ) → (b ≡ true → DiffersInTos frame frame tos) → DiffersInTos frame changed tos
    → DiffersInTos frame (if b then frame else changed) tos
chosen true frame changed tos same other = same refl
chosen false frame changed tos same other = other

equal : (m n : ℕ) → (m == n) ≡ true → m ≡ n
equal m n h = grind (arith, nat_tests)

pub has_it_4 : (heads : Heads) (tos : ℕ) → heads.tos ≡ tos → V4 heads ≡ with_tos (V4 heads) tos
has_it_4 heads tos e = rw (← e) refl

pub has_it_6 : (heads : Heads) (tos : ℕ) → heads.tos ≡ tos → V6 heads ≡ with_tos (V6 heads) tos
has_it_6 heads tos e = rw (← e) refl

by_flow : (f : Flow) (frame : List ℕ) (tos : ℕ) → f ≡ flow frame → AreBytes frame → tos < 256 → DiffersInTos frame (retagged_as f frame tos) tos
by_flow (V4 heads) frame tos e bytes h =
    let Same : Flow → Type 0 = λ f. f ≡ with_tos f tos in
    chosen (heads.tos == tos) frame (retagged_4 frame (packet_place frame) tos) tos
    (λ is. stays frame tos (subst Same e (has_it_4 heads tos (equal heads.tos tos is)))) (differs_4 frame tos heads bytes h e)
by_flow (V6 heads) frame tos e bytes h =
    let Same : Flow → Type 0 = λ f. f ≡ with_tos f tos in
    chosen (heads.tos == tos) frame (retagged_6 frame (packet_place frame) tos) tos
    (λ is. stays frame tos (subst Same e (has_it_6 heads tos (equal heads.tos tos is)))) (differs_6 frame tos heads bytes h e)
by_flow Other frame tos e bytes h =
    let Same : Flow → Type 0 = λ f. f ≡ with_tos f tos in
    stays frame tos (subst Same e refl)

-- a frame with another type of service differs in it alone
pub retagged_differs : (frame : List ℕ) (tos : ℕ) → AreBytes frame → tos < 256 → DiffersInTos frame (retagged frame tos) tos
retagged_differs frame tos bytes h = by_flow (flow frame) frame tos refl bytes h

taken : (b : Bool) (x y : List ℕ) → b ≡ true → x ≡ (if b then x else y)
taken true x y e = refl
taken false x y e = cc

itself : (m n : ℕ) → m ≡ n → (m == n) ≡ true
itself m n e = grind (arith, nat_tests)

-- one that has it already stays as it is
pub has_it_already : (f : Flow) (frame : List ℕ) (tos : ℕ) → f ≡ flow frame → f ≡ with_tos f tos → frame ≡ retagged frame tos
has_it_already (V4 heads) frame tos e same =
    let P : Flow → Type 0 = λ f. frame ≡ retagged_as f frame tos in
    let is : heads.tos ≡ tos = cc in
    subst P e (taken (heads.tos == tos) frame (retagged_4 frame (packet_place frame) tos) (itself heads.tos tos is))
has_it_already (V6 heads) frame tos e same =
    let P : Flow → Type 0 = λ f. frame ≡ retagged_as f frame tos in
    let is : heads.tos ≡ tos = cc in
    subst P e (taken (heads.tos == tos) frame (retagged_6 frame (packet_place frame) tos) (itself heads.tos tos is))
has_it_already Other frame tos e same = let P : Flow → Type 0 = λ f. frame ≡ retagged_as f frame tos in subst P e refl

pub are_bytes : (frame : List ℕ) → All (λ byte. byte < 256) frame → AreBytes frame
are_bytes [] all k = omega arith
are_bytes (x ∷ xs) all zero = All-head (λ byte. byte < 256) x xs all
are_bytes (x ∷ xs) all (suc k) = are_bytes xs (All-tail (λ byte. byte < 256) x xs all) k

-- a type of service is a byte
tos_bound_4 : (b : Bool) (packet : List ℕ) → AreBytes packet → tos_of (if b then V4 (heads_4 packet) else Other) < 256
tos_bound_4 true packet bytes = bytes 1
tos_bound_4 false packet bytes = omega arith

tos_bound_6 : (b : Bool) (packet : List ℕ) → tos_of (if b then V6 (heads_6 packet) else Other) < 256
tos_bound_6 true packet = omega arith
tos_bound_6 false packet = omega arith

tos_bound : (whole four six : Bool) (packet : List ℕ) → AreBytes packet → tos_of (flow_by whole four six packet) < 256
tos_bound true true six packet bytes = tos_bound_4 (is_head_4 packet) packet bytes
tos_bound true false true packet bytes = tos_bound_6 (is_head_6 packet) packet
tos_bound true false false packet bytes = omega arith
tos_bound false four six packet bytes = omega arith

departing_bound : (clear marked : Bool) (tos : ℕ) → tos < 256 → departing_tos clear marked tos < 256
departing_bound true true tos h = omega arith
departing_bound true false tos h = omega arith
departing_bound false true tos h = omega arith
departing_bound false false tos h = h

packet_bytes : (frame : List ℕ) (place : ℕ) → AreBytes frame → AreBytes (drop place frame)
packet_bytes frame place bytes k = rw (at_packet frame place k) (bytes (place + k))

pub departing_differs : (clear marked : Bool) (frame : List ℕ) → AreBytes frame
    → DiffersInTos frame (departing clear marked frame) (departing_tos clear marked (tos_of (flow frame)))
departing_differs clear marked frame bytes =
    let bound = tos_bound (has_bytes 2 frame (type_place frame)) (nat_eq (two_at frame (type_place frame)) 0x0800)
    (nat_eq (two_at frame (type_place frame)) 0x86dd) (drop (packet_place frame) frame)
    (packet_bytes frame (packet_place frame) bytes) in
    retagged_differs frame (departing_tos clear marked (tos_of (flow frame))) bytes
    (departing_bound clear marked (tos_of (flow frame)) bound)

-- a frame that is neither cleared nor marked leaves as it came
retagged_as_own : (f : Flow) (frame : List ℕ) → frame ≡ retagged_as f frame (tos_of f)
retagged_as_own (V4 heads) frame = grind (arith, nat_tests)
retagged_as_own (V6 heads) frame = grind (arith, nat_tests)
retagged_as_own Other frame = refl

pub departing_plain : (frame : List ℕ) → frame ≡ departing false false frame
departing_plain frame = retagged_as_own (flow frame) frame
