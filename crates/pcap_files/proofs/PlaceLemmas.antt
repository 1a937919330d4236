-- What stands at a place of a capture is told by the bytes that were taken from that place on.
use Rattle.std.proofs.Common.{◌≡◌, ◌≤◌, ◌<◌, ◌∙◌, ℕ, ◌+◌, List, ◌++◌, length, take, drop, refl, sym, ap, arith, inl, inr, length-append, length-drop}
use Rattle.std.specs.Prelude.{◌==◌, ◌||◌, ◌&&◌, ◌⊎◌, Bool, true, false, nat_lt, nat_le, if◌then◌else◌}
use Rattle.std.specs.Int.{w32, from_be_bytes, from_le_bytes}
use Rattle.std.proofs.lemmas.List.{take-append-le, drop-append-le, drop-drop}
use Rattle.std.proofs.lemmas.Bool.{cases_lt}
use Rattle.capture_model.specs.declared.damage.DamageKind.TheVariants.{ShortRecord, EmptyRecord, LongRecord}
use Rattle.capture_model.specs.Capture.{Form, Step, Next, Fault, word, stamp, damage, most_records, most_bytes, longest, step}
use Rattle.capture_model.specs.Capture as capture
use Rattle.pcap_files.specs.Stand.{stand_at, step_of}
use Rattle.pcap_files.specs.declared.stand.Stand.TheVariants.{End, Limit, Damaged, Headed}

-- bytes within a front
pub seen : (n k : ℕ) (xs rest : List ℕ) → k + n ≤ length xs → take n (drop k (xs ++ rest)) ≡ take n (drop k xs)
seen n k xs rest h =
    let within : n ≤ length (drop k xs) = omega (arith, length-drop k xs, h) in
    ap (take n) (drop-append-le k xs rest (omega (arith, h))) ∙ take-append-le n (drop k xs) rest within

pub word_seen : (big : Bool) (xs rest : List ℕ) (k : ℕ) → k + 4 ≤ length xs → word big (xs ++ rest) k ≡ word big xs k
word_seen true xs rest k h = ap (from_be_bytes w32) (seen 4 k xs rest h)
word_seen false xs rest k h = ap (from_le_bytes w32) (seen 4 k xs rest h)

pub word_at : (big : Bool) (bytes : List ℕ) (at k : ℕ) → word big bytes (at + k) ≡ word big (drop at bytes) k
word_at true bytes at k = ap (λ (r : List ℕ). from_be_bytes w32 (take 4 r)) (sym (drop-drop k at bytes))
word_at false bytes at k = ap (λ (r : List ℕ). from_le_bytes w32 (take 4 r)) (sym (drop-drop k at bytes))

-- a word of the record at a place, from the bytes taken there
word_here : (big : Bool) (bytes ahead rest : List ℕ) (at k : ℕ) → drop at bytes ≡ ahead ++ rest → k + 4 ≤ length ahead
    → word big bytes (at + k) ≡ word big ahead k
word_here big bytes ahead rest at k e h = word_at big bytes at k ∙ ap (λ (r : List ℕ). word big r k) e ∙ word_seen big ahead rest k h

-- the tests that follow the whole head
same_tests : (full long none past : Bool) (at : ℕ) (bytes : List ℕ) (last : Step) (stamp captured original : ℕ)
    → last ≡ step_of (Headed stamp captured original) at bytes
    → (if full then capture.Limit else if long then Fault (damage at LongRecord) else if none then Fault (damage at EmptyRecord) else if past then capture.Limit else last)
    ≡ step_of (if full then Limit else if long then Damaged LongRecord else if none then Damaged EmptyRecord else if past then Limit else Headed stamp captured original) at bytes
same_tests true long none past at bytes last stamp captured original h = refl
same_tests false true none past at bytes last stamp captured original h = refl
same_tests false false true past at bytes last stamp captured original h = refl
same_tests false false false true at bytes last stamp captured original h = refl
same_tests false false false false at bytes last stamp captured original h = h

-- the tests where fewer bytes stand than a head has
short_tests : (none full : Bool) (at : ℕ) (bytes : List ℕ)
    → (if none then capture.End else if full then capture.Limit else Fault (damage at ShortRecord))
    ≡ step_of (if none then End else if full then Limit else Damaged ShortRecord) at bytes
short_tests true full at bytes = refl
short_tests false true at bytes = refl
short_tests false false at bytes = refl

pub length_here : (bytes ahead rest : List ℕ) (at : ℕ) → at ≤ length bytes → drop at bytes ≡ ahead ++ rest → length bytes ≡ at + (length ahead + length rest)
length_here bytes ahead rest at within e =
    let long : length (drop at bytes) ≡ length ahead + length rest = ap length e ∙ length-append ahead rest in
    omega (arith, length-drop at bytes, long, within)

-- where the whole head was taken
whole_head : (form : Form) (bytes ahead rest : List ℕ) (count at : ℕ) → at ≤ length bytes → drop at bytes ≡ ahead ++ rest
    → 16 ≤ length ahead → step form bytes count at ≡ step_of (stand_at form count at ahead) at (drop at bytes)
whole_head form bytes ahead rest count at within e h =
    let long = length_here bytes ahead rest at within e in
    let w0 : word form.big bytes at ≡ word form.big ahead 0 = ap (λ (k : ℕ). word form.big bytes k) (omega arith) ∙ word_here form.big bytes ahead rest at 0 e (omega (arith, h)) in
    let w4 = word_here form.big bytes ahead rest at 4 e (omega (arith, h)) in
    let w8 = word_here form.big bytes ahead rest at 8 e (omega (arith, h)) in
    let w12 = word_here form.big bytes ahead rest at 12 e (omega (arith, h)) in
    let some : nat_le (length bytes) at ≡ false = grind (arith, long, h) in
    let head : nat_lt (length bytes) (at + 16) ≡ false = grind (arith, long, h) in
    let some_ahead : (length ahead == 0) ≡ false = grind (arith, h) in
    let head_ahead : nat_lt (length ahead) 16 ≡ false = grind (arith, h) in
    let captured = word form.big ahead 8 in
    let original = word form.big ahead 12 in
    let room : nat_lt (length bytes) (at + 16 + captured) ≡ nat_lt (length (drop at bytes)) (16 + captured) =
    grind (arith, length-drop at bytes, within) in
    let stamps : stamp form bytes at ≡ stamp form ahead 0 = rw (w0, w4) refl in
    let behind : drop (at + 16) bytes ≡ drop 16 (drop at bytes) = sym (drop-drop 16 at bytes) in
    rw (some, head, some_ahead, head_ahead, w8, w12)
    (same_tests (count == most_records) (nat_lt longest captured || nat_lt longest original)
    ((captured == 0) && (original == 0)) (nat_lt most_bytes (at + 16 + captured)) at (drop at bytes) _
    (stamp form ahead 0) captured original (rw (room, stamps, behind) refl))

-- where fewer bytes stand than a head has
part_head : (form : Form) (bytes ahead : List ℕ) (count at : ℕ) → at ≤ length bytes → length bytes ≡ at + length ahead
    → length ahead < 16 → step form bytes count at ≡ step_of (stand_at form count at ahead) at (drop at bytes)
part_head form bytes ahead count at within long h =
    let none : nat_le (length bytes) at ≡ (length ahead == 0) = grind (arith, long) in
    let head : nat_lt (length bytes) (at + 16) ≡ true = grind (arith, long, h) in
    let head_ahead : nat_lt (length ahead) 16 ≡ true = grind (arith, h) in
    rw (none, head, head_ahead) (short_tests (length ahead == 0) (count == most_records) at (drop at bytes))

pub step_here : (form : Form) (bytes ahead rest : List ℕ) (count at : ℕ) → at ≤ length bytes → drop at bytes ≡ ahead ++ rest
    → (16 ≤ length ahead) ⊎ (length rest ≡ 0) → step form bytes count at ≡ step_of (stand_at form count at ahead) at (drop at bytes)
step_here form bytes ahead rest count at within e (inl h) = whole_head form bytes ahead rest count at within e h
step_here form bytes ahead rest count at within e (inr none) = elim (cases_lt (length ahead) 16) [
  | inl less ↦ part_head form bytes ahead count at within (omega (arith, length_here bytes ahead rest at within e, none)) less
  | inr more ↦ whole_head form bytes ahead rest count at within e more
]
