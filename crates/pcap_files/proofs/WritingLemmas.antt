-- What is written reads back.
use Rattle.std.proofs.Common.{◌≡◌, ◌≤◌, ◌<◌, ◌∙◌, ℕ, suc, ◌+◌, ◌*◌, ◌/◌, ◌%◌, ◌^◌, List, [], ◌∷◌, ◌++◌, length, take, drop, refl, sym, ap, subst, arith, inl, append_assoc, length-append}
use Rattle.std.specs.Prelude.{◌==◌, ◌&&◌, true, false, nat_lt, nat_le, max, All}
use Rattle.std.proofs.lemmas.Nat.{from_le_bytes-to_le_bytes_4}
use Rattle.capture_model.specs.Capture.{Form, Record, Next, End, Stand, word, stamp, step, place_after, longest, most_records, most_bytes, IsCapture}
use Rattle.capture_model.specs.Header.{capture_header, record_header}
use Rattle.pcap_files.specs.Stand.{stand_at, step_of}
use Rattle.capture_model.specs.Written.{record_text, record_texts, written, FitsCapture, AreWithin}
use Rattle.pcap_files.specs.declared.stand.Stand.TheVariants.{Headed}
use Rattle.pcap_files.proofs.PlaceLemmas.{step_here}
use Rattle.pcap_files.proofs.ReaderLemmas.{head_seen, reads_formed}

-- the form that is written
abbrev written_form : Form
written_form = record { big = false; nanos = true }

stamp_by : (hd : List ℕ) (seconds fraction end : ℕ) → word false hd 0 ≡ seconds → word false hd 4 ≡ fraction
    → seconds * 10 ^ 9 + fraction ≡ end → stamp written_form hd 0 ≡ end
stamp_by hd seconds fraction end w0 w4 e = let sum : word false hd 0 * 10 ^ 9 + word false hd 4 * 1 ≡ end = omega (arith, w0, w4, e) in sum

-- the numbers of a record's head
head_words : (end captured original : ℕ) → end < 2 ^ 32 * 10 ^ 9 → captured ≤ longest → original ≤ longest
    → (word false (record_header end captured original) 8 ≡ captured) × (word false (record_header end captured original) 12 ≡ original)
    × (stamp written_form (record_header end captured original) 0 ≡ end)
head_words end captured original he hc ho =
    let seconds : end / 10 ^ 9 < 2 ^ 32 = omega (arith, he) in
    let fraction : end % 10 ^ 9 < 2 ^ 32 = omega arith in (
      from_le_bytes-to_le_bytes_4 captured (omega (arith, hc)),
      from_le_bytes-to_le_bytes_4 original (omega (arith, ho)),
      stamp_by (record_header end captured original) (end / 10 ^ 9) (end % 10 ^ 9) end (from_le_bytes-to_le_bytes_4 (end / 10 ^ 9) seconds)
          (from_le_bytes-to_le_bytes_4 (end % 10 ^ 9) fraction) (omega arith),
    )

not_less : (m n : ℕ) → n ≤ m → nat_lt m n ≡ false
not_less m n h = grind (arith, h)

is_other : (m n : ℕ) → m < n → (m == n) ≡ false
is_other m n h = grind (arith, h)

is_some : (m n : ℕ) → 0 < max m n → ((n == 0) && (m == 0)) ≡ false
is_some m n h = grind (arith, h)

-- a head with these numbers passes its tests
passes : (hd : List ℕ) (count at end captured original : ℕ) → length hd ≡ 16 → word false hd 8 ≡ captured → word false hd 12 ≡ original
    → stamp written_form hd 0 ≡ end → count < most_records → captured ≤ longest → original ≤ longest → 0 < max original captured
    → at + 16 + captured ≤ most_bytes → stand_at written_form count at hd ≡ Headed end captured original
passes hd count at end captured original long w8 w12 st hc short known some room =
    let empty : (length hd == 0) ≡ false = rw long refl in
    let part : nat_lt (length hd) 16 ≡ false = rw long refl in
    rw (
      empty,
      is_other count most_records hc,
      part,
      w8,
      w12,
      not_less longest captured short,
      not_less longest original known,
      is_some original captured some,
      not_less most_bytes (at + 16 + captured) room,
      st,
    ) refl

drop_front : (pre rest : List ℕ) → drop (length pre) (pre ++ rest) ≡ rest
drop_front [] rest = refl
drop_front (x ∷ pre) rest = drop_front pre rest

take_front : (xs rest : List ℕ) → take (length xs) (xs ++ rest) ≡ xs
take_front [] rest = refl
take_front (x ∷ xs) rest = ap (λ (r : List ℕ). x ∷ r) (take_front xs rest)

whole_next : (hd : List ℕ) (r : Record) (rest : List ℕ) (at : ℕ) → length hd ≡ 16
    → step_of (Headed r.stamp (length r.captured) r.original) at (hd ++ (r.captured ++ rest)) ≡ Next r (at + 16 + length r.captured)
whole_next hd r rest at long =
    let size : length (hd ++ (r.captured ++ rest)) ≡ 16 + (length r.captured + length rest) =
    omega (arith, length-append hd (r.captured ++ rest), length-append r.captured rest, long) in
    let whole : nat_lt (length (hd ++ (r.captured ++ rest))) (16 + length r.captured) ≡ false =
    not_less (length (hd ++ (r.captured ++ rest))) (16 + length r.captured) (omega (arith, size)) in
    let front : drop 16 (hd ++ (r.captured ++ rest)) ≡ r.captured ++ rest =
    ap (λ (n : ℕ). drop n (hd ++ (r.captured ++ rest))) (sym long) ∙ drop_front hd (r.captured ++ rest) in
    rw (whole, front, take_front r.captured rest) refl

at_end : (f : Form) (bytes : List ℕ) (count at : ℕ) → length bytes ≡ at → step f bytes count at ≡ End
at_end f bytes count at e = let none : nat_le (length bytes) at ≡ true = grind (arith, e) in rw none refl

-- the step at a written record
step_written : (pre rest : List ℕ) (r : Record) (count : ℕ) → FitsCapture r → count < most_records → length pre + 16 + length r.captured ≤ most_bytes
    → step written_form (pre ++ (record_text r ++ rest)) count (length pre) ≡ Next r (length pre + 16 + length r.captured)
step_written pre rest r count h hc room =
    let hd = record_header r.stamp (length r.captured) r.original in
    let all = pre ++ (record_text r ++ rest) in
    let words = head_words r.stamp (length r.captured) r.original h.stamp h.captured h.original in
    let behind : drop (length pre) all ≡ hd ++ (r.captured ++ rest) = drop_front pre (record_text r ++ rest) ∙ append_assoc hd r.captured rest in
    let here = step_here written_form all hd (r.captured ++ rest) count (length pre) (omega (arith, length-append pre (record_text r ++ rest))) behind (inl (omega arith)) in
    let stands = passes hd count (length pre) r.stamp (length r.captured) r.original refl words.0 words.1 words.2 hc h.captured h.original h.some room in
    here ∙ ap (λ q. step_of q (length pre) (drop (length pre) all)) stands ∙ ap (step_of (Headed r.stamp (length r.captured) r.original) (length pre)) behind
    ∙ whole_next hd r rest (length pre) refl

-- so do all
stand_written : (pre : List ℕ) (count : ℕ) (rs : List Record) → All FitsCapture rs → count + length rs ≤ most_records
    → length (pre ++ record_texts rs) ≤ most_bytes
    → Stand written_form (pre ++ record_texts rs) count (length pre) rs
    × (step written_form (pre ++ record_texts rs) (count + length rs) (place_after (length pre) rs) ≡ End)
stand_written pre count [] all hc room = (tt, at_end written_form (pre ++ []) (count + 0) (length pre) (omega (arith, length-append {A = ℕ} pre [])))
stand_written pre count (r ∷ rs) all hc room =
    let rest = record_texts rs in
    let front = pre ++ record_text r in
    let same : front ++ rest ≡ pre ++ (record_text r ++ rest) = append_assoc pre (record_text r) rest in
    let size : length front ≡ length pre + 16 + length r.captured =
    omega (arith, length-append pre (record_text r), length-append (record_header r.stamp (length r.captured) r.original) r.captured) in
    let fits : length (front ++ rest) ≤ most_bytes = omega (arith, ap length same, room) in
    let after = stand_written front (count + 1) rs (λ k d h. all (suc k) d (omega (arith, h))) (omega (arith, hc)) fits in
    let first = step_written pre rest r count (all 0 r (omega arith)) (omega (arith, hc)) (omega (arith, size, length-append front rest, fits)) in
    let others : Stand written_form (pre ++ (record_text r ++ rest)) (count + 1) (length pre + 16 + length r.captured) rs =
    subst (λ (n : ℕ). Stand written_form (pre ++ (record_text r ++ rest)) (count + 1) n rs) size
    (subst (λ (b : List ℕ). Stand written_form b (count + 1) (length front) rs) same after.0) in
    let last : step written_form (pre ++ (record_text r ++ rest)) (count + length (r ∷ rs)) (place_after (length pre + 16 + length r.captured) rs) ≡ End =
    ap (λ (n : ℕ). step written_form (pre ++ (record_text r ++ rest)) n (place_after (length pre + 16 + length r.captured) rs)) (omega arith)
    ∙ ap (λ (n : ℕ). step written_form (pre ++ (record_text r ++ rest)) (count + 1 + length rs) (place_after n rs)) (sym size)
    ∙ ap (λ (b : List ℕ). step written_form b (count + 1 + length rs) (place_after (length front) rs)) (sym same) ∙ after.1 in
    ((first, others), last)

pub reads_written : (records : List Record) → AreWithin records → IsCapture (written records) records
reads_written records h =
    let both = stand_written capture_header 0 records h.each (omega (arith, h.count)) h.size in
    reads_formed written_form (written records) records End
    (head_seen capture_header (record_texts records) (inl (omega arith)))
    (record { stand = both.0; ended = ap (λ (n : ℕ). step written_form (written records) n (place_after 24 records)) (omega arith) ∙ both.1 })
