-- What becomes of bytes is told by those that were taken.
use Rattle.std.proofs.Common.{◌≡◌, ◌≤◌, ◌<◌, ◌+◌, ◌-◌, ◌∙◌, ap, ℕ, zero, suc, List, ◌++◌, length, take, drop, refl, arith, length-append}
use Rattle.std.specs.Prelude.{false, true, Bool, nat_lt, if◌then◌else◌, Option, Some, None}
use Rattle.std.proofs.lemmas.List.{take-append-le, drop-append-le}
use Rattle.altq_model.specs.declared.Placed.{Placed}
use Rattle.capture_model.specs.Capture.{Form, most_records, stamp}
use Rattle.pcap_files.proofs.PlaceLemmas.{seen, word_seen}
use Rattle.marked_files.specs.Courses.{Course, frame_in, marked_record, passed, records_from, records_on}
use Rattle.marked_files.specs.Heads.{headed, whole}
use Rattle.marked_files.specs.declared.record_head.RecordHead.{RecordHead}

-- one turn
abbrev turned : (n : ℕ) → (List ℕ → Placed) → Form → Course → List ℕ → Option RecordHead → List ℕ
turned n place form c bytes found =
    elim found [
      | None ↦ bytes
      | Some head ↦ marked_record place c head bytes ++ records_on n place form (passed place c head bytes) (drop (16 + head.captured) bytes)
    ]

-- a record that stands whole is marked, and passed
pub one_record : (place : List ℕ → Placed) (form : Form) (c : Course) (bytes : List ℕ) (head : RecordHead) → c.count < most_records
    → whole (headed form c.count c.at bytes) bytes ≡ Some head
    → records_from place form c bytes
    ≡ marked_record place c head bytes ++ records_from place form (passed place c head bytes) (drop (16 + head.captured) bytes)
one_record place form c bytes head less found =
    let turns : most_records - c.count ≡ suc (most_records - (c.count + 1)) = omega (arith, less) in
    ap (λ (n : ℕ). records_on n place form c bytes) turns
    ∙ ap (turned (most_records - (c.count + 1)) place form c bytes) found

none_on : (turns : ℕ) (place : List ℕ → Placed) (form : Form) (c : Course) (bytes : List ℕ)
    → whole (headed form c.count c.at bytes) bytes ≡ None → records_on turns place form c bytes ≡ bytes
none_on zero place form c bytes found = refl
none_on (suc n) place form c bytes found = ap (turned n place form c bytes) found

-- where no record stands whole, the bytes stay
pub no_record : (place : List ℕ → Placed) (form : Form) (c : Course) (bytes : List ℕ)
    → whole (headed form c.count c.at bytes) bytes ≡ None → records_from place form c bytes ≡ bytes
no_record place form c bytes found = none_on (most_records - c.count) place form c bytes found

-- the header of a record is told by its own bytes
pub headed_seen : (form : Form) (count at : ℕ) (xs rest : List ℕ) → 16 ≤ length xs → headed form count at (xs ++ rest) ≡ headed form count at xs
headed_seen form count at xs rest h =
    let w0 = word_seen form.big xs rest 0 (omega (arith, h)) in
    let w4 = word_seen form.big xs rest (0 + 4) (omega (arith, h)) in
    let w8 = word_seen form.big xs rest 8 (omega (arith, h)) in
    let w12 = word_seen form.big xs rest 12 (omega (arith, h)) in
    let stamps : stamp form (xs ++ rest) 0 ≡ stamp form xs 0 = rw (w0, w4) refl in
    let long : nat_lt (length (xs ++ rest)) 16 ≡ false = grind (arith, h, length-append xs rest) in
    let here : nat_lt (length xs) 16 ≡ false = grind (arith, h) in
    rw (w8, w12, stamps, long, here) refl

pub none_whole : (o : Option RecordHead) (bytes : List ℕ) → o ≡ None → whole o bytes ≡ None
none_whole o bytes h = ap (λ (p : Option RecordHead). whole p bytes) h

-- a header that the format does not allow here
pub not_headed : (place : List ℕ → Placed) (form : Form) (c : Course) (xs rest : List ℕ) → 16 ≤ length xs
    → headed form c.count c.at xs ≡ None → records_from place form c (xs ++ rest) ≡ xs ++ rest
not_headed place form c xs rest long h =
    no_record place form c (xs ++ rest) (none_whole _ (xs ++ rest) (headed_seen form c.count c.at xs rest long ∙ h))

-- fewer bytes than a header has
pub no_header : (form : Form) (c : Course) (xs : List ℕ) → length xs < 16 → whole (headed form c.count c.at xs) xs ≡ None
no_header form c xs h =
    let short : nat_lt (length xs) 16 ≡ true = grind (arith, h) in
    let none : headed form c.count c.at xs ≡ None = rw (short) refl in
    none_whole _ xs none

pub some_whole : (o : Option RecordHead) (head : RecordHead) (bytes : List ℕ) → o ≡ Some head → 16 + head.captured ≤ length bytes → whole o bytes ≡ Some head
some_whole o head bytes e h =
    let enough : nat_lt (length bytes) (16 + head.captured) ≡ false = grind (arith, h) in
    ap (λ (p : Option RecordHead). whole p bytes) e ∙ ap (λ (b : Bool). if b then None else Some head) enough

-- a record that is not whole
pub not_whole : (form : Form) (c : Course) (xs : List ℕ) (head : RecordHead)
    → headed form c.count c.at xs ≡ Some head → length xs < 16 + head.captured → whole (headed form c.count c.at xs) xs ≡ None
not_whole form c xs head e h =
    let cut : nat_lt (length xs) (16 + head.captured) ≡ true = grind (arith, h) in
    let part : (if nat_lt (length xs) (16 + head.captured) then None else Some head) ≡ None = ap (λ (b : Bool). if b then None else Some head) cut in
    ap (λ (p : Option RecordHead). whole p xs) e ∙ part

-- a record that stands in the first bytes is marked, and passed
pub front_record : (place : List ℕ → Placed) (form : Form) (c : Course) (xs rest : List ℕ) (head : RecordHead) → c.count < most_records
    → headed form c.count c.at xs ≡ Some head → 16 + head.captured ≤ length xs
    → records_from place form c (xs ++ rest)
    ≡ marked_record place c head xs ++ records_from place form (passed place c head xs) (drop (16 + head.captured) xs ++ rest)
front_record place form c xs rest head less e h =
    let found = some_whole _ head (xs ++ rest) (headed_seen form c.count c.at xs rest (omega (arith, h)) ∙ e) (omega (arith, h, length-append xs rest)) in
    let frame : frame_in head (xs ++ rest) ≡ frame_in head xs = seen head.captured 16 xs rest h in
    let front : take 16 (xs ++ rest) ≡ take 16 xs = take-append-le 16 xs rest (omega (arith, h)) in
    let behind : drop (16 + head.captured) (xs ++ rest) ≡ drop (16 + head.captured) xs ++ rest = drop-append-le (16 + head.captured) xs rest h in
    one_record place form c (xs ++ rest) head less found ∙ rw (frame, front, behind) refl
