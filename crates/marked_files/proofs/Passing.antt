-- Bytes that a marker makes ready: what is given stays the same.
use Rattle.std.proofs.Common.{◌≡◌, ◌≤◌, ◌<◌, ◌+◌, ◌∙◌, ap, ℕ, List, [], ◌++◌, length, take, drop, refl, arith, sym, inl, append_assoc}
use Rattle.std.specs.Prelude.{Bool, true, nat_lt, if◌then◌else◌, Some, None}
use Rattle.std.proofs.lemmas.List.{take-append-le, drop-append-le}
use Rattle.altq_model.specs.declared.Placed.{Placed}
use Rattle.capture_model.specs.declared.damage.Damage.{Damage}
use Rattle.capture_model.specs.declared.damage.DamageKind.TheVariants.{ShortHead}
use Rattle.capture_model.specs.Capture.{Header, Formed, Unformed, damage, form_of, header, header_in, most_records, word}
use Rattle.pcap_files.proofs.ReaderLemmas.{head_seen}
use Rattle.pcap_files.specs.Forms.{form}
use Rattle.pcap_files.specs.declared.form.Head.{Head}
use Rattle.marked_files.specs.Courses.{Course, behind_head, made, marked_record, passed, records_from}
use Rattle.marked_files.specs.Heads.{headed}
use Rattle.marked_files.specs.declared.record_head.RecordHead.{RecordHead}
use Rattle.marked_files.specs.declared.stage.Stage.{Stage}
use Rattle.marked_files.specs.declared.stage.Stage.TheVariants.{Start, Records, Rest}
use Rattle.marked_files.specs.Taking.{HoldsNone}
use Rattle.marked_files.proofs.Steps.{front_record, no_header, no_record, not_headed}

pub head_given : (place : List ℕ → Placed) (c : Course) (ready xs left : List ℕ) (head : Head) → 24 ≤ length xs → header xs ≡ Formed (form head)
    → (ready ++ take 24 xs) ++ made (Records head) place c (drop 24 xs ++ left) ≡ ready ++ made Start place c (xs ++ left)
head_given place c ready xs left head long h =
    let formed : header (xs ++ left) ≡ Formed (form head) = head_seen xs left (inl long) ∙ h in
    let front : take 24 (xs ++ left) ≡ take 24 xs = take-append-le 24 xs left long in
    let behind : drop 24 (xs ++ left) ≡ drop 24 xs ++ left = drop-append-le 24 xs left long in
    append_assoc ready (take 24 xs) (records_from place (form head) c (drop 24 xs ++ left))
    ∙ ap (λ (l : List ℕ). ready ++ l)
    (ap (λ (l : List ℕ). l ++ records_from place (form head) c (drop 24 xs ++ left)) (sym front)
    ∙ ap (λ (l : List ℕ). take 24 (xs ++ left) ++ records_from place (form head) c l) (sym behind)
    ∙ ap (λ (t : Header). behind_head t place c (xs ++ left)) (sym formed))

pub head_damaged : (place : List ℕ → Placed) (c : Course) (ready xs left : List ℕ) (d : Damage) → 24 ≤ length xs → header xs ≡ Unformed d
    → ready ++ made Rest place c (xs ++ left) ≡ ready ++ made Start place c (xs ++ left)
head_damaged place c ready xs left d long h =
    ap (λ (t : Header). ready ++ behind_head t place c (xs ++ left)) (sym (head_seen xs left (inl long) ∙ h))

head_short : (place : List ℕ → Placed) (c : Course) (xs : List ℕ) → length xs < 24 → made Start place c xs ≡ xs
head_short place c xs h =
    let short : nat_lt (length xs) 24 ≡ true = grind (arith, h) in
    ap (λ (b : Bool). behind_head (if b then Unformed (damage (length xs) ShortHead) else header_in (form_of (word true xs 0)) xs) place c xs) short

pub record_given : (place : List ℕ → Placed) (c : Course) (ready xs left : List ℕ) (head : Head) (r : RecordHead) → c.count < most_records
    → headed (form head) c.count c.at xs ≡ Some r → 16 + r.captured ≤ length xs
    → (ready ++ marked_record place c r xs) ++ made (Records head) place (passed place c r xs) (drop (16 + r.captured) xs ++ left)
    ≡ ready ++ made (Records head) place c (xs ++ left)
record_given place c ready xs left head r less h long =
    append_assoc ready (marked_record place c r xs) (records_from place (form head) (passed place c r xs) (drop (16 + r.captured) xs ++ left))
    ∙ ap (λ (l : List ℕ). ready ++ l) (sym (front_record place (form head) c xs left r less h long))

pub record_refused : (place : List ℕ → Placed) (c : Course) (ready xs left : List ℕ) (head : Head) → 16 ≤ length xs
    → headed (form head) c.count c.at xs ≡ None → ready ++ made Rest place c (xs ++ left) ≡ ready ++ made (Records head) place c (xs ++ left)
record_refused place c ready xs left head long h =
    ap (λ (l : List ℕ). ready ++ l) (sym (not_headed place (form head) c xs left long h))

-- the bytes stay where neither the head nor a record stands whole
pub none_stays : (s : Stage) (place : List ℕ → Placed) (c : Course) (xs : List ℕ) → HoldsNone s c xs → made s place c xs ≡ xs
none_stays Start place c xs h = head_short place c xs h
none_stays (Records head) place c xs h = no_record place (form head) c xs h
none_stays Rest place c xs h = refl

pub nothing_held : (s : Stage) (c : Course) → HoldsNone s c []
nothing_held Start c = omega arith
nothing_held (Records head) c = no_header (form head) c [] (omega arith)
nothing_held Rest c = refl
