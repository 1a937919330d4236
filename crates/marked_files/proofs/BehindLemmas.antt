-- What is told of the bytes behind the records that are ready is what the capture reads as there.
use Rattle.std.proofs.Common.{◌≡◌, ◌≤◌, ◌<◌, ◌+◌, ◌∙◌, Ok, Err, Result, ap, ℕ, List, [], ◌++◌, length, take, drop, refl, arith, sym, subst, inl, inr, append_assoc, append-nil, length-append}
use Rattle.std.specs.Prelude.{◌⊎◌, ◌==◌, ◌||◌, ◌&&◌, Bool, true, false, nat_lt, nat_le, if◌then◌else◌, Option, Some, None}
use Rattle.std.proofs.Math.Seq.{take-append_seam}
use Rattle.std.proofs.lemmas.Bool.{leb-true}
use Rattle.std.proofs.lemmas.List.{drop-append-le, nil_from_length}
use Rattle.altq_model.specs.declared.Placed.{Placed}
use Rattle.capture_model.specs.declared.damage.Damage.{Damage}
use Rattle.capture_model.specs.declared.damage.DamageKind.TheVariants.{ShortHead, ShortRecord, EmptyRecord, LongRecord}
use Rattle.capture_model.specs.Capture.{Form, Header, Formed, Unformed, IsLast, Record, Step, Reads, ReadsFrom, damage, form_of, header, header_in, longest, most_bytes, most_records, place_after, stamp, step, word}
use Rattle.capture_model.specs.Capture as capture
use Rattle.pcap_files.proofs.PlaceLemmas.{step_here}
use Rattle.pcap_files.proofs.ReaderLemmas.{head_seen, is_less, reads_formed}
use Rattle.pcap_files.specs.Forms.{form}
use Rattle.pcap_files.specs.Stand.{stand_at, step_of}
use Rattle.pcap_files.specs.declared.form.Head.{Head}
use Rattle.pcap_files.specs.declared.stand.Stand.{Stand as Standing}
use Rattle.pcap_files.specs.declared.stand.Stand.TheVariants as stand
use Rattle.play_base.specs.declared.trouble.Trouble.{Trouble}
use Rattle.traffic_marks.specs.Marked.{Conditioning, marked}
use Rattle.marked_files.specs.Courses.{Course, made}
use Rattle.marked_files.specs.Heads.{headed, whole}
use Rattle.marked_files.specs.Markings.{Marking}
use Rattle.marked_files.specs.Standing.{AreWhole, IsBehind, IsNone, IsPart, IsRefused, IsAtRecordEnd, StandsAt, Tells, Waits, has_header, has_header_at, head_tells, stand_tells, told_at, told_last, told_of, whole_end}
use Rattle.marked_files.specs.declared.behind.Behind.{Behind}
use Rattle.marked_files.specs.declared.behind.Behind.TheVariants as behind
use Rattle.marked_files.specs.declared.record_head.RecordHead.{RecordHead}
use Rattle.marked_files.specs.declared.stage.Stage.{Stage}
use Rattle.marked_files.specs.declared.stage.Stage.TheVariants.{Start, Records, Rest}
use Rattle.marked_files.proofs.Lengths.{length-made}
use Rattle.marked_files.proofs.StandingLemmas.{records_longer}
use Rattle.marked_files.proofs.Steps.{none_whole}
use Rattle.marked_files.proofs.Whole.{cut_is_short, none_is_last}

-- how far a marker is in a capture, which bytes are pending there, how frames find their classes and conditioners, and which bytes
-- of the capture were taken and which given of what becomes of them
pub record Spot : Type 0 where
  pub course : Course
  pub pending : List ℕ
  pub place : List ℕ → Placed
  pub conditioning : Conditioning
  pub taken : List ℕ
  pub given : List ℕ

-- so a marker stands there at a stage
pub record IsSpot (s : Stage) (x : Spot) : Type 0 where
  pub many : length x.taken ≡ length x.given + length x.pending
  pub pending : x.pending ≡ drop (length x.given) x.taken
  pub by : StandsAt s x.course x.taken (length x.given)
  pub same : (left : List ℕ) → x.given ++ made s x.place x.course (x.pending ++ left) ≡ marked x.conditioning (x.taken ++ left)

-- enough bytes are pending to tell what stands there, or the file has no more left
abbrev pub IsSeen : (enough : ℕ) → Spot → (left : List ℕ) → Type 0
IsSeen enough x left = (enough ≤ length x.pending) ⊎ (length left ≡ 0)

-- the spot of a marking
abbrev pub spot_of : {C : Type 0} → (C → List ℕ → Placed) → Conditioning → (taken bytes : List ℕ) → Marking C → Spot
spot_of placed c taken bytes m = record {
  course = m.course;
  pending = m.held.pending;
  place = placed m.classes;
  conditioning = c;
  taken = taken;
  given = bytes ++ m.held.ready;
}

pub is_spot : {C : Type 0} (placed : C → List ℕ → Placed) (c : Conditioning) (taken bytes : List ℕ) (m : Marking C) → IsAtRecordEnd placed c taken bytes m
    → IsSpot m.stage (spot_of placed c taken bytes m)
is_spot placed c taken bytes m s =
    let far : length bytes + length m.held.ready ≡ length (bytes ++ m.held.ready) = omega (arith, length-append bytes m.held.ready) in
    record {
      many = omega (arith, s.many, length-append bytes m.held.ready);
      pending = s.pending ∙ ap (λ (n : ℕ). drop n taken) far;
      by = subst (λ (n : ℕ). StandsAt m.stage m.course taken n) far s.by;
      same = λ left. append_assoc bytes m.held.ready (made m.stage (placed m.classes) m.course (m.held.pending ++ left)) ∙ s.same left;
    }

-- the head fails a test
head_whole : (x : Spot) (left : List ℕ) (d : Damage) → IsSpot Start x → header x.pending ≡ Unformed d → IsSeen 24 x left
    → AreWhole x.conditioning (x.taken ++ left) (capture.Fault d) x.given
head_whole x left d p unformed enough =
    let c = x.conditioning in
    let taken = x.taken in
    let here : x.pending ≡ taken = p.pending ∙ ap (λ (n : ℕ). drop n taken) p.by.0 in
    let seen : header (x.pending ++ left) ≡ Unformed d = head_seen x.pending left enough ∙ unformed in
    let head : header (taken ++ left) ≡ Unformed d = subst (λ (l : List ℕ). header (l ++ left) ≡ Unformed d) here seen in
    record {
      records = [];
      reads = subst (λ (h : Header). ReadsFrom h (taken ++ left) [] (capture.Fault d)) (sym head) (refl, refl);
      are = nil_from_length x.given p.by.0 ∙ ap (λ (h : Header). take (whole_end h []) (marked c (taken ++ left))) (sym head);
    }

-- behind the records the capture reads so
records_whole : (head : Head) (x : Spot) (left : List ℕ) (last : Step) → IsSpot (Records head) x
    → step (form head) (x.taken ++ left) x.course.count x.course.at ≡ last → AreWhole x.conditioning (x.taken ++ left) last x.given
records_whole head x left last p ended =
    let f = form head in
    let k = x.course in
    let given = x.given in
    let bytes = x.taken ++ left in
    let rest = made (Records head) x.place k (x.pending ++ left) in
    let h = records_longer f k x.taken left (length given) p.by in
    let place : k.at ≡ place_after 24 h.records = h.at ∙ h.place in
    let seam : take (length given) (given ++ rest) ≡ given = take-append_seam given rest in
    record {
      records = h.records;
      reads = reads_formed f bytes h.records last h.formed (record {
        stand = h.stand;
        ended = ap (λ (n : ℕ). step f bytes n (place_after 24 h.records)) (sym h.count) ∙ ap (λ (n : ℕ). step f bytes k.count n) (sym place) ∙ ended;
      });
      are = sym seam ∙ ap (λ (l : List ℕ). take (length given) l) (p.same left)
          ∙ ap (λ (n : ℕ). take n (marked x.conditioning bytes)) h.place
          ∙ ap (λ (t : Header). take (whole_end t h.records) (marked x.conditioning bytes)) (sym h.formed);
    }

-- what stands at the place of the next record
abbrev stand_here : Head → Spot → Standing
stand_here head x = stand_at (form head) x.course.count x.course.at x.pending

record_step : (head : Head) (x : Spot) (left : List ℕ) → IsSpot (Records head) x → IsSeen 16 x left
    → step (form head) (x.taken ++ left) x.course.count x.course.at ≡ step_of (stand_here head x) x.course.at (x.pending ++ left)
record_step head x left p enough =
    let k = x.course in
    let within : k.at ≤ length x.taken = omega (arith, p.by.at, p.many) in
    let split : drop k.at (x.taken ++ left) ≡ x.pending ++ left =
    drop-append-le k.at x.taken left within
    ∙ ap (λ (n : ℕ). drop n x.taken ++ left) p.by.at ∙ ap (λ (l : List ℕ). l ++ left) (sym p.pending) in
    step_here (form head) (x.taken ++ left) x.pending left k.count k.at (omega (arith, within, length-append x.taken left)) split enough
    ∙ ap (λ (l : List ℕ). step_of (stand_here head x) k.at l) split

-- so the capture reads, where it is known
step_is : (head : Head) (x : Spot) (left : List ℕ) (t : Standing) → IsSpot (Records head) x → IsSeen 16 x left → stand_here head x ≡ t
    → step (form head) (x.taken ++ left) x.course.count x.course.at ≡ step_of t x.course.at (x.pending ++ left)
step_is head x left t p enough e = record_step head x left p enough ∙ ap (λ (u : Standing). step_of u x.course.at (x.pending ++ left)) e

abbrev stand_tests : (a b c d e f : Bool) → RecordHead → Standing
stand_tests a b c d e f r =
    if a then stand.End else if b then stand.Limit else if c then stand.Damaged ShortRecord else if d then stand.Damaged LongRecord else if e then stand.Damaged EmptyRecord else if f then stand.Limit else stand.Headed r.stamp r.captured r.original

end_by : (a b c d e f : Bool) (r : RecordHead) → stand_tests a b c d e f r ≡ stand.End → a ≡ true
end_by true b c d e f r h = refl
end_by false true c d e f r h = absurd (cc)
end_by false false true d e f r h = absurd (cc)
end_by false false false true e f r h = absurd (cc)
end_by false false false false true f r h = absurd (cc)
end_by false false false false false true r h = absurd (cc)
end_by false false false false false false r h = absurd (cc)

end_is_none : (f : Form) (count at : ℕ) (xs : List ℕ) → stand_at f count at xs ≡ stand.End → length xs ≡ 0
end_is_none f count at xs h =
    let zero : (length xs == 0) ≡ true = end_by (length xs == 0) (count == most_records) (nat_lt (length xs) 16)
    (nat_lt longest (word f.big xs 8) || nat_lt longest (word f.big xs 12))
    ((word f.big xs 8 == 0) && (word f.big xs 12 == 0)) (nat_lt most_bytes (at + 16 + word f.big xs 8))
    (record { stamp = stamp f xs 0; captured = word f.big xs 8; original = word f.big xs 12 }) h in
    grind (arith, zero)

-- nothing stands behind them: all was given
all_given : (s : Stage) (x : Spot) (left : List ℕ) → IsSpot s x → length x.pending ≡ 0 → length left ≡ 0 → x.given ≡ marked x.conditioning (x.taken ++ left)
all_given s x left p none ended =
    let rest = made s x.place x.course (x.pending ++ left) in
    let nothing : rest ≡ [] = nil_from_length rest (omega (arith, length-made s x.place x.course (x.pending ++ left), length-append x.pending left, none, ended)) in
    sym (append-nil x.given) ∙ ap (λ (l : List ℕ). x.given ++ l) (sym nothing) ∙ p.same left

-- what stands behind what was given of a capture
abbrev IsBehindSpot : Spot → (left : List ℕ) → Behind → Type 0
IsBehindSpot x left told = IsBehind x.conditioning (x.taken ++ left) x.given told

-- what a record's place tells
stand_behind : (head : Head) (x : Spot) (left : List ℕ) (t : Standing) → stand_here head x ≡ t → IsSpot (Records head) x → IsSeen 16 x left
    → IsBehindSpot x left (stand_tells t x.course.at)
stand_behind head x left stand.End e p (inl enough) = absurd (omega (arith, enough, end_is_none (form head) x.course.count x.course.at x.pending e))
stand_behind head x left stand.End e p (inr none) = (
  records_whole head x left capture.End p (step_is head x left stand.End p (inr none) e),
  all_given (Records head) x left p (end_is_none (form head) x.course.count x.course.at x.pending e) none,
)
stand_behind head x left stand.Limit e p enough = records_whole head x left capture.Limit p (step_is head x left stand.Limit p enough e)
stand_behind head x left (stand.Damaged kind) e p enough =
    records_whole head x left (capture.Fault (damage x.course.at kind)) p (step_is head x left (stand.Damaged kind) p enough e)
stand_behind head x left (stand.Headed stamp captured original) e p enough = tt

head_behind : (h : Header) (x : Spot) (left : List ℕ) → header x.pending ≡ h → IsSpot Start x → IsSeen 24 x left → IsBehindSpot x left (head_tells h)
head_behind (Formed f) x left e p enough = tt
head_behind (Unformed d) x left e p enough = head_whole x left d p e enough

-- where a header stands, or the file is at its end
place_behind : (s : Stage) (x : Spot) (left : List ℕ) → IsSpot s x → (has_header_at s x.pending ≡ true) ⊎ (length left ≡ 0)
    → IsBehindSpot x left (told_at s x.course x.pending)
place_behind Start x left p (inl enough) = head_behind (header x.pending) x left refl p (inl (leb-true 24 (length x.pending) enough))
place_behind Start x left p (inr none) = head_behind (header x.pending) x left refl p (inr none)
place_behind (Records head) x left p (inl enough) = stand_behind head x left (stand_here head x) refl p (inl (leb-true 16 (length x.pending) enough))
place_behind (Records head) x left p (inr none) = stand_behind head x left (stand_here head x) refl p (inr none)
place_behind Rest x left p enough = absurd p.by

pub tells_there : {C : Type 0} (placed : C → List ℕ → Placed) (m : Marking C) (left : List ℕ) → has_header m ≡ true → Tells placed m left (told_of m)
tells_there placed m left enough c taken bytes s =
    place_behind m.stage (spot_of placed c taken bytes m) left (is_spot placed c taken bytes m s) (inl enough)

-- AT THE FILE'S END
short_head : (xs : List ℕ) → length xs < 24 → header xs ≡ Unformed (damage (length xs) ShortHead)
short_head xs h =
    let short : nat_lt (length xs) 24 ≡ true = grind (arith, h) in
    ap (λ (b : Bool). if b then Unformed (damage (length xs) ShortHead) else header_in (form_of (word true xs 0)) xs) short

part_none : (f : Form) (count at : ℕ) (xs : List ℕ)
    → (length xs < 16) ⊎ ((r : RecordHead) × (headed f count at xs ≡ Some r) × (length xs < 16 + r.captured)) → whole (headed f count at xs) xs ≡ None
part_none f count at xs (inl short) =
    let less : nat_lt (length xs) 16 ≡ true = is_less (length xs) 16 short in
    let none : headed f count at xs ≡ None = rw (less) refl in
    none_whole (headed f count at xs) xs none
part_none f count at xs (inr x) =
    let r = x.0 in
    let cut : nat_lt (length xs) (16 + r.captured) ≡ true = is_less (length xs) (16 + r.captured) x.2 in
    ap (λ (o : Option RecordHead). whole o xs) x.1 ∙ ap (λ (b : Bool). if b then None else Some r) cut

cut_whole_by : (head : Head) (x : Spot) (left : List ℕ) (t : Standing) → stand_here head x ≡ t → IsSpot (Records head) x → length left ≡ 0
    → whole (headed (form head) x.course.count x.course.at x.pending) x.pending ≡ None → IsBehindSpot x left (stand_tells t x.course.at)
    → IsBehindSpot x left (told_last (stand_tells t x.course.at) x.course.at)
cut_whole_by head x left (stand.Headed stamp captured original) e p ended none h =
    let k = x.course in
    let nothing : left ≡ [] = nil_from_length left ended in
    let cut : step_of (stand.Headed stamp captured original) k.at x.pending ≡ capture.Fault (damage k.at ShortRecord) =
    cut_is_short (form head) k.count k.at x.pending stamp captured original e none in
    records_whole head x left (capture.Fault (damage k.at ShortRecord)) p
    (step_is head x left (stand.Headed stamp captured original) p (inr ended) e
    ∙ ap (λ (l : List ℕ). step_of (stand.Headed stamp captured original) k.at (x.pending ++ l)) nothing
    ∙ ap (λ (l : List ℕ). step_of (stand.Headed stamp captured original) k.at l) (append-nil x.pending) ∙ cut)
cut_whole_by head x left stand.End e p ended none h = h
cut_whole_by head x left stand.Limit e p ended none h = h
cut_whole_by head x left (stand.Damaged kind) e p ended none h = h

last_behind : (s : Stage) (x : Spot) (left : List ℕ) → IsSpot s x → IsPart s x.course x.pending → length left ≡ 0
    → IsBehindSpot x left (told_at s x.course x.pending) → IsBehindSpot x left (told_last (told_at s x.course x.pending) x.course.at)
last_behind Start x left p part ended h =
    let e : head_tells (header x.pending) ≡ behind.Damaged (damage (length x.pending) ShortHead) = ap head_tells (short_head x.pending part) in
    subst (λ (b : Behind). IsBehindSpot x left (told_last b x.course.at)) (sym e) (subst (IsBehindSpot x left) e h)
last_behind (Records head) x left p part ended h =
    cut_whole_by head x left (stand_here head x) refl p ended (part_none (form head) x.course.count x.course.at x.pending part) h
last_behind Rest x left p part ended h = absurd part

pub tells_last : {C : Type 0} (placed : C → List ℕ → Placed) (m : Marking C) (left : List ℕ) → Waits m → length left ≡ 0
    → Tells placed m left (told_last (told_of m) m.course.at)
tells_last placed m left w ended c taken bytes s =
    let x = spot_of placed c taken bytes m in
    let p = is_spot placed c taken bytes m s in
    last_behind m.stage x left p w.part ended (place_behind m.stage x left p (inr ended))

-- MORE IS NEEDED
abbrev head_tests : (b c d e f : Bool) → RecordHead → Option RecordHead
head_tests b c d e f r = if c then None else if b then None else if d then None else if e then None else if f then None else Some r

not_more_by : (a b c d e f : Bool) (at : ℕ) (r : RecordHead) → c ≡ false → head_tests b c d e f r ≡ None → stand_tells (stand_tests a b c d e f r) at ≡ behind.More → ⊥
not_more_by true b c d e f at r is n h = cc
not_more_by false true c d e f at r is n h = cc
not_more_by false false true d e f at r is n h = cc
not_more_by false false false true e f at r is n h = cc
not_more_by false false false false true f at r is n h = cc
not_more_by false false false false false true at r is n h = cc
not_more_by false false false false false false at r is n h = cc

told_not_more : (f : Form) (count at : ℕ) (xs : List ℕ) → 16 ≤ length xs → headed f count at xs ≡ None → stand_tells (stand_at f count at xs) at ≡ behind.More → ⊥
told_not_more f count at xs long none more =
    not_more_by (length xs == 0) (count == most_records) (nat_lt (length xs) 16)
    (nat_lt longest (word f.big xs 8) || nat_lt longest (word f.big xs 12))
    ((word f.big xs 8 == 0) && (word f.big xs 12 == 0)) (nat_lt most_bytes (at + 16 + word f.big xs 8)) at
    (record { stamp = stamp f xs 0; captured = word f.big xs 8; original = word f.big xs 12 })
    (grind (arith, long)) none more

damaged_not_more : (h : Header) (d : Damage) → h ≡ Unformed d → head_tells h ≡ behind.More → ⊥
damaged_not_more h d e more =
    let no : behind.Damaged d ≡ behind.More = sym (ap head_tells e) ∙ more in cc

not_refused : (s : Stage) (k : Course) (xs : List ℕ) → IsNone s k xs → has_header_at s xs ≡ true → told_at s k xs ≡ behind.More → ⊥
not_refused Start k xs n there more = damaged_not_more (header xs) n.1.0 n.1.1 more
not_refused (Records head) k xs n there more = told_not_more (form head) k.count k.at xs n.0 n.1 more
not_refused Rest k xs n there more = cc

no_header_none : (s : Stage) (k : Course) (xs : List ℕ) → IsNone s k xs → has_header_at s xs ≡ false → ⊥
no_header_none Start k xs n there = let t : nat_le 24 (length xs) ≡ true = grind (arith, n.0) in cc
no_header_none (Records head) k xs n there = let t : nat_le 16 (length xs) ≡ true = grind (arith, n.0) in cc
no_header_none Rest k xs n there = cc

pub waits_short : {C : Type 0} (m : Marking C) → Waits m ⊎ IsRefused m → has_header m ≡ false → Waits m
waits_short m (inl w) short = w
waits_short m (inr n) short = absurd (no_header_none m.stage m.course m.held.pending n short)

pub waits_more : {C : Type 0} (m : Marking C) → Waits m ⊎ IsRefused m → has_header m ≡ true → told_of m ≡ behind.More → Waits m
waits_more m (inl w) there more = w
waits_more m (inr n) there more = absurd (not_refused m.stage m.course m.held.pending n there more)

not_last_more : (b : Behind) (at : ℕ) → told_last b at ≡ behind.More → ⊥
not_last_more behind.More at h = cc
not_last_more behind.End at h = cc
not_last_more (behind.Damaged d) at h = cc
not_last_more behind.Limit at h = cc

pub last_not_more : (b : Behind) (at : ℕ) {A : Type 0} → told_last b at ≡ behind.More → A
last_not_more b at h = absurd (not_last_more b at h)

-- A READ FAILED: what was given is whole by what was taken
cut_at : (s : Stage) (x : Spot) → IsSpot s x → IsPart s x.course x.pending → (last : Step) × IsLast last × AreWhole x.conditioning x.taken last x.given
cut_at Start x p part =
    let d = damage (length x.pending) ShortHead in (
      capture.Fault d,
      tt,
      subst (λ (l : List ℕ). AreWhole x.conditioning l (capture.Fault d) x.given) (append-nil x.taken)
          (head_whole x [] d p (short_head x.pending part) (inr refl)),
    )
cut_at (Records head) x p part =
    let f = form head in
    let k = x.course in
    let taken = x.taken in
    let last = step f taken k.count k.at in
    let here : x.pending ≡ drop k.at taken = p.pending ∙ ap (λ (n : ℕ). drop n taken) (sym p.by.at) in
    let none : whole (headed f k.count k.at (drop k.at taken)) (drop k.at taken) ≡ None =
    subst (λ (l : List ℕ). whole (headed f k.count k.at l) l ≡ None) here (part_none f k.count k.at x.pending part) in (
      last,
      none_is_last f taken k.count k.at (omega (arith, p.by.at, p.many)) none,
      subst (λ (l : List ℕ). AreWhole x.conditioning l last x.given) (append-nil taken)
          (records_whole head x [] last p (ap (λ (l : List ℕ). step f l k.count k.at) (append-nil taken))),
    )
cut_at Rest x p part = absurd part

pub cut_whole : {C : Type 0} (placed : C → List ℕ → Placed) (c : Conditioning) (taken bytes : List ℕ) (m : Marking C) → IsAtRecordEnd placed c taken bytes m → Waits m
    → length m.held.ready ≡ 0 → (last : Step) × IsLast last × AreWhole c taken last bytes
cut_whole placed c taken bytes m s w none =
    let x = cut_at m.stage (spot_of placed c taken bytes m) (is_spot placed c taken bytes m s) w.part in
    let given : bytes ++ m.held.ready ≡ bytes = ap (λ (l : List ℕ). bytes ++ l) (nil_from_length m.held.ready none) ∙ append-nil bytes in
    (x.0, x.1, subst (λ (l : List ℕ). AreWhole c taken x.0 l) given x.2)

pub tells_as : {C : Type 0} (placed : C → List ℕ → Placed) (m : Marking C) (left : List ℕ) (a b : Behind) → a ≡ b → Tells placed m left b → Tells placed m left a
tells_as placed m left a b e h = subst (Tells placed m left) (sym e) h

abbrev got : Result Behind Trouble → Behind
got (Ok b) = b
got (Err t) = behind.End

pub same_ok : (r : Result Behind Trouble) (a b : Behind) → r ≡ Ok a → r ≡ Ok b → a ≡ b
same_ok r a b h k = sym (ap got h) ∙ ap got k
