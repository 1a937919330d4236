-- What becomes of a whole capture as it is read is the marked capture.
use Rattle.std.proofs.Common.{◌≡◌, ◌≤◌, ◌<◌, ◌+◌, ◌∙◌, ap, ℕ, List, [], ◌∷◌, ◌++◌, length, take, drop, refl, arith, sym, subst, inr, append-nil, append_assoc, length-take, length-drop}
use Rattle.std.specs.Prelude.{◌==◌, ◌||◌, ◌&&◌, max, nat_lt, if◌then◌else◌, Bool, true, false, Option, Some, None}
use Rattle.std.proofs.lemmas.Bool.{ltb-false}
use Rattle.std.proofs.lemmas.List.{drop-drop, take-append-drop}
use Rattle.altq_model.specs.declared.Placed.{Placed}
use Rattle.altq_model.specs.Arrivals.{Captured, arrivals_from}
use Rattle.capture_model.specs.declared.damage.DamageKind.TheVariants.{ShortRecord, EmptyRecord, LongRecord}
use Rattle.capture_model.specs.Capture.{Form, Header, Formed, Unformed, Outcome, Record, Step, IsLast, ReadsFrom, Stand, header, longest, most_bytes, most_records, outcome, outcome_from, place_after, stamp, step, word}
use Rattle.capture_model.specs.Capture as capture
use Rattle.capture_model.proofs.OutcomeLemmas.{next_place, outcome_ends, reads_outcome}
use Rattle.pcap_files.proofs.PlaceLemmas.{step_here}
use Rattle.pcap_files.specs.Stand.{stand_at, step_of}
use Rattle.pcap_files.specs.declared.stand.Stand.{Stand as Standing}
use Rattle.pcap_files.specs.declared.stand.Stand.TheVariants.{End, Limit, Damaged, Headed}
use Rattle.traffic_marks.proofs.Lengths.{length-marked_frame}
use Rattle.traffic_marks.proofs.Steps.{formed_whole}
use Rattle.traffic_meter.specs.declared.rule.MeterRule.{MeterRule}
use Rattle.traffic_marks.specs.Marked.{frames, marked_frame, marked_frames, metered, rule_of, with_frames}
use Rattle.marked_files.specs.Courses.{Course, MakesMarked, begun, behind_head, frame_in, marked_record, passed, records_from}
use Rattle.marked_files.specs.Heads.{headed, whole}
use Rattle.marked_files.specs.Metering.{conditioners_from, frame_by, meter_of, meters_after}
use Rattle.marked_files.specs.declared.record_head.RecordHead.{RecordHead}
use Rattle.marked_files.proofs.Meters.{frame_at, meters_at, new_at, one_more}
use Rattle.marked_files.proofs.Steps.{no_record, one_record}

abbrev arrival_of : (place : List ℕ → Placed) (latest : ℕ) → Record → Captured
arrival_of place latest r = record {
  at = max latest r.stamp;
  len = max r.original (length r.captured);
  class = (place r.captured).class;
  prec = (place r.captured).prec;
  bytes = r.captured;
  raised = nat_lt r.stamp latest;
}

-- how far a capture was read: the records that were, the place of the next, the greatest stamp so far, and the packets that came, the
-- newest first
record Past : Type 0 where
  pub count : ℕ
  pub at : ℕ
  pub latest : ℕ
  pub earlier : List Captured

-- the course after them
abbrev course_after : (rules : List (Option MeterRule)) → Past → Course
course_after rules k = record { count = k.count; at = k.at; latest = k.latest; meters = meters_at 0 rules k.earlier }

-- and one record further on
abbrev further : (place : List ℕ → Placed) → Past → Record → Past
further place k r = record {
  count = k.count + 1;
  at = k.at + 16 + length r.captured;
  latest = max k.latest r.stamp;
  earlier = arrival_of place k.latest r ∷ k.earlier;
}

-- the header of a record that was read
abbrev head_of : Record → RecordHead
head_of r = record { stamp = r.stamp; captured = length r.captured; original = r.original }

-- a record that stands in these bytes, after `count` others
record Found (count : ℕ) (xs : List ℕ) (r : Record) (found : Option RecordHead) : Type 0 where
  pub head : found ≡ Some (head_of r)
  pub frame : r.captured ≡ take (length r.captured) (drop 16 xs)
  pub more : (count == most_records) ≡ false

-- a record is found exactly where the reading has one
abbrev Agrees : Step → (count : ℕ) → (xs : List ℕ) → Option RecordHead → Type 0
Agrees (capture.Next r after) count xs found = Found count xs r found
Agrees capture.End count xs found = found ≡ None
Agrees (capture.Fault d) count xs found = found ≡ None
Agrees capture.Limit count xs found = found ≡ None

none_some_head : (r : RecordHead) → None ≡ Some r → ⊥
none_some_head r h = cc

not_both : true ≡ true → false ≡ true → ⊥
not_both a b = cc

-- behind all tests of the header
agree_whole : (g : Bool) (count at : ℕ) (xs : List ℕ) (stamp captured original : ℕ) → nat_lt (length xs) (16 + captured) ≡ g
    → (count == most_records) ≡ false
    → Agrees (if g then capture.Fault (capture.damage at ShortRecord) else capture.Next (record { stamp = stamp; captured = take captured (drop 16 xs); original = original }) (at + 16 + captured)) count xs
    (if g then None else Some (record { stamp = stamp; captured = captured; original = original }))
agree_whole true count at xs stamp captured original h more = refl
agree_whole false count at xs stamp captured original h more =
    let fits : 16 + captured ≤ length xs = ltb-false (length xs) (16 + captured) h in
    let long : length (take captured (drop 16 xs)) ≡ captured = omega (arith, fits, length-take captured (drop 16 xs), length-drop 16 xs) in
    record {
      head = ap (λ (n : ℕ). Some (record { stamp = stamp; captured = n; original = original })) (sym long);
      frame = ap (λ (n : ℕ). take n (drop 16 xs)) (sym long);
      more = more;
    }

-- the first three tests, which the reading makes in another order
agree_first : (none many short : Bool) (count at : ℕ) (xs : List ℕ) (there : Standing) (found : Option RecordHead) → (none ≡ true → short ≡ true)
    → (many ≡ false → Agrees (step_of there at xs) count xs (whole found xs))
    → Agrees (step_of (if none then End else if many then Limit else if short then Damaged ShortRecord else there) at xs) count xs
    (whole (if short then None else if many then None else found) xs)
agree_first true many true count at xs there found follows rest = refl
agree_first true many false count at xs there found follows rest = absurd (not_both refl (follows refl))
agree_first false true true count at xs there found follows rest = refl
agree_first false true false count at xs there found follows rest = refl
agree_first false false true count at xs there found follows rest = refl
agree_first false false false count at xs there found follows rest = rest refl

-- and each of the others: where it holds, the reading stops too
agree_test : (b : Bool) (stop there : Standing) (count at : ℕ) (xs : List ℕ) (found : Option RecordHead) → Agrees (step_of stop at xs) count xs None
    → Agrees (step_of there at xs) count xs (whole found xs)
    → Agrees (step_of (if b then stop else there) at xs) count xs (whole (if b then None else found) xs)
agree_test true stop there count at xs found none rest = none
agree_test false stop there count at xs found none rest = rest

none_short : (xs : List ℕ) → (length xs == 0) ≡ true → nat_lt (length xs) 16 ≡ true
none_short xs h = grind (arith, h)

agrees : (form : Form) (count at : ℕ) (xs : List ℕ) → Agrees (step_of (stand_at form count at xs) at xs) count xs (whole (headed form count at xs) xs)
agrees form count at xs =
    let captured = word form.big xs 8 in
    let original = word form.big xs 12 in
    agree_first (length xs == 0) (count == most_records) (nat_lt (length xs) 16) count at xs _ _ (none_short xs) (λ more.
    agree_test (nat_lt longest captured || nat_lt longest original) (Damaged LongRecord) _ count at xs _ refl
    (agree_test ((captured == 0) && (original == 0)) (Damaged EmptyRecord) _ count at xs _ refl
    (agree_test (nat_lt most_bytes (at + 16 + captured)) Limit _ count at xs _ refl
    (agree_whole (nat_lt (length xs) (16 + captured)) count at xs (stamp form xs 0) captured original refl more))))

-- at a place of a capture
agrees_at : (form : Form) (bytes : List ℕ) (count at : ℕ) (s : Step) → at ≤ length bytes → step form bytes count at ≡ s
    → Agrees s count (drop at bytes) (whole (headed form count at (drop at bytes)) (drop at bytes))
agrees_at form bytes count at s within h =
    let here = step_here form bytes (drop at bytes) [] count at within (sym (append-nil (drop at bytes))) (inr refl) in
    subst (λ (t : Step). Agrees t count (drop at bytes) (whole (headed form count at (drop at bytes)) (drop at bytes))) (sym here ∙ h)
    (agrees form count at (drop at bytes))

same_head : (a b : RecordHead) → Some a ≡ Some b → a ≡ b
same_head a b h = cc

-- a header that is found is that of the record that the reading has there
found_by : (form : Form) (bytes : List ℕ) (count at : ℕ) (r : RecordHead) (s : Step) → step form bytes count at ≡ s
    → Agrees s count (drop at bytes) (whole (headed form count at (drop at bytes)) (drop at bytes))
    → whole (headed form count at (drop at bytes)) (drop at bytes) ≡ Some r
    → (x : Record) × (step form bytes count at ≡ capture.Next x (at + 16 + length x.captured)) × (length x.captured ≡ r.captured)
found_by form bytes count at r (capture.Next x after) e a found =
    let place = next_place form bytes count at x after e in
    let same : head_of x ≡ r = same_head (head_of x) r (sym a.head ∙ found) in
    (x, e ∙ ap (λ (n : ℕ). capture.Next x n) place.0, ap (λ (h : RecordHead). h.captured) same)
found_by form bytes count at r capture.End e a found = absurd (none_some_head r (sym a ∙ found))
found_by form bytes count at r (capture.Fault d) e a found = absurd (none_some_head r (sym a ∙ found))
found_by form bytes count at r capture.Limit e a found = absurd (none_some_head r (sym a ∙ found))

pub found_next : (form : Form) (bytes : List ℕ) (count at : ℕ) (r : RecordHead) → at ≤ length bytes
    → whole (headed form count at (drop at bytes)) (drop at bytes) ≡ Some r
    → (x : Record) × (step form bytes count at ≡ capture.Next x (at + 16 + length x.captured)) × (length x.captured ≡ r.captured)
found_next form bytes count at r within found =
    found_by form bytes count at r (step form bytes count at) refl (agrees_at form bytes count at (step form bytes count at) within refl) found

-- where no header of a whole record stands, the reading has no record
last_by : (s : Step) (count : ℕ) (xs : List ℕ) (found : Option RecordHead) → found ≡ None → Agrees s count xs found → IsLast s
last_by capture.End count xs found none h = tt
last_by (capture.Next r after) count xs found none h = absurd (none_some_head (head_of r) (sym none ∙ h.head))
last_by (capture.Fault d) count xs found none h = tt
last_by capture.Limit count xs found none h = tt

pub none_is_last : (form : Form) (bytes : List ℕ) (count at : ℕ) → at ≤ length bytes
    → whole (headed form count at (drop at bytes)) (drop at bytes) ≡ None → IsLast (step form bytes count at)
none_is_last form bytes count at within none =
    last_by (step form bytes count at) count (drop at bytes) _ none (agrees_at form bytes count at (step form bytes count at) within refl)

-- a record whose header is allowed and that does not stand whole is short
cut_by : (b : Bool) (count at : ℕ) (xs : List ℕ) (stamp captured original : ℕ) (found : Option RecordHead) → found ≡ None
    → Agrees (if b then capture.Fault (capture.damage at ShortRecord) else capture.Next (record { stamp = stamp; captured = take captured (drop 16 xs); original = original }) (at + 16 + captured)) count xs found
    → (if b then capture.Fault (capture.damage at ShortRecord) else capture.Next (record { stamp = stamp; captured = take captured (drop 16 xs); original = original }) (at + 16 + captured))
    ≡ capture.Fault (capture.damage at ShortRecord)
cut_by true count at xs stamp captured original found none a = refl
cut_by false count at xs stamp captured original found none a = absurd (none_some_head _ (sym none ∙ a.head))

pub cut_is_short : (form : Form) (count at : ℕ) (xs : List ℕ) (stamp captured original : ℕ) → stand_at form count at xs ≡ Headed stamp captured original
    → whole (headed form count at xs) xs ≡ None → step_of (Headed stamp captured original) at xs ≡ capture.Fault (capture.damage at ShortRecord)
cut_is_short form count at xs stamp captured original e none =
    cut_by (nat_lt (length xs) (16 + captured)) count at xs stamp captured original _ none
    (subst (λ (t : _). Agrees (step_of t at xs) count xs (whole (headed form count at xs) xs)) e (agrees form count at xs))

none_last : (s : Step) (count : ℕ) (xs : List ℕ) (found : Option RecordHead) → IsLast s → Agrees s count xs found → found ≡ None
none_last capture.End count xs found last h = h
none_last (capture.Next r after) count xs found last h = absurd last
none_last (capture.Fault d) count xs found last h = h
none_last capture.Limit count xs found last h = h

-- from a place on, where records stand
records_marked : (place : List ℕ → Placed) (rules : List (Option MeterRule)) (form : Form) (bytes : List ℕ) (rs : List Record) (last : Step) (k : Past)
    → k.at ≤ length bytes → k.count ≤ most_records → Stand form bytes k.count k.at rs
    → step form bytes (k.count + length rs) (place_after k.at rs) ≡ last → IsLast last
    → records_from place form (course_after rules k) (drop k.at bytes)
    ≡ with_frames (marked_frames (conditioners_from 0 rules) k.earlier (arrivals_from place k.latest rs)) (drop k.at bytes)
records_marked place rules form bytes [] last k within few stand ended is_last =
    let here : step form bytes k.count k.at ≡ last = ap (λ (n : ℕ). step form bytes n k.at) (omega arith) ∙ ended in
    no_record place form (course_after rules k) (drop k.at bytes)
    (none_last last k.count (drop k.at bytes) _ is_last (agrees_at form bytes k.count k.at last within here))
records_marked place rules form bytes (r ∷ rs) last k within few stand ended is_last =
    let xs = drop k.at bytes in
    let c = course_after rules k in
    let a = arrival_of place k.latest r in
    let head = head_of r in
    let next = further place k r in
    let found : Found k.count xs r (whole (headed form k.count k.at xs) xs) = agrees_at form bytes k.count k.at _ within stand.0 in
    let less : k.count < most_records = grind (arith, few, found.more) in
    let after = next_place form bytes k.count k.at r next.at stand.0 in
    let frame : frame_in head xs ≡ r.captured = sym found.frame in
    let f = marked_frame (rule_of (conditioners_from 0 rules) a.class) k.earlier a in
    let fs = marked_frames (conditioners_from 0 rules) next.earlier (arrivals_from place next.latest rs) in
    let long : length f ≡ length r.captured = length-marked_frame (rule_of (conditioners_from 0 rules) a.class) k.earlier a in
    let first : marked_record place c head xs ≡ take 16 xs ++ f =
    ap (λ (g : List ℕ). take 16 xs ++ frame_by (meter_of (meters_at 0 rules k.earlier) (place g).class) (metered a) g) frame
    ∙ ap (λ (g : List ℕ). take 16 xs ++ g) (frame_at 0 a.class rules a k.earlier (omega arith)) in
    let course : passed place c head xs ≡ course_after rules next =
    ap (λ (g : List ℕ). record {
      count = next.count;
      at = next.at;
      latest = next.latest;
      meters = meters_after (meters_at 0 rules k.earlier) (place g).class (metered a);
    }) frame
    ∙ ap (λ (ms : List _). record { count = next.count; at = next.at; latest = next.latest; meters = ms }) (one_more 0 a.class rules a k.earlier (omega arith)) in
    let behind : drop (16 + length r.captured) xs ≡ drop next.at bytes =
    drop-drop (16 + length r.captured) k.at bytes ∙ ap (λ (n : ℕ). drop n bytes) (omega arith) in
    let rest = records_marked place rules form bytes rs last next after.1 (omega (arith, less)) stand.1
    (ap (λ (n : ℕ). step form bytes n (place_after next.at rs)) (omega arith) ∙ ended) is_last in
    one_record place form c xs head less found.head
    ∙ ap (λ (m : List ℕ). m ++ records_from place form (passed place c head xs) (drop (16 + length r.captured) xs)) first
    ∙ ap (λ (d : Course). (take 16 xs ++ f) ++ records_from place form d (drop (16 + length r.captured) xs)) course
    ∙ ap (λ (l : List ℕ). (take 16 xs ++ f) ++ records_from place form (course_after rules next) l) behind
    ∙ ap (λ (l : List ℕ). (take 16 xs ++ f) ++ l) rest
    ∙ append_assoc (take 16 xs) f (with_frames fs (drop next.at bytes))
    ∙ ap (λ (l : List ℕ). take 16 xs ++ (f ++ with_frames fs l)) (sym behind)
    ∙ ap (λ (n : ℕ). take 16 xs ++ (f ++ with_frames fs (drop (16 + n) xs))) (sym long)

by_header : (h : Header) (place : List ℕ → Placed) (rules : List (Option MeterRule)) (bytes : List ℕ) → header bytes ≡ h
    → ReadsFrom h bytes (outcome_from h bytes).records (outcome_from h bytes).last → IsLast (outcome_from h bytes).last
    → behind_head h place (begun rules) bytes
    ≡ take 24 bytes ++ with_frames (frames (record { place = place; conditioners = conditioners_from 0 rules }) (outcome_from h bytes).records) (drop 24 bytes)
by_header (Unformed d) place rules bytes e reads last = sym (take-append-drop 24 bytes)
by_header (Formed form) place rules bytes e reads last =
    let rs = (outcome_from (Formed form) bytes).records in
    let long : 24 ≤ length bytes = ltb-false (length bytes) 24 (formed_whole bytes form e) in
    ap (λ (ms : List _). take 24 bytes ++ records_from place form (record { count = 0; at = 24; latest = 0; meters = ms }) (drop 24 bytes)) (new_at 0 rules)
    ∙ ap (λ (l : List ℕ). take 24 bytes ++ l)
    (records_marked place rules form bytes rs (outcome_from (Formed form) bytes).last (record { count = 0; at = 24; latest = 0; earlier = [] }) long (omega arith) reads.stand
    (ap (λ (n : ℕ). step form bytes n (place_after 24 rs)) (omega arith) ∙ reads.ended) last)

pub makes_marked : (place : List ℕ → Placed) (rules : List (Option MeterRule)) (bytes : List ℕ) → MakesMarked place rules bytes
makes_marked place rules bytes = by_header (header bytes) place rules bytes refl (reads_outcome bytes) (outcome_ends bytes)
