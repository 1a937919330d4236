-- A marker that stands somewhere in a capture stands further on once it has passed a head or a record, or taken more bytes.
use Rattle.std.proofs.Common.{◌≡◌, ◌≤◌, ◌+◌, ◌∙◌, ap, ℕ, List, [], ◌∷◌, ◌++◌, length, take, drop, refl, arith, sym, subst, inl, inr, append_assoc, append-nil, length-append, length-take, length-drop}
use Rattle.std.specs.Prelude.{Bool, true, false, IsSome, Some}
use Rattle.std.proofs.lemmas.Bool.{ltb-false}
use Rattle.std.proofs.lemmas.List.{drop-drop, drop-append-le, nil_from_length}
use Rattle.altq_model.specs.declared.Placed.{Placed}
use Rattle.capture_model.specs.declared.damage.Damage.{Damage}
use Rattle.capture_model.specs.Capture.{Form, Record, Formed, Next, Stand, header, place_after, step}
use Rattle.pcap_files.proofs.PrefixLemmas.{next_longer}
use Rattle.pcap_files.proofs.ReaderLemmas.{head_seen, place_after_more, stand_more, took_unchanged}
use Rattle.play_base.specs.View.{View, Took, Unchanged}
use Rattle.play_base.proofs.ViewLaws.{took_nothing}
use Rattle.pcap_files.specs.Forms.{form}
use Rattle.pcap_files.specs.declared.form.Head.{Head}
use Rattle.traffic_marks.specs.Marked.{Conditioning, marked}
use Rattle.traffic_marks.proofs.Steps.{formed_whole}
use Rattle.marked_files.specs.Courses.{Course, made, marked_record, passed}
use Rattle.marked_files.specs.Heads.{headed, whole}
use Rattle.marked_files.specs.Held.{PendingBytes}
use Rattle.marked_files.specs.Markings.{Marking, given}
use Rattle.marked_files.specs.Standing.{HasRecords, HasTakenOn, IsHalted, IsNone, IsPart, IsSameButStage, KeepsStanding, IsAtRecordEnd, StandsAt, reach, reach_at}
use Rattle.marked_files.specs.Taking.{HasPassed, KeepsGiven}
use Rattle.marked_files.specs.declared.record_head.RecordHead.{RecordHead}
use Rattle.marked_files.specs.declared.stage.Stage.{Stage}
use Rattle.marked_files.specs.declared.stage.Stage.TheVariants.{Start, Records, Rest}
use Rattle.marked_files.proofs.Advancing.{IsSame, NextIsFault, NextIsHead, NextIsNone, NextIsPart, NextIsRecord, at_rest, head_fails, head_passes, length-marked_record, past_head, past_record, record_fails, record_passes, record_waits, said_by, same_marking, with_more}
use Rattle.marked_files.proofs.Steps.{some_whole}
use Rattle.marked_files.proofs.Whole.{found_next}

-- what a turn that makes the first `k` pending bytes ready does to the place
abbrev pub MovesOn : (s t : Stage) (c d : Course) (xs : List ℕ) (k : ℕ) → Type 0
MovesOn s t c d xs k = (taken : List ℕ) (j : ℕ) → StandsAt s c taken j → xs ≡ drop j taken → length taken ≡ j + length xs → StandsAt t d taken (j + k)

pub stands_on : {C : Type 0} (placed : C → List ℕ → Placed) (m n : Marking C) (k : ℕ) → KeepsGiven placed m n → n.held.pending ≡ drop k m.held.pending
    → length n.held.ready ≡ length m.held.ready + k → MovesOn m.stage n.stage m.course n.course m.held.pending k
    → (c : Conditioning) (taken bytes : List ℕ) → IsAtRecordEnd placed c taken bytes m → IsAtRecordEnd placed c taken bytes n
stands_on placed m n k keeps pending ready moves c taken bytes s =
    let j = length bytes + length m.held.ready in
    let far : j + k ≡ length bytes + length n.held.ready = omega (arith, ready) in
    let many : length taken ≡ j + length m.held.pending = omega (arith, s.many) in
    record {
      many = omega (arith, s.many, keeps.many);
      pending = pending ∙ ap (drop k) s.pending ∙ drop-drop k j taken ∙ ap (λ (i : ℕ). drop i taken) far;
      by = subst (λ (i : ℕ). StandsAt n.stage n.course taken i) far (moves taken j s.by s.pending many);
      same = λ left. ap (λ (l : List ℕ). bytes ++ l) (keeps.same left) ∙ s.same left;
    }

-- where a marking stands, and how far it reaches, by its stage
stands_in : (s t : Stage) (c : Course) (taken : List ℕ) (j : ℕ) → s ≡ t → StandsAt s c taken j → StandsAt t c taken j
stands_in s t c taken j e h = subst (λ (u : Stage). StandsAt u c taken j) e h

reach_in : {C : Type 0} (m : Marking C) (s : Stage) → m.stage ≡ s → reach m ≡ reach_at s m.course + length m.held.pending
reach_in m s e = ap (λ (u : Stage). reach_at u m.course + length m.held.pending) e

-- the head
head_moves : (head : Head) (c : Course) (xs : List ℕ) → header xs ≡ Formed (form head) → MovesOn Start (Records head) c c xs 24
head_moves head c xs formed taken j at pending many =
    let here : xs ≡ taken = pending ∙ ap (λ (i : ℕ). drop i taken) at.0 in
    record {
      formed = ap header (sym here) ∙ formed;
      records = [];
      stand = tt;
      count = at.1;
      at = omega (arith, at.0, at.2);
      place = omega (arith, at.0);
    }

pub head_stands : {C : Type 0} (placed : C → List ℕ → Placed) (m : Marking C) (head : Head) → NextIsHead m head → KeepsStanding placed m (past_head m head)
head_stands placed m head h = record {
  stands = stands_on placed m (past_head m head) 24 (head_passes placed m head h).keeps refl
      (omega (arith, h.long, length-append m.held.ready (take 24 m.held.pending), length-take 24 m.held.pending))
      (λ taken i at pending many. head_moves head m.course m.held.pending h.formed taken i (stands_in m.stage Start m.course taken i h.start at) pending many);
  reach = omega (arith, h.long, length-drop 24 m.held.pending) ∙ sym (reach_in m Start h.start);
}

-- a record
record_moves : (place : List ℕ → Placed) (head : Head) (c : Course) (xs : List ℕ) (r : RecordHead) → headed (form head) c.count c.at xs ≡ Some r
    → 16 + r.captured ≤ length xs → MovesOn (Records head) (Records head) c (passed place c r xs) xs (16 + r.captured)
record_moves place head c xs r found long taken j at pending many =
    let f = form head in
    let here : xs ≡ drop c.at taken = pending ∙ ap (λ (i : ℕ). drop i taken) (sym at.at) in
    let stands : whole (headed f c.count c.at xs) xs ≡ Some r = some_whole (headed f c.count c.at xs) r xs found long in
    let there : whole (headed f c.count c.at (drop c.at taken)) (drop c.at taken) ≡ Some r =
    subst (λ (l : List ℕ). whole (headed f c.count c.at l) l ≡ Some r) here stands in
    let next = found_next f taken c.count c.at r (omega (arith, at.at, many)) there in
    let x = next.0 in
    let place_is : c.at ≡ place_after 24 at.records = at.at ∙ at.place in
    let step_is : step f taken (0 + length at.records) (place_after 24 at.records) ≡ Next x (place_after 24 at.records + 16 + length x.captured) =
    ap (λ (n : ℕ). step f taken n (place_after 24 at.records)) (omega (arith, at.count))
    ∙ ap (λ (n : ℕ). step f taken c.count n) (sym place_is) ∙ next.1
    ∙ ap (λ (n : ℕ). Next x (n + 16 + length x.captured)) place_is in
    record {
      formed = at.formed;
      records = at.records ++ x ∷ [];
      stand = stand_more f taken 0 24 at.records x at.stand step_is;
      count = omega (arith, at.count, length-append at.records (x ∷ []));
      at = omega (arith, at.at);
      place = omega (arith, at.place, place_after_more 24 at.records x, next.2);
    }

pub record_stands : {C : Type 0} (placed : C → List ℕ → Placed) (m : Marking C) (head : Head) (r : RecordHead) → NextIsRecord m head r
    → KeepsStanding placed m (past_record placed m r)
record_stands placed m head r h =
    let place = placed m.classes in
    let xs = m.held.pending in
    let d = passed place m.course r xs in
    record {
      stands = stands_on placed m (past_record placed m r) (16 + r.captured) (record_passes placed m head r h).keeps refl
          (omega (arith, length-marked_record place m.course r xs h.long, length-append m.held.ready (marked_record place m.course r xs)))
          (λ taken i at pending many.
          stands_in (Records head) m.stage d taken (i + (16 + r.captured)) (sym h.records)
          (record_moves place head m.course xs r h.found h.long taken i (stands_in m.stage (Records head) m.course taken i h.records at) pending many));
      reach =
          reach_in (past_record placed m r) (Records head) h.records
          ∙ omega (arith, h.long, length-drop (16 + r.captured) xs)
          ∙ sym (reach_in m (Records head) h.records);
    }

-- one after the other, and nothing
pub standing_trans : {C : Type 0} (placed : C → List ℕ → Placed) (a b c : Marking C) → KeepsStanding placed a b → KeepsStanding placed b c → KeepsStanding placed a c
standing_trans placed a b c x y = record {
  stands = λ k taken bytes s. y.stands k taken bytes (x.stands k taken bytes s);
  reach = y.reach ∙ x.reach;
}

pub standing_refl : {C : Type 0} (placed : C → List ℕ → Placed) (m : Marking C) → KeepsStanding placed m m
standing_refl placed m = record { stands = λ c taken bytes s. s; reach = refl }

-- nothing changes, since more bytes are needed, or what stands next does not go on
refuses : {C : Type 0} (m : Marking C) (s : Stage) → m.stage ≡ s → IsNone s m.course m.held.pending → IsHalted m (at_rest m)
refuses m s at none = record {
  same = record { course = refl; held = refl; classes = refl };
  why = inr (subst (λ (t : Stage). IsNone t m.course m.held.pending) (sym at) none);
}

record_halts : {C : Type 0} (m : Marking C) (head : Head) (r : RecordHead) → NextIsPart m head r → IsHalted m m
record_halts m head r h = record {
  same = record { course = refl; held = refl; classes = refl };
  why = inl (record {
    part = subst (λ (s : Stage). IsPart s m.course m.held.pending) (sym h.records) (inr (r, h.found, h.cut));
    room = omega (arith, h.cut, h.short);
  });
}

-- ALL THAT IS SAID OF A TURN: it made bytes ready or did not
pub record HasTurned {C : Type 0} (placed : C → List ℕ → Placed) (passed : Bool) (old new : Marking C) : Type 0 where
  pub next : HasPassed placed passed old new
  pub stands : passed ≡ true → KeepsStanding placed old new
  pub halts : passed ≡ false → IsHalted old new

not_false : true ≡ false → ⊥
not_false e = cc

not_true : false ≡ true → ⊥
not_true e = cc

turns : {C : Type 0} (placed : C → List ℕ → Placed) (m n : Marking C) → HasPassed placed true m n → KeepsStanding placed m n → HasTurned placed true m n
turns placed m n next stands = record { next = next; stands = λ e. stands; halts = λ e. absurd (not_false e) }

stops : {C : Type 0} (placed : C → List ℕ → Placed) (m n : Marking C) → HasPassed placed false m n → IsHalted m n → HasTurned placed false m n
stops placed m n next halts = record { next = next; stands = λ e. absurd (not_true e); halts = λ e. halts }

pub head_turns : {C : Type 0} (placed : C → List ℕ → Placed) (m : Marking C) (head : Head) → NextIsHead m head → HasTurned placed true m (past_head m head)
head_turns placed m head h = turns placed m (past_head m head) (head_passes placed m head h) (head_stands placed m head h)

pub head_stops : {C : Type 0} (placed : C → List ℕ → Placed) (m : Marking C) (d : Damage) → NextIsFault m d → HasTurned placed false m (at_rest m)
head_stops placed m d h = stops placed m (at_rest m) (head_fails placed m d h) (refuses m Start h.start (h.long, (d, h.unformed)))

pub record_turns : {C : Type 0} (placed : C → List ℕ → Placed) (m : Marking C) (head : Head) (r : RecordHead) → NextIsRecord m head r
    → HasTurned placed true m (past_record placed m r)
record_turns placed m head r h = turns placed m (past_record placed m r) (record_passes placed m head r h) (record_stands placed m head r h)

pub record_stops : {C : Type 0} (placed : C → List ℕ → Placed) (m : Marking C) (head : Head) → NextIsNone m head → HasTurned placed false m (at_rest m)
record_stops placed m head h = stops placed m (at_rest m) (record_fails placed m head h) (refuses m (Records head) h.records (h.long, h.none))

pub part_stops : {C : Type 0} (placed : C → List ℕ → Placed) (m : Marking C) (head : Head) (r : RecordHead) → NextIsPart m head r → HasTurned placed false m m
part_stops placed m head r h = stops placed m m (record_waits placed m head r h) (record_halts m head r h)

-- a turn that changed nothing, of a marking that another one is
pub stays_by : {C : Type 0} (R : Marking C → Marking C → Type 0) (w m : Marking C) → w ≡ m → R w w → R m m
stays_by R w m is h = subst (λ x. R x x) is h

-- what stands next is put back
pub standing_back : {C : Type 0} (placed : C → List ℕ → Placed) (m n : Marking C) → n.stage ≡ m.stage → IsSameButStage m n → KeepsStanding placed m n
standing_back placed m n stage s =
    let same : IsSame n m = record {
      stage = stage;
      course = s.course;
      ready = ap (λ (h : PendingBytes). h.ready) s.held;
      pending = ap (λ (h : PendingBytes). h.pending) s.held;
      classes = s.classes;
    } in
    subst (KeepsStanding placed m) (sym (same_marking n m same)) (standing_refl placed m)

-- MORE BYTES
stand_longer : (f : Form) (xs ys : List ℕ) (count at : ℕ) (rs : List Record) → Stand f xs count at rs → Stand f (xs ++ ys) count at rs
stand_longer f xs ys count at [] s = tt
stand_longer f xs ys count at (r ∷ rs) s =
    (next_longer f xs ys count at r (at + 16 + length r.captured) s.0, stand_longer f xs ys (count + 1) (at + 16 + length r.captured) rs s.1)

pub records_longer : (f : Form) (c : Course) (taken more : List ℕ) (n : ℕ) → HasRecords f c taken n → HasRecords f c (taken ++ more) n
records_longer f c taken more n h =
    let long : 24 ≤ length taken = ltb-false (length taken) 24 (formed_whole taken f h.formed) in
    record {
      formed = head_seen taken more (inl long) ∙ h.formed;
      records = h.records;
      stand = stand_longer f taken more 0 24 h.records h.stand;
      count = h.count;
      at = h.at;
      place = h.place;
    }

stands_longer : (s : Stage) (c : Course) (taken more : List ℕ) (n : ℕ) → StandsAt s c taken n → StandsAt s c (taken ++ more) n
stands_longer Start c taken more n h = h
stands_longer (Records head) c taken more n h = records_longer (form head) c taken more n h
stands_longer Rest c taken more n h = h

pub more_stands : {C : Type 0} (placed : C → List ℕ → Placed) (m : Marking C) (more : List ℕ) → length m.held.ready ≡ 0
    → (c : Conditioning) (taken bytes : List ℕ) → IsAtRecordEnd placed c taken bytes m → IsAtRecordEnd placed c (taken ++ more) bytes (with_more m more)
more_stands placed m more none c taken bytes s =
    let i = length bytes + length m.held.ready in
    let ready : m.held.ready ≡ [] = nil_from_length m.held.ready none in
    let same : i ≡ length bytes + 0 = omega (arith, none) in
    let within : i ≤ length taken = omega (arith, s.many) in
    record {
      many = omega (arith, s.many, none, length-append m.held.pending more, length-append taken more);
      pending = ap (λ (l : List ℕ). l ++ more) s.pending ∙ sym (drop-append-le i taken more within) ∙ ap (λ (k : ℕ). drop k (taken ++ more)) same;
      by = subst (λ (k : ℕ). StandsAt m.stage m.course (taken ++ more) k) same (stands_longer m.stage m.course taken more i s.by);
      same = λ left.
          ap (λ (l : List ℕ). bytes ++ l)
          (ap (λ (l : List ℕ). made m.stage (placed m.classes) m.course l) (append_assoc m.held.pending more left)
          ∙ ap (λ (l : List ℕ). l ++ made m.stage (placed m.classes) m.course (m.held.pending ++ (more ++ left))) (sym ready))
          ∙ s.same (more ++ left)
          ∙ ap (marked c) (sym (append_assoc taken more left));
    }

-- before a byte was passed
pub begun_stands : {C : Type 0} (placed : C → List ℕ → Placed) (c : Conditioning) (first : List ℕ) (m : Marking C) → m.stage ≡ Start → m.course.count ≡ 0
    → m.course.at ≡ 24 → m.held.ready ≡ [] → m.held.pending ≡ first → ((left : List ℕ) → given placed m left ≡ marked c (first ++ left))
    → IsAtRecordEnd placed c first [] m
begun_stands placed c first m start count at ready pending same =
    let none : length m.held.ready ≡ 0 = ap length ready in
    let far : 0 ≡ length {A = ℕ} [] + length m.held.ready = omega (arith, none) in
    record {
      many = omega (arith, none, ap length pending);
      pending = pending ∙ ap (λ (k : ℕ). drop k first) far;
      by = subst (λ (k : ℕ). StandsAt m.stage m.course first k) far (stands_in Start m.stage m.course first 0 (sym start) (refl, count, at));
      same = same;
    }

-- bytes were taken behind those that are pending
pub more_taken : {C : Type 0} (placed : C → List ℕ → Placed) (v w : View) (file : ℕ) (m : Marking C) (more : List ℕ) → Took v w file more
    → length m.held.ready ≡ 0 → HasTakenOn placed v w file m (with_more m more)
more_taken placed v w file m more took none = record { more = more; took = took; stands = more_stands placed m more none }

pub passed_on : {C : Type 0} (placed : C → List ℕ → Placed) (v w : View) (file : ℕ) (m n o : Marking C) → HasTakenOn placed v w file m n → KeepsStanding placed n o
    → HasTakenOn placed v w file m o
passed_on placed v w file m n o x y = record {
  more = x.more;
  took = x.took;
  stands = λ c taken bytes s. y.stands c (taken ++ x.more) bytes (x.stands c taken bytes s);
}

-- nothing was taken
pub none_taken : {C : Type 0} (placed : C → List ℕ → Placed) (v w : View) (file : ℕ) (m : Marking C) → IsSome (v.part file) → Unchanged v w → HasTakenOn placed v w file m m
none_taken placed v w file m there u = record {
  more = [];
  took = took_unchanged v v w file [] there (took_nothing v file) u;
  stands = λ c taken bytes s. subst (λ (l : List ℕ). IsAtRecordEnd placed c l bytes m) (sym (append-nil taken)) s;
}

pub reach_by : {C : Type 0} (w m n : Marking C) (more : List ℕ) (k : ℕ) → w ≡ m → IsSame n (with_more w more) → length more ≡ k → reach n ≡ reach m + k
reach_by w m n more k is same many =
    said_by (λ a b. reach b ≡ reach a + k) w m n (λ x. with_more x more) is same (omega (arith, many, length-append w.held.pending more))

-- the same marking where nothing was ready and nothing came
pub same_still : {C : Type 0} (m n : Marking C) (more : List ℕ) → IsSame n (with_more m more) → length m.held.ready ≡ 0 → length more ≡ 0 → IsSame n m
same_still m n more same none ended = record {
  stage = same.stage;
  course = same.course;
  ready = same.ready ∙ sym (nil_from_length m.held.ready none);
  pending = same.pending ∙ ap (λ (l : List ℕ). m.held.pending ++ l) (nil_from_length more ended) ∙ append-nil m.held.pending;
  classes = same.classes;
}
