-- What a turn of a marker advances to, by what the marker holds before it.
use Rattle.std.proofs.Common.{◌≡◌, ◌≤◌, ◌<◌, ◌+◌, ◌∙◌, ap, ℕ, List, [], ◌++◌, length, take, drop, refl, arith, sym, subst, inl, inr, length-append, length-take, length-drop}
use Rattle.std.specs.Prelude.{◌⊎◌, true, false, Some, None, max}
use Rattle.altq_model.specs.declared.Placed.{Placed}
use Rattle.capture_model.specs.declared.damage.Damage.{Damage}
use Rattle.capture_model.specs.Capture.{Formed, Unformed, header, most_records}
use Rattle.pcap_files.specs.Forms.{form}
use Rattle.pcap_files.specs.declared.form.Head.{Head}
use Rattle.traffic_meter.specs.History.{Metered}
use Rattle.marked_files.specs.Courses.{Course, frame_in, made, marked_record, packet_of, passed}
use Rattle.marked_files.specs.Heads.{headed}
use Rattle.marked_files.specs.Markings.{Marking, given}
use Rattle.marked_files.specs.Metering.{frame_by, meter_of, meters_after}
use Rattle.marked_files.specs.Taking.{HasPassed, HoldsNone, IsStuck, KeepsGiven, holds}
use Rattle.marked_files.specs.declared.record_head.RecordHead.{RecordHead}
use Rattle.marked_files.specs.declared.stage.Stage.{Stage}
use Rattle.marked_files.specs.declared.stage.Stage.TheVariants.{Start, Records, Rest}
use Rattle.marked_files.proofs.Meters.{length-frame_by}
use Rattle.marked_files.proofs.Passing.{head_damaged, head_given, record_given, record_refused}
use Rattle.marked_files.proofs.Steps.{not_whole}

-- one marking is another, part by part
pub record IsSame {C : Type 0} (n o : Marking C) : Type 0 where
  pub stage : n.stage ≡ o.stage
  pub course : n.course ≡ o.course
  pub ready : n.held.ready ≡ o.held.ready
  pub pending : n.held.pending ≡ o.held.pending
  pub classes : n.classes ≡ o.classes

pub same_marking : {C : Type 0} (n o : Marking C) → IsSame n o → n ≡ o
same_marking {C = C} n o s =
    ap {B = Marking C} (λ (t : Stage). record n { stage = t }) s.stage
    ∙ ap {B = Marking C} (λ (k : Course). record n { stage = o.stage; course = k }) s.course
    ∙ ap {B = Marking C} (λ (l : List ℕ). record o { classes = n.classes; held = record { ready = l; pending = n.held.pending } }) s.ready
    ∙ ap {B = Marking C} (λ (l : List ℕ). record o { classes = n.classes; held = record { ready = o.held.ready; pending = l } }) s.pending
    ∙ ap {B = Marking C} (λ (x : C). record o { classes = x }) s.classes

-- what is said of a marking and of what it comes to is said of two markings that these are
pub said_by : {C : Type 0} (R : Marking C → Marking C → Type 0) (w m n : Marking C) (to : Marking C → Marking C) → w ≡ m → IsSame n (to w) → R w (to w) → R m n
said_by R w m n to is same h = subst (λ x. R x n) is (subst (R w) (sym (same_marking n (to w) same)) h)

-- WHAT A TURN ADVANCES TO: behind the head of a capture
abbrev pub past_head : {C : Type 0} → Marking C → Head → Marking C
past_head m head = record m { stage = Records head; held = record { ready = m.held.ready ++ take 24 m.held.pending; pending = drop 24 m.held.pending } }

-- behind a record
abbrev pub past_record : {C : Type 0} → (C → List ℕ → Placed) → Marking C → RecordHead → Marking C
past_record placed m r =
    let xs = m.held.pending in
    record m {
      course = passed (placed m.classes) m.course r xs;
      held = record { ready = m.held.ready ++ marked_record (placed m.classes) m.course r xs; pending = drop (16 + r.captured) xs };
    }

-- at bytes that no mark changes
abbrev pub at_rest : {C : Type 0} → Marking C → Marking C
at_rest m = record m { stage = Rest }

-- and to markings that hold other bytes: all of them are ready
abbrev pub all_ready : {C : Type 0} → Marking C → Marking C
all_ready m = record m { stage = Rest; held = record { ready = m.held.ready ++ m.held.pending; pending = [] } }

-- none is ready, and these came behind those that are pending
abbrev pub with_more : {C : Type 0} → Marking C → (more : List ℕ) → Marking C
with_more m more = record m { held = record { ready = []; pending = m.held.pending ++ more } }

-- these are ready
abbrev pub with_ready : {C : Type 0} → Marking C → (ready : List ℕ) → Marking C
with_ready m ready = record m { held = record { ready = ready; pending = m.held.pending } }

-- WHAT STANDS AT THE FRONT OF THE BYTES THAT ARE PENDING: the head of a capture
pub record NextIsHead {C : Type 0} (m : Marking C) (head : Head) : Type 0 where
  pub start : m.stage ≡ Start
  pub long : 24 ≤ length m.held.pending
  pub formed : header m.held.pending ≡ Formed (form head)

-- a whole record
pub record NextIsRecord {C : Type 0} (m : Marking C) (head : Head) (r : RecordHead) : Type 0 where
  pub records : m.stage ≡ Records head
  pub less : m.course.count < most_records
  pub found : headed (form head) m.course.count m.course.at m.held.pending ≡ Some r
  pub long : 16 + r.captured ≤ length m.held.pending

-- the header of a record that is not whole
pub record NextIsPart {C : Type 0} (m : Marking C) (head : Head) (r : RecordHead) : Type 0 where
  pub records : m.stage ≡ Records head
  pub found : headed (form head) m.course.count m.course.at m.held.pending ≡ Some r
  pub cut : length m.held.pending < 16 + r.captured
  pub short : r.captured ≤ 262144

-- no record that the format allows
pub record NextIsNone {C : Type 0} (m : Marking C) (head : Head) : Type 0 where
  pub records : m.stage ≡ Records head
  pub long : 16 ≤ length m.held.pending
  pub none : headed (form head) m.course.count m.course.at m.held.pending ≡ None

-- no head that the format allows
pub record NextIsFault {C : Type 0} (m : Marking C) (d : Damage) : Type 0 where
  pub start : m.stage ≡ Start
  pub long : 24 ≤ length m.held.pending
  pub unformed : header m.held.pending ≡ Unformed d

-- the same is given where it is by the stage
keeps : {C : Type 0} (placed : C → List ℕ → Placed) (m n : Marking C) (s : Stage) → m.stage ≡ s → n.classes ≡ m.classes
    → ((left : List ℕ) → given placed n left ≡ m.held.ready ++ made s (placed m.classes) m.course (m.held.pending ++ left))
    → holds n ≡ holds m → KeepsGiven placed m n
keeps placed m n s at classes same many = record {
  same = λ left. same left ∙ ap (λ (u : Stage). m.held.ready ++ made u (placed m.classes) m.course (m.held.pending ++ left)) (sym at);
  classes = classes;
  many = many;
}

no_true : false ≡ true → ⊥
no_true h = cc

no_false : true ≡ false → ⊥
no_false h = cc

-- a turn that made bytes ready
passes : {C : Type 0} (placed : C → List ℕ → Placed) (m n : Marking C) → KeepsGiven placed m n → length n.held.pending < length m.held.pending → HasPassed placed true m n
passes placed m n k fewer = record { keeps = k; fewer = λ h. fewer; stuck = λ h. absurd (no_false h) }

-- a turn that made none ready
waits : {C : Type 0} (placed : C → List ℕ → Placed) (m n : Marking C) → KeepsGiven placed m n → IsStuck n ⊎ (n.stage ≡ Rest) → HasPassed placed false m n
waits placed m n k s = record { keeps = k; fewer = λ h. absurd (no_true h); stuck = λ h. s }

-- a turn after which no byte is to be marked
rests : {C : Type 0} (placed : C → List ℕ → Placed) (m : Marking C) (s : Stage) → m.stage ≡ s
    → ((left : List ℕ) → given placed (at_rest m) left ≡ m.held.ready ++ made s (placed m.classes) m.course (m.held.pending ++ left))
    → HasPassed placed false m (at_rest m)
rests placed m s at same = waits placed m (at_rest m) (keeps placed m (at_rest m) s at refl same refl) (inr refl)

pub keeps_refl : {C : Type 0} (placed : C → List ℕ → Placed) (m : Marking C) → KeepsGiven placed m m
keeps_refl placed m = record { same = λ left. refl; classes = refl; many = refl }

pub head_passes : {C : Type 0} (placed : C → List ℕ → Placed) (m : Marking C) (head : Head) → NextIsHead m head → HasPassed placed true m (past_head m head)
head_passes placed m head h =
    let ready = m.held.ready in
    let xs = m.held.pending in
    passes placed m (past_head m head)
    (keeps placed m (past_head m head) Start h.start refl
    (λ left. head_given (placed m.classes) m.course ready xs left head h.long h.formed)
    (omega (arith, h.long, length-append ready (take 24 xs), length-take 24 xs, length-drop 24 xs)))
    (omega (arith, h.long, length-drop 24 xs))

pub head_fails : {C : Type 0} (placed : C → List ℕ → Placed) (m : Marking C) (d : Damage) → NextIsFault m d → HasPassed placed false m (at_rest m)
head_fails placed m d h = rests placed m Start h.start (λ left. head_damaged (placed m.classes) m.course m.held.ready m.held.pending left d h.long h.unformed)

pub length-marked_record : (place : List ℕ → Placed) (c : Course) (r : RecordHead) (xs : List ℕ) → 16 + r.captured ≤ length xs
    → length (marked_record place c r xs) ≡ 16 + r.captured
length-marked_record place c r xs long =
    let frame = frame_in r xs in
    let meter = meter_of c.meters (place frame).class in
    omega (
      arith,
      long,
      length-append (take 16 xs) (frame_by meter (packet_of c r) frame),
      length-frame_by meter (packet_of c r) frame,
      length-take 16 xs,
      length-take r.captured (drop 16 xs),
      length-drop 16 xs,
    )

pub record_passes : {C : Type 0} (placed : C → List ℕ → Placed) (m : Marking C) (head : Head) (r : RecordHead) → NextIsRecord m head r
    → HasPassed placed true m (past_record placed m r)
record_passes placed m head r h =
    let ready = m.held.ready in
    let xs = m.held.pending in
    let p = placed m.classes in
    let same = length-marked_record p m.course r xs h.long in
    passes placed m (past_record placed m r)
    (keeps placed m (past_record placed m r) (Records head) h.records refl
    (λ left.
    ap (λ (s : Stage). (ready ++ marked_record p m.course r xs) ++ made s p (passed p m.course r xs) (drop (16 + r.captured) xs ++ left)) h.records
    ∙ record_given p m.course ready xs left head r h.less h.found h.long)
    (omega (arith, h.long, same, length-append ready (marked_record p m.course r xs), length-drop (16 + r.captured) xs)))
    (omega (arith, h.long, length-drop (16 + r.captured) xs))

pub record_fails : {C : Type 0} (placed : C → List ℕ → Placed) (m : Marking C) (head : Head) → NextIsNone m head → HasPassed placed false m (at_rest m)
record_fails placed m head h =
    rests placed m (Records head) h.records (λ left. record_refused (placed m.classes) m.course m.held.ready m.held.pending left head h.long h.none)

pub record_waits : {C : Type 0} (placed : C → List ℕ → Placed) (m : Marking C) (head : Head) (r : RecordHead) → NextIsPart m head r → HasPassed placed false m m
record_waits placed m head r h =
    let none = not_whole (form head) m.course m.held.pending r h.found h.cut in
    waits placed m m (keeps_refl placed m) (inl (record {
      none = subst (λ (s : Stage). HoldsNone s m.course m.held.pending) (sym h.records) none;
      room = omega (arith, h.cut, h.short);
    }))

-- what the code calls a meter with
pub record IsPacket (place : List ℕ → Placed) (c : Course) (r : RecordHead) (xs : List ℕ) (class : ℕ) (a : Metered) : Type 0 where
  pub class_is : class ≡ (place (frame_in r xs)).class
  pub moment_is : a.moment ≡ max c.latest r.stamp
  pub len_is : a.len ≡ max r.original r.captured

packet_is : (place : List ℕ → Placed) (c : Course) (r : RecordHead) (xs : List ℕ) (class : ℕ) (a : Metered) → IsPacket place c r xs class a → a ≡ packet_of c r
packet_is place c r xs class a i =
    ap (λ (n : ℕ). record a { moment = n }) i.moment_is ∙ ap (λ (n : ℕ). record { moment = max c.latest r.stamp; len = n }) i.len_is

pub metered_course : (place : List ℕ → Placed) (c : Course) (r : RecordHead) (xs : List ℕ) (class : ℕ) (a : Metered) (ms : List _) → IsPacket place c r xs class a
    → ms ≡ meters_after c.meters class a → record { count = c.count + 1; at = c.at + (16 + r.captured); latest = a.moment; meters = ms } ≡ passed place c r xs
metered_course place c r xs class a ms i after =
    let at : c.at + (16 + r.captured) ≡ c.at + 16 + r.captured = omega arith in
    let class_is = i.class_is in
    let packet = packet_is place c r xs class a i in
    rw (after, class_is, packet, at) refl

pub metered_record : (place : List ℕ → Placed) (c : Course) (r : RecordHead) (xs : List ℕ) (class : ℕ) (a : Metered) → IsPacket place c r xs class a
    → take 16 xs ++ frame_by (meter_of c.meters class) a (take r.captured (drop 16 xs)) ≡ marked_record place c r xs
metered_record place c r xs class a i =
    let class_is = i.class_is in
    let packet = packet_is place c r xs class a i in
    rw (class_is, packet) refl
