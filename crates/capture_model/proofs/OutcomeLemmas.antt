-- The outcome of a file is a reading of it.
use Rattle.std.specs.Prelude.{◌==◌, ◌&&◌, ◌||◌, nat_lt, nat_le, Bool, true, false, take, drop, if◌then◌else◌}
use Rattle.std.proofs.Common.{◌≡◌, ◌≤◌, ◌+◌, ◌∙◌, ℕ, zero, suc, List, [], length, refl, ap, sym, subst, arith, length-take, length-drop}
use Rattle.std.proofs.lemmas.Bool.{ltb-false, le-leb}
use Rattle.capture_model.specs.declared.damage.DamageKind.TheVariants.{ShortRecord, EmptyRecord, LongRecord}
use Rattle.capture_model.specs.Capture.{Form, Record, Step, End, Next, Fault, Limit, Header, Formed, Unformed, Outcome, IsLast, Stand, ReadsFrom, header, more, outcome, outcome_from, outcome_on, Reads, place_after, step, word, longest, most_records, most_bytes, damage, stamp}

-- an outcome is what stands from a place on: its records, each whole, and behind them its last step
pub record IsRead (form : Form) (bytes : List ℕ) (count at : ℕ) (o : Outcome) : Type 0 where
  pub stand : Stand form bytes count at o.records
  pub ended : step form bytes (count + length o.records) (place_after at o.records) ≡ o.last

-- where a test stops a reading, and a record stands there, the test failed
behind : (stops : Bool) (last rest : Step) (x : Record) (n : ℕ) → IsLast last → (if stops then last else rest) ≡ Next x n → (stops ≡ false) × (rest ≡ Next x n)
behind true last rest x n is h = absurd (subst IsLast h is)
behind false last rest x n is h = (refl, h)

-- the record that the head at a place tells, and the place after it
abbrev pub told_at : Form → List ℕ → (at : ℕ) → Step
told_at form bytes at =
    let captured = word form.big bytes (at + 8) in
    Next (record { stamp = stamp form bytes at; captured = take captured (drop (at + 16) bytes); original = word form.big bytes (at + 12) }) (at + 16 + captured)

-- a record stands at a place: what its head tells, and the tests that stop a reading failed
pub record IsNext (form : Form) (bytes : List ℕ) (count at : ℕ) (x : Record) (n : ℕ) : Type 0 where
  pub few : (count == most_records) ≡ false
  pub within : (nat_lt longest (word form.big bytes (at + 8)) || nat_lt longest (word form.big bytes (at + 12))) ≡ false
  pub some : ((word form.big bytes (at + 8) == 0) && (word form.big bytes (at + 12) == 0)) ≡ false
  pub room : nat_lt most_bytes (at + 16 + word form.big bytes (at + 8)) ≡ false
  pub whole : nat_lt (length bytes) (at + 16 + word form.big bytes (at + 8)) ≡ false
  pub told : told_at form bytes at ≡ Next x n

pub is_next : (form : Form) (bytes : List ℕ) (count at : ℕ) (x : Record) (n : ℕ) → step form bytes count at ≡ Next x n → IsNext form bytes count at x n
is_next form bytes count at x n h =
    let captured : ℕ = word form.big bytes (at + 8) in
    let original : ℕ = word form.big bytes (at + 12) in
    let not_end = behind (nat_le (length bytes) at) End _ x n tt h in
    let few = behind (count == most_records) Limit _ x n tt not_end.1 in
    let headed = behind (nat_lt (length bytes) (at + 16)) (Fault (damage at ShortRecord)) _ x n tt few.1 in
    let within = behind (nat_lt longest captured || nat_lt longest original) (Fault (damage at LongRecord)) _ x n tt headed.1 in
    let some = behind ((captured == 0) && (original == 0)) (Fault (damage at EmptyRecord)) _ x n tt within.1 in
    let room = behind (nat_lt most_bytes (at + 16 + captured)) Limit _ x n tt some.1 in
    let whole = behind (nat_lt (length bytes) (at + 16 + captured)) (Fault (damage at ShortRecord)) _ x n tt room.1 in
    record { few = few.0; within = within.0; some = some.0; room = room.0; whole = whole.0; told = whole.1 }

abbrev captured_of : Step → List ℕ
captured_of (Next r after) = r.captured
captured_of End = []
captured_of (Fault d) = []
captured_of Limit = []

abbrev after_of : Step → ℕ
after_of (Next r after) = after
after_of End = 0
after_of (Fault d) = 0
after_of Limit = 0

-- the place behind a record follows from how many bytes it captured, and lies within the file
pub next_place : (form : Form) (bytes : List ℕ) (count at : ℕ) (x : Record) (n : ℕ) → step form bytes count at ≡ Next x n
    → (n ≡ at + 16 + length x.captured) × (n ≤ length bytes)
next_place form bytes count at x n h =
    let captured : ℕ = word form.big bytes (at + 8) in
    let is = is_next form bytes count at x n h in
    let fits : at + 16 + captured ≤ length bytes = ltb-false (length bytes) (at + 16 + captured) is.whole in
    let place : at + 16 + captured ≡ n = ap after_of is.told in
    let same : take captured (drop (at + 16) bytes) ≡ x.captured = ap captured_of is.told in
    let long : length (take captured (drop (at + 16) bytes)) ≡ captured = omega (arith, length-take captured (drop (at + 16) bytes), length-drop (at + 16) bytes) in
    let size : length x.captured ≡ captured = sym (ap (length {A = ℕ}) same) ∙ long in
    (omega arith, omega arith)

where_end : (form : Form) (bytes : List ℕ) (count at : ℕ) (s : Step) → step form bytes count at ≡ s → IsRead form bytes count at (record { records = []; last = s })
where_end form bytes count at s h = record { stand = tt; ended = ap (λ (n : ℕ). step form bytes n at) (omega arith) ∙ h }

one_more : (form : Form) (bytes : List ℕ) (count at : ℕ) (x : Record) (n : ℕ) (o : Outcome) → step form bytes count at ≡ Next x n
    → IsRead form bytes (count + 1) n o → IsRead form bytes count at (more x o)
one_more form bytes count at x n o h r =
    let place = next_place form bytes count at x n h in
    record {
      stand = (h ∙ ap (λ (k : ℕ). Next x k) place.0, subst (λ (k : ℕ). Stand form bytes (count + 1) k o.records) place.0 r.stand);
      ended = ap (λ (k : ℕ). step form bytes k (place_after (at + 16 + length x.captured) o.records)) (omega arith)
          ∙ ap (λ (k : ℕ). step form bytes (count + 1 + length o.records) (place_after k o.records)) (sym place.0) ∙ r.ended;
    }

step_reads : (turns : ℕ) (form : Form) (bytes : List ℕ) (count at : ℕ)
    → ((n : ℕ) → IsRead form bytes (count + 1) n (outcome_on turns form bytes (count + 1) n))
    → (s : Step) → step form bytes count at ≡ s
    → IsRead form bytes count at (elim s [
      | End ↦ record { records = []; last = End }
      | Next r after ↦ more r (outcome_on turns form bytes (count + 1) after)
      | Fault fault ↦ record { records = []; last = Fault fault }
      | Limit ↦ record { records = []; last = Limit }
    ])
step_reads turns form bytes count at rest End h = where_end form bytes count at End h
step_reads turns form bytes count at rest (Next r after) h =
    one_more form bytes count at r after (outcome_on turns form bytes (count + 1) after) h (rest after)
step_reads turns form bytes count at rest (Fault d) h = where_end form bytes count at (Fault d) h
step_reads turns form bytes count at rest Limit h = where_end form bytes count at Limit h

-- however many turns are given, the outcome is a reading
outcome_reads : (turns : ℕ) (form : Form) (bytes : List ℕ) (count at : ℕ) → IsRead form bytes count at (outcome_on turns form bytes count at)
outcome_reads zero form bytes count at = where_end form bytes count at (step form bytes count at) refl
outcome_reads (suc turns) form bytes count at =
    step_reads turns form bytes count at (λ n. outcome_reads turns form bytes (count + 1) n) (step form bytes count at) refl

header_reads : (h : Header) (bytes : List ℕ) → ReadsFrom h bytes (outcome_from h bytes).records (outcome_from h bytes).last
header_reads (Formed form) bytes =
    let r = outcome_reads (length bytes) form bytes 0 24 in
    record { stand = r.stand; ended = ap (λ (n : ℕ). step form bytes n (place_after 24 (outcome_on (length bytes) form bytes 0 24).records)) (omega arith) ∙ r.ended }
header_reads (Unformed fault) bytes = (refl, refl)

-- every file is read as its outcome
pub reads_outcome : (bytes : List ℕ) → Reads bytes (outcome bytes).records (outcome bytes).last
reads_outcome bytes = header_reads (header bytes) bytes

-- at the end of the file nothing follows
end_case : (a : Bool) (rest : Step) → a ≡ true → (if a then End else rest) ≡ End
end_case true rest h = refl
end_case false rest h = absurd (cc)

at_end : (form : Form) (bytes : List ℕ) (count at : ℕ) → length bytes ≤ at → step form bytes count at ≡ End
at_end form bytes count at h = end_case (nat_le (length bytes) at) _ (le-leb (length bytes) at h)

is_last_end : (s : Step) → s ≡ End → IsLast s
is_last_end s h = subst IsLast (sym h) tt

abbrev Ends : Outcome → Type 0
Ends o = IsLast o.last

step_lasts : (turns : ℕ) (form : Form) (bytes : List ℕ) (count at : ℕ)
    → ((n : ℕ) → length bytes ≤ n + turns → IsLast (outcome_on turns form bytes (count + 1) n).last)
    → length bytes ≤ at + suc turns → (s : Step) → step form bytes count at ≡ s
    → Ends (elim s [
      | End ↦ record { records = []; last = End }
      | Next r after ↦ more r (outcome_on turns form bytes (count + 1) after)
      | Fault fault ↦ record { records = []; last = Fault fault }
      | Limit ↦ record { records = []; last = Limit }
    ])
step_lasts turns form bytes count at rest enough End h = tt
step_lasts turns form bytes count at rest enough (Next r after) h =
    rest after (omega (arith, (next_place form bytes count at r after h).0))
step_lasts turns form bytes count at rest enough (Fault d) h = tt
step_lasts turns form bytes count at rest enough Limit h = tt

-- as many turns as the file has bytes left come to its end, a fault or a limit
outcome_lasts : (turns : ℕ) (form : Form) (bytes : List ℕ) (count at : ℕ) → length bytes ≤ at + turns → IsLast (outcome_on turns form bytes count at).last
outcome_lasts zero form bytes count at enough = is_last_end (step form bytes count at) (at_end form bytes count at (omega arith))
outcome_lasts (suc turns) form bytes count at enough =
    step_lasts turns form bytes count at (λ n. outcome_lasts turns form bytes (count + 1) n) enough (step form bytes count at) refl

header_lasts : (h : Header) (bytes : List ℕ) → IsLast (outcome_from h bytes).last
header_lasts (Formed form) bytes = outcome_lasts (length bytes) form bytes 0 24 (omega arith)
header_lasts (Unformed fault) bytes = tt

pub outcome_ends : (bytes : List ℕ) → IsLast (outcome bytes).last
outcome_ends bytes = header_lasts (header bytes) bytes
