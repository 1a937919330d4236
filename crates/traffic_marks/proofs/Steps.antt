-- What stands at a place of a capture, of what is read there: the size of the file, the numbers of the header, and the bytes behind
-- it.
use Rattle.std.proofs.Common.{◌≡◌, ◌≤◌, ◌+◌, ◌*◌, ◌^◌, ◌∙◌, ap, ℕ, List, [], ◌∷◌, length, take, drop, Bool, true, false, refl, arith, sym}
use Rattle.std.specs.Prelude.{if◌then◌else◌, ◌==◌, ◌&&◌, ◌||◌, nat_le, nat_lt, None, Some}
use Rattle.std.specs.declared.option.Option.{Option}
use Rattle.std.specs.Int.{w16, w32, from_be_bytes, from_le_bytes}
use Rattle.std.proofs.lemmas.List.{drop-drop, drop-take, take-take}
use Rattle.capture_model.specs.declared.damage.Damage.{Damage}
use Rattle.capture_model.specs.declared.damage.DamageKind.TheVariants.{ShortRecord, EmptyRecord, LongRecord, ShortHead}
use Rattle.capture_model.specs.Capture.{Form, Record, Step, End, Next, Fault, Limit, Header, Formed, Unformed, damage, form_of, half, header, header_in, longest, most_bytes, most_records, step, word}

pub record Seen : Type 0 where
  pub size : ℕ
  pub high : ℕ
  pub low : ℕ
  pub captured : ℕ
  pub original : ℕ

abbrev pub seen : Form → List ℕ → (at : ℕ) → Seen
seen form bytes at = record {
  size = length bytes;
  high = word form.big bytes at;
  low = word form.big bytes (at + 4);
  captured = word form.big bytes (at + 8);
  original = word form.big bytes (at + 12);
}

-- what stands where no record does
pub data Stop : Type 0 where
  AtEnd : Stop
  AtLimit : Stop
  AtFault : Damage → Stop

abbrev stopped : Stop → Step
stopped AtEnd = End
stopped AtLimit = Limit
stopped (AtFault d) = Fault d

-- the first test that holds says what stands there
abbrev tested : List (Bool × Stop) → (last : Step) → Step
tested [] last = last
tested (t ∷ ts) last = if t.0 then stopped t.1 else tested ts last

-- the tests, in their order
abbrev tests : (count at : ℕ) → Seen → List (Bool × Stop)
tests count at s =
    (nat_le s.size at, AtEnd)
    ∷ (count == most_records, AtLimit)
    ∷ (nat_lt s.size (at + 16), AtFault (damage at ShortRecord))
    ∷ (nat_lt longest s.captured || nat_lt longest s.original, AtFault (damage at LongRecord))
    ∷ ((s.captured == 0) && (s.original == 0), AtFault (damage at EmptyRecord))
    ∷ (nat_lt most_bytes (at + 16 + s.captured), AtLimit)
    ∷ (nat_lt s.size (at + 16 + s.captured), AtFault (damage at ShortRecord))
    ∷ []

abbrev record_of : Form → Seen → (tail : List ℕ) → Record
record_of form s tail = record {
  stamp = s.high * 10 ^ 9 + s.low * (if form.nanos then 1 else 1000);
  captured = take s.captured tail;
  original = s.original;
}

abbrev pub stepped : Form → (count at : ℕ) → Seen → (tail : List ℕ) → Step
stepped form count at s tail = tested (tests count at s) (Next (record_of form s tail) (at + 16 + s.captured))

abbrev captured_in : Step → (other : List ℕ) → List ℕ
captured_in (Next r after) other = r.captured
captured_in End other = other
captured_in (Fault d) other = other
captured_in Limit other = other

abbrev after_in : Step → ℕ → ℕ
after_in (Next r after) other = after
after_in End other = other
after_in (Fault d) other = other
after_in Limit other = other

-- a record comes where all tests fail
past_test : (b : Bool) (stop : Stop) (rest : Step) (x : Record) (n : ℕ) → (if b then stopped stop else rest) ≡ Next x n → rest ≡ Next x n
past_test true AtEnd rest x n h = absurd (cc)
past_test true AtLimit rest x n h = absurd (cc)
past_test true (AtFault d) rest x n h = absurd (cc)
past_test false stop rest x n h = h

only_last : (ts : List (Bool × Stop)) (last : Step) (x : Record) (n : ℕ) → tested ts last ≡ Next x n → last ≡ Next x n
only_last [] last x n h = h
only_last (t ∷ ts) last x n h = only_last ts last x n (past_test t.0 t.1 (tested ts last) x n h)

pub is_next : (form : Form) (count at : ℕ) (s : Seen) (tail : List ℕ) (x : Record) (n : ℕ) → stepped form count at s tail ≡ Next x n
    → (x.captured ≡ take s.captured tail) × (n ≡ at + 16 + s.captured)
is_next form count at s tail x n h =
    let last = only_last (tests count at s) (Next (record_of form s tail) (at + 16 + s.captured)) x n h in
    (sym (ap (λ (t : Step). captured_in t x.captured) last), sym (ap (λ (t : Step). after_in t n) last))

-- the same record with other captured bytes
abbrev recapture : List ℕ → Step → Step
recapture frame (Next r after) = Next (record r { captured = frame }) after
recapture frame End = End
recapture frame (Fault d) = Fault d
recapture frame Limit = Limit

through_test : (b : Bool) (stop : Stop) (rest : Step) (frame : List ℕ)
    → recapture frame (if b then stopped stop else rest) ≡ (if b then stopped stop else recapture frame rest)
through_test true AtEnd rest frame = refl
through_test true AtLimit rest frame = refl
through_test true (AtFault d) rest frame = refl
through_test false stop rest frame = refl

through : (ts : List (Bool × Stop)) (last : Step) (frame : List ℕ) → recapture frame (tested ts last) ≡ tested ts (recapture frame last)
through [] last frame = refl
through (t ∷ ts) last frame =
    through_test t.0 t.1 (tested ts last) frame ∙ ap (λ (s : Step). if t.0 then stopped t.1 else s) (through ts last frame)

-- other bytes behind the header
other_tail : (form : Form) (count at : ℕ) (s : Seen) (tail other : List ℕ)
    → recapture (take s.captured other) (stepped form count at s tail) ≡ stepped form count at s other
other_tail form count at s tail other = through (tests count at s) (Next (record_of form s tail) (at + 16 + s.captured)) (take s.captured other)

-- lists that begin alike
pub part_same : (n k m : ℕ) (x y : List ℕ) → take n x ≡ take n y → k + m ≤ n → take m (drop k x) ≡ take m (drop k y)
part_same n k m x y h fits =
    let front = λ (l : List ℕ). drop-take k m l in
    let cut = λ (l : List ℕ). take-take (k + m) n l fits in
    sym (front x) ∙ ap (drop k) (sym (cut x) ∙ ap (take (k + m)) h ∙ cut y) ∙ front y

word_same : (big : Bool) (x y : List ℕ) (at : ℕ) → take 4 (drop at x) ≡ take 4 (drop at y) → word big x at ≡ word big y at
word_same true x y at h = ap (from_be_bytes w32) h
word_same false x y at h = ap (from_le_bytes w32) h

half_same : (big : Bool) (x y : List ℕ) (at : ℕ) → take 2 (drop at x) ≡ take 2 (drop at y) → half big x at ≡ half big y at
half_same true x y at h = ap (from_be_bytes w16) h
half_same false x y at h = ap (from_le_bytes w16) h

header_word : (form : Form) (x y : List ℕ) (at k p : ℕ) → take 16 (drop at x) ≡ take 16 (drop at y) → p ≡ at + k → k + 4 ≤ 16
    → word form.big x p ≡ word form.big y p
header_word form x y at k p h is fits =
    let place = λ (l : List ℕ). ap (take 4) (drop-drop k at l ∙ ap (λ (n : ℕ). drop n l) (sym is)) in
    word_same form.big x y p (sym (place x) ∙ part_same 16 k 4 (drop at x) (drop at y) h fits ∙ place y)

pub seen_same : (form : Form) (x y : List ℕ) (at : ℕ) → length x ≡ length y → take 16 (drop at x) ≡ take 16 (drop at y)
    → seen form x at ≡ seen form y at
seen_same form x y at size h =
    let high = header_word form x y at 0 at h (omega arith) (omega arith) in
    let low = header_word form x y at 4 (at + 4) h refl (omega arith) in
    let captured = header_word form x y at 8 (at + 8) h refl (omega arith) in
    let original = header_word form x y at 12 (at + 12) h refl (omega arith) in
    cc

-- the same step, where all is the same
pub step_same : (form : Form) (x y : List ℕ) (count at : ℕ) → length x ≡ length y → drop at x ≡ drop at y
    → step form x count at ≡ step form y count at
step_same form x y count at size h =
    let tail : drop (at + 16) x ≡ drop (at + 16) y = sym (drop-drop 16 at x) ∙ ap (drop 16) h ∙ drop-drop 16 at y in
    ap (λ (s : Seen). stepped form count at s (drop (at + 16) x)) (seen_same form x y at size (ap (take 16) h))
    ∙ ap (stepped form count at (seen form y at)) tail

-- The same record with another frame of that length, where the header is the same and that frame stands behind it.
pub step_with : (form : Form) (x y frame : List ℕ) (count at : ℕ) (r : Record) (n : ℕ) → length x ≡ length y
    → take 16 (drop at x) ≡ take 16 (drop at y) → step form y count at ≡ Next r n
    → take (word form.big y (at + 8)) (drop (at + 16) x) ≡ frame
    → step form x count at ≡ Next (record r { captured = frame }) n
step_with form x y frame count at r n size head next is =
    let s = seen form y at in
    ap (λ (t : Seen). stepped form count at t (drop (at + 16) x)) (seen_same form x y at size head)
    ∙ sym (other_tail form count at s (drop (at + 16) y) (drop (at + 16) x))
    ∙ ap (recapture (take s.captured (drop (at + 16) x))) next
    ∙ ap (λ (f : List ℕ). Next (record r { captured = f }) n) is

-- the head of a capture
header_in_same : (o : Option Form) (x y : List ℕ) → take 24 x ≡ take 24 y → header_in o x ≡ header_in o y
header_in_same None x y h = refl
header_in_same (Some form) x y h =
    let major = half_same form.big x y 4 (part_same 24 4 2 x y h (omega arith)) in
    let minor = half_same form.big x y 6 (part_same 24 6 2 x y h (omega arith)) in
    let link = word_same form.big x y 20 (part_same 24 20 4 x y h (omega arith)) in
    rw (major, minor, link) refl

pub header_same : (x y : List ℕ) → length x ≡ length y → take 24 x ≡ take 24 y → header x ≡ header y
header_same x y size h =
    let magic : word true x 0 ≡ word true y 0 = word_same true x y 0 (part_same 24 0 4 x y h (omega arith)) in
    let inner : header_in (form_of (word true x 0)) x ≡ header_in (form_of (word true y 0)) y =
    header_in_same (form_of (word true x 0)) x y h ∙ ap (λ (m : ℕ). header_in (form_of m) y) magic in
    ap (λ (n : ℕ). if nat_lt n 24 then Unformed (damage n ShortHead) else header_in (form_of (word true x 0)) x) size
    ∙ ap (λ (t : Header). if nat_lt (length y) 24 then Unformed (damage (length y) ShortHead) else t) inner

-- a head that has a form is whole
whole : (b : Bool) (d : Damage) (rest : Header) (form : Form) → (if b then Unformed d else rest) ≡ Formed form → b ≡ false
whole true d rest form h = absurd (cc)
whole false d rest form h = refl

pub formed_whole : (bytes : List ℕ) (form : Form) → header bytes ≡ Formed form → nat_lt (length bytes) 24 ≡ false
formed_whole bytes form h = whole (nat_lt (length bytes) 24) (damage (length bytes) ShortHead) (header_in (form_of (word true bytes 0)) bytes) form h
