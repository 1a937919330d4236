-- A reader among other calls, and readings of the same bytes.
use Rattle.std.specs.Prelude.{◌≡◌, ◌≤◌, ◌+◌, ℕ, List, [], ◌∷◌, ◌++◌, length, None, Some, IsSome}
use Rattle.std.proofs.Common.{◌∙◌, ap, sym, subst, refl, arith, append-nil, length-append, length-drop}
use Rattle.play_base.specs.View.{View, Keeps}
use Rattle.play_base.proofs.ViewLaws.{still_there, part_of_there}
use Rattle.capture_model.specs.Capture.{Form, Record, Step, End, Next, Fault, Limit, Header, step, Stand, place_after, IsLast, ReadsAs, ReadsFrom, Reads, Unformed, Formed, header}
use Rattle.pcap_files.specs.Ahead.{TookSome}
use Rattle.pcap_files.specs.Forms.{form}
use Rattle.pcap_files.specs.Reading.{Represents}
use Rattle.pcap_files.specs.declared.reader.Reader.{Reader}

-- every file that was there is there after bytes were taken
pub there_after : (v w : View) (file f : ℕ) → TookSome v w file → IsSome (v.part f) → IsSome (w.part f)
there_after v w file f x there = still_there _ _ v w f x.1.keeps there

-- calls that leave what the reader's file has left leave what the reader stands for
pub stands_kept : (N : List ℕ → Type 0) (F : ℕ → Type 0) (v w : View) (r : Reader) (bytes : List ℕ) (records : List Record)
    → Represents v r bytes records → IsSome (v.part r.file) → F r.file → Keeps N F v w → Represents w r bytes records
stands_kept N F v w r bytes records s there kept k =
    let p = part_of_there (v.part r.file) there in
    record {
      formed = s.formed;
      stand = s.stand;
      count = s.count;
      place = s.place;
      pending = λ sound.
          let x = s.pending sound in
          record { place = x.place; rest = (x.rest.0, k.left r.file p.0 p.1 kept ∙ x.rest.1, x.rest.2) };
      ahead = s.ahead;
      cause = s.cause;
    }

same_some : (xs ys : List ℕ) → Some xs ≡ Some ys → xs ≡ ys
same_some xs ys h = cc

-- the bytes that were taken end at most 65,536 bytes past the last record answered
pub taken : (v : View) (r : Reader) (bytes rest : List ℕ) (records : List Record) → Represents v r bytes records → r.fault ≡ None
    → v.left r.file ≡ Some rest → length bytes ≤ place_after 24 records + 65536 + length rest
taken v r bytes rest records s sound left =
    let x = s.pending sound in
    let same : x.rest.0 ≡ rest = same_some x.rest.0 rest (sym x.rest.1 ∙ left) in
    omega (arith, s.ahead sound, s.place, x.place, length-drop r.progress.place bytes, ap length x.rest.2, length-append r.ahead.waiting x.rest.0, ap length same)

abbrev next_of : Record → Step → Record
next_of other End = other
next_of other (Next r after) = r
next_of other (Fault found) = other
next_of other Limit = other

same_next : (r s : Record) (m n : ℕ) → Next r m ≡ Next s n → r ≡ s
same_next r s m n h = ap (next_of r) h

no_next : (last : Step) (r : Record) (n : ℕ) → IsLast last → last ≡ Next r n → ⊥
no_next last r n h e = subst IsLast e h

-- records that stand from a place on are a front of all that stand there
stand_front : (f : Form) (bytes : List ℕ) (count at : ℕ) (xs ys : List Record) (last : Step) → Stand f bytes count at xs → Stand f bytes count at ys
    → step f bytes (count + length ys) (place_after at ys) ≡ last → IsLast last → (rest : List Record) × (ys ≡ xs ++ rest)
stand_front f bytes count at [] ys last a b e h = (ys, refl)
stand_front f bytes count at (x ∷ xs) [] last a b e h =
    absurd (no_next last x (at + 16 + length x.captured) h (sym e ∙ ap (λ (n : ℕ). step f bytes n at) (omega arith) ∙ a.0))
stand_front f bytes count at (x ∷ xs) (y ∷ ys) last a b e h =
    let same : y ≡ x = same_next y x _ _ (sym b.0 ∙ a.0) in
    let next : at + 16 + length y.captured ≡ at + 16 + length x.captured = ap (λ (r : Record). at + 16 + length r.captured) same in
    let rest = stand_front f bytes (count + 1) (at + 16 + length x.captured) xs ys last a.1
    (subst (λ (n : ℕ). Stand f bytes (count + 1) n ys) next b.1)
    (ap (λ (n : ℕ). step f bytes n (place_after (at + 16 + length x.captured) ys)) (omega arith)
    ∙ ap (λ (n : ℕ). step f bytes (count + length (y ∷ ys)) (place_after n ys)) (sym next) ∙ e)
    h in
    (rest.0, ap (λ (r : Record). r ∷ ys) same ∙ ap (λ (rs : List Record). x ∷ rs) rest.1)

-- the records answered are a front of the complete records
pub answered_front : (v : View) (r : Reader) (bytes : List ℕ) (records all : List Record) (last : Step) → Represents v r bytes records
    → Reads bytes all last → IsLast last → (rest : List Record) × (all ≡ records ++ rest)
answered_front v r bytes records all last s x h =
    let y : ReadsAs (form r.head) bytes all last = subst (λ (found : Header). ReadsFrom found bytes all last) s.formed x in
    stand_front (form r.head) bytes 0 24 records all last s.stand y.stand
    (ap (λ (n : ℕ). step (form r.head) bytes n (place_after 24 all)) (omega arith) ∙ y.ended) h

empty : (rs : List Record) → length rs ≡ 0 → rs ≡ []
empty [] h = refl
empty (r ∷ rs) h = absurd (omega (arith, h))

one_from : (h : Header) (bytes : List ℕ) (xs ys : List Record) (p q : Step) → ReadsFrom h bytes xs p → IsLast p → ReadsFrom h bytes ys q → IsLast q
    → (xs ≡ ys) × (p ≡ q)
one_from (Unformed found) bytes xs ys p q a hp b hq = (a.0 ∙ sym b.0, a.1 ∙ sym b.1)
one_from (Formed f) bytes xs ys p q a hp b hq =
    let start : (rs : List Record) (last : Step) → step f bytes (length rs) (place_after 24 rs) ≡ last → step f bytes (0 + length rs) (place_after 24 rs) ≡ last =
    λ rs last e. ap (λ (n : ℕ). step f bytes n (place_after 24 rs)) (omega arith) ∙ e in
    let front = stand_front f bytes 0 24 xs ys q a.stand b.stand (start ys q b.ended) hq in
    let back = stand_front f bytes 0 24 ys xs p b.stand a.stand (start xs p a.ended) hp in
    let none : front.0 ≡ [] = empty front.0
    (omega (arith, ap length front.1, length-append xs front.0, ap length back.1, length-append ys back.0)) in
    let same : xs ≡ ys = sym (front.1 ∙ ap (λ (rs : List Record). xs ++ rs) none ∙ append-nil xs) in
    (same, sym a.ended ∙ ap (λ (rs : List Record). step f bytes (length rs) (place_after 24 rs)) same ∙ b.ended)

-- bytes have at most one reading
pub one_reading : (bytes : List ℕ) (xs ys : List Record) (p q : Step) → Reads bytes xs p → IsLast p → Reads bytes ys q → IsLast q
    → (xs ≡ ys) × (p ≡ q)
one_reading bytes xs ys p q a hp b hq = one_from (header bytes) bytes xs ys p q a hp b hq
