-- What a reader stands for, as it takes bytes and answers records.
use Rattle.std.proofs.Common.{◌≡◌, ◌≤◌, ◌<◌, ◌∙◌, ℕ, ◌+◌, ◌-◌, List, [], ◌∷◌, ◌++◌, length, take, drop, refl, sym, ap, subst, arith, inl, inr, append-nil, append_assoc, length-append, length-drop}
use Rattle.std.specs.Prelude.{◌⊎◌, ◌≢◌, IsSome, Bool, true, false, nat_lt, max, None, Some}
use Rattle.std.specs.declared.option.Option.{Option}
use Rattle.std.specs.Int.{w16, from_be_bytes, from_le_bytes}
use Rattle.std.proofs.lemmas.List.{drop-append-le, drop-drop, drop-take, length-take}
use Rattle.std.proofs.Math.Seq.{drop-append-add}
use Rattle.play_base.specs.View.{View, Everything, IsAtEnd, Took, Unchanged}
use Rattle.play_base.proofs.ViewLaws.{keeps_fewer, keeps_trans, part_of_there, still_there, took_more}
use Rattle.capture_model.specs.declared.damage.DamageKind.TheVariants.{ShortRecord}
use Rattle.capture_model.specs.Capture.{Form, Step, Next, Fault, Stand, Formed, Unformed, Header, half, word, header, header_in, form_of, damage, step, place_after, Reads, ReadsFrom, ReadsAs}
use Rattle.capture_model.specs.Capture as capture
use Rattle.pcap_files.specs.Ahead.{HeldBytes, Pending, TookInto, TookSome, last}
use Rattle.pcap_files.specs.Forms.{form}
use Rattle.pcap_files.specs.Reading.{Represents, Shows, IsTaken, told_by, IsCut, IsCause, ReadsTo}
use Rattle.pcap_files.specs.Stand.{stand_at, step_of}
use Rattle.pcap_files.specs.declared.stand.Stand.{Stand as Stands}
use Rattle.pcap_files.specs.declared.stand.Stand.TheVariants.{Headed}
use Rattle.pcap_files.specs.declared.fault.CaptureFault.{CaptureFault}
use Rattle.pcap_files.specs.declared.fault.CaptureFault.TheVariants as fault
use Rattle.pcap_files.specs.declared.reader.Reader.{Reader}
use Rattle.pcap_files.specs.declared.record.Found.{Found}
use Rattle.pcap_files.proofs.PlaceLemmas.{seen, word_seen, length_here, step_here}

pub is_less : (m n : ℕ) → m < n → nat_lt m n ≡ true
is_less m n h = grind (arith, h)

-- the head of a file is told by its first 24 bytes
half_seen : (big : Bool) (xs rest : List ℕ) (k : ℕ) → k + 2 ≤ length xs → half big (xs ++ rest) k ≡ half big xs k
half_seen true xs rest k h = ap (from_be_bytes w16) (seen 2 k xs rest h)
half_seen false xs rest k h = ap (from_le_bytes w16) (seen 2 k xs rest h)

head_in_seen : (named : Option Form) (xs rest : List ℕ) → 24 ≤ length xs → header_in named (xs ++ rest) ≡ header_in named xs
head_in_seen None xs rest h = refl
head_in_seen (Some f) xs rest h =
    rw (half_seen f.big xs rest 4 (omega (arith, h)), half_seen f.big xs rest 6 (omega (arith, h)), word_seen f.big xs rest 20 (omega (arith, h))) refl

pub head_seen : (xs rest : List ℕ) → (24 ≤ length xs) ⊎ (length rest ≡ 0) → header (xs ++ rest) ≡ header xs
head_seen xs [] h = ap header (append-nil xs)
head_seen xs (y ∷ ys) (inr h) = absurd (omega arith)
head_seen xs (y ∷ ys) (inl h) =
    let long : nat_lt (length (xs ++ y ∷ ys)) 24 ≡ false = grind (arith, length-append xs (y ∷ ys), h) in
    let long_front : nat_lt (length xs) 24 ≡ false = grind (arith, h) in
    rw (long, long_front, word_seen true xs (y ∷ ys) 0 (omega (arith, h))) (head_in_seen (form_of (word true xs 0)) xs (y ∷ ys) h)

-- what was taken stands, where the next call changes nothing but counts
pub took_unchanged : (a b c : View) (file : ℕ) (xs : List ℕ) → IsSome (a.part file) → Took a b file xs → Unchanged b c → Took a c file xs
took_unchanged a b c file xs there x y =
    let p = part_of_there (b.part file) (still_there _ _ a b file x.keeps there) in
    record {
      left = λ all h. let one = x.left all h in (one.0, one.1, y.keeps.left file p.0 p.1 tt ∙ one.2);
      keeps = keeps_trans Everything (λ f. f ≢ file) a b c x.keeps (keeps_fewer Everything Everything Everything (λ f. f ≢ file) b c (λ n h. h) (λ f h. tt) y.keeps);
      none = λ f h. y.none f (x.none f h);
      said = y.said ∙ x.said;
    }

-- bytes that are taken stand behind those taken before
pub took_twice : (a b c : View) (file : ℕ) (xs ys zs : List ℕ) → TookInto a b file xs ys → TookInto b c file ys zs → TookInto a c file xs zs
took_twice a b c file xs ys zs x y = (
  x.0 ++ y.0,
  took_more a b c file x.0 y.0 x.1 y.1,
  y.2 ∙ ap (λ (r : List ℕ). r ++ y.0) x.2 ∙ append_assoc xs x.0 y.0,
)

pub took_some : (a b c : View) (file : ℕ) (xs ys : List ℕ) → TookInto a b file xs ys → TookSome b c file → TookSome a c file
took_some a b c file xs ys x y = (x.0 ++ y.0, took_more a b c file x.0 y.0 x.1 y.1)

pub took_into : (a b : View) (file : ℕ) (xs ys : List ℕ) → TookInto a b file xs ys → TookSome a b file
took_into a b file xs ys x = (x.0, x.1)

-- some bytes were taken before, and stand ahead
pub pending_start : (v : View) (file : ℕ) (first before rest : List ℕ) → before ≡ first → v.left file ≡ Some rest → Pending v file 0 before (first ++ rest)
pending_start v file first before rest same h = record { place = omega arith; rest = (rest, h, ap (λ (xs : List ℕ). xs ++ rest) (sym same)) }

pub pending_took : (v w : View) (file at : ℕ) (before after bytes : List ℕ) → Pending v file at before bytes → TookInto v w file before after
    → Pending w file at after bytes
pending_took v w file at before after bytes p t =
    let one = t.1.left p.rest.0 p.rest.1 in
    record {
      place = p.place;
      rest = (
        one.0,
        one.2,
        p.rest.2 ∙ ap (λ (r : List ℕ). before ++ r) one.1 ∙ sym (append_assoc before t.0 one.0) ∙ ap (λ (r : List ℕ). r ++ one.0) (sym t.2),
      );
    }

pub pending_passed : (v : View) (file at count : ℕ) (ahead bytes : List ℕ) → Pending v file at ahead bytes → count ≤ length ahead
    → Pending v file (at + count) (drop count ahead) bytes
pending_passed v file at count ahead bytes p h = record {
  place = omega (arith, length_here bytes ahead p.rest.0 at p.place p.rest.2, h);
  rest = (
    p.rest.0,
    p.rest.1,
    sym (drop-drop count at bytes) ∙ ap (drop count) p.rest.2 ∙ drop-append-le count ahead p.rest.0 h,
  );
}

-- enough bytes were taken, or none is left
pub none_left : (v : View) (file at need : ℕ) (ahead bytes : List ℕ) (p : Pending v file at ahead bytes)
    → (need ≤ length ahead) ⊎ IsAtEnd v file → (need ≤ length ahead) ⊎ (length p.rest.0 ≡ 0)
none_left v file at need ahead bytes p (inl h) = inl h
none_left v file at need ahead bytes p (inr h) = inr (h p.rest.0 p.rest.1)

-- one more record stands whole
pub stand_more : (f : Form) (bytes : List ℕ) (count at : ℕ) (rs : List capture.Record) (r : capture.Record) → Stand f bytes count at rs
    → step f bytes (count + length rs) (place_after at rs) ≡ Next r (place_after at rs + 16 + length r.captured) → Stand f bytes count at (rs ++ r ∷ [])
stand_more f bytes count at [] r s h = (ap (λ (n : ℕ). step f bytes n at) (omega arith) ∙ h, tt)
stand_more f bytes count at (x ∷ rs) r s h =
    let next = at + 16 + length x.captured in
    (s.0, stand_more f bytes (count + 1) next rs r s.1 (ap (λ (n : ℕ). step f bytes n (place_after next rs)) (omega arith) ∙ h))

pub place_after_more : (at : ℕ) (rs : List capture.Record) (r : capture.Record) → place_after at (rs ++ r ∷ []) ≡ place_after at rs + 16 + length r.captured
place_after_more at [] r = refl
place_after_more at (x ∷ rs) r = place_after_more (at + 16 + length x.captured) rs r

-- a reading of bytes whose head has this form
pub reads_formed : (f : Form) (bytes : List ℕ) (records : List capture.Record) (last : Step) → header bytes ≡ Formed f
    → ReadsAs f bytes records last → Reads bytes records last
reads_formed f bytes records last e x = subst (λ (h : Header). ReadsFrom h bytes records last) (sym e) x

-- what stands after the records answered, by the bytes taken there
pub stands_step : (v w : View) (r : Reader) (ahead bytes : List ℕ) (records : List capture.Record) → Represents v r bytes records
    → r.fault ≡ None → TookInto v w r.file r.ahead.waiting ahead → (16 ≤ length ahead) ⊎ IsAtEnd w r.file
    → step (form r.head) bytes (length records) (place_after 24 records)
    ≡ step_of (stand_at (form r.head) r.progress.count r.progress.place ahead) r.progress.place (drop r.progress.place bytes)
stands_step v w r ahead bytes records s sound t enough =
    let p = pending_took v w r.file r.progress.place r.ahead.waiting ahead bytes (s.pending sound) t in
    let here = step_here (form r.head) bytes ahead p.rest.0 r.progress.count r.progress.place p.place p.rest.2
    (none_left w r.file r.progress.place 16 ahead bytes p enough) in
    ap (λ (n : ℕ). step (form r.head) bytes n (place_after 24 records)) (sym s.count)
    ∙ ap (λ (n : ℕ). step (form r.head) bytes r.progress.count n) (sym s.place) ∙ here

-- so the reading ends there
pub stands_reads : (v : View) (r : Reader) (bytes : List ℕ) (records : List capture.Record) (last : Step) → Represents v r bytes records
    → step (form r.head) bytes (length records) (place_after 24 records) ≡ last → Reads bytes records last
stands_reads v r bytes records last s e = reads_formed (form r.head) bytes records last s.formed (record { stand = s.stand; ended = e })

-- the same reading, as it was found
reads_back : (f : Form) (bytes : List ℕ) (records : List capture.Record) (last : Step) → header bytes ≡ Formed f
    → Reads bytes records last → ReadsAs f bytes records last
reads_back f bytes records last e x = subst (λ (h : Header). ReadsFrom h bytes records last) e x

pub pending_same : (v : View) (f f' at at' : ℕ) (ahead ahead' bytes : List ℕ) → f' ≡ f → at' ≡ at → ahead' ≡ ahead
    → Pending v f at ahead bytes → Pending v f' at' ahead' bytes
pending_same v f f' at at' ahead ahead' bytes ef ep ea p = record {
  place = rw ep p.place;
  rest = (p.rest.0, ap v.left ef ∙ p.rest.1, ap (λ (n : ℕ). drop n bytes) ep ∙ p.rest.2 ∙ ap (λ (xs : List ℕ). xs ++ p.rest.0) (sym ea));
}

-- a reader that came no further
pub stands_with : (v w : View) (r n : Reader) (bytes : List ℕ) (records : List capture.Record) → Represents v r bytes records
    → n.head ≡ r.head → n.progress ≡ r.progress → (n.fault ≡ None → Pending w n.file n.progress.place n.ahead.waiting bytes)
    → (n.fault ≡ None → length n.ahead.waiting ≤ 65535) → IsCause n.fault (step (form r.head) bytes (length records) (place_after 24 records))
    → Represents w n bytes records
stands_with v w r n bytes records s eh ep pending ahead cause = record {
  formed = s.formed ∙ ap (λ h. Formed (form h)) (sym eh);
  stand = subst (λ h. Stand (form h) bytes 0 24 records) (sym eh) s.stand;
  count = ap (λ p. p.count) ep ∙ s.count;
  place = ap (λ p. p.place) ep ∙ s.place;
  pending = pending;
  ahead = ahead;
  cause = subst (λ h. IsCause n.fault (step (form h) bytes (length records) (place_after 24 records))) (sym eh) cause;
}

-- a fault that the bytes tell is what stands there
pub cause_of : (v : View) (r : Reader) (bytes : List ℕ) (records : List capture.Record) (f : CaptureFault) → Represents v r bytes records
    → ReadsTo f bytes records → IsCause (Some f) (step (form r.head) bytes (length records) (place_after 24 records))
cause_of v r bytes records (fault.Damage found) s x = (reads_back (form r.head) bytes records (Fault found) s.formed x).ended
cause_of v r bytes records fault.Limit s x = (reads_back (form r.head) bytes records capture.Limit s.formed x).ended
cause_of v r bytes records fault.Read s x = tt
cause_of v r bytes records fault.NoMemory s x = tt

-- and the other way round
pub cause_reads : (v : View) (r : Reader) (bytes : List ℕ) (records : List capture.Record) (f : CaptureFault) → Represents v r bytes records
    → r.fault ≡ Some f → ReadsTo f bytes records
cause_reads v r bytes records (fault.Damage found) s e =
    stands_reads v r bytes records (Fault found) s (subst (λ q. IsCause q (step (form r.head) bytes (length records) (place_after 24 records))) e s.cause)
cause_reads v r bytes records fault.Limit s e =
    stands_reads v r bytes records capture.Limit s (subst (λ q. IsCause q (step (form r.head) bytes (length records) (place_after 24 records))) e s.cause)
cause_reads v r bytes records fault.Read s e = tt
cause_reads v r bytes records fault.NoMemory s e = tt

-- the reader with other bytes ahead
abbrev pub holding : Reader → HeldBytes → Reader
holding r held = record { file = r.file; head = r.head; progress = r.progress; ahead = held; fault = r.fault }

-- the head of a record: its stamp, how many bytes were captured, and how many the packet had
pub record Head : Type 0 where
  pub stamp : ℕ
  pub captured : ℕ
  pub original : ℕ

-- this head stands where a reader is, behind the records that were answered
abbrev pub StandsHead : Reader → (bytes : List ℕ) → (records : List capture.Record) → Head → Type 0
StandsHead r bytes records h =
    step (form r.head) bytes (length records) (place_after 24 records)
    ≡ step_of (Headed h.stamp h.captured h.original) r.progress.place (drop r.progress.place bytes)

-- a record whose head was taken is not whole
pub cut_reads : (v w : View) (r : Reader) (ahead bytes : List ℕ) (records : List capture.Record) (h : Head) (f : CaptureFault)
    → Represents v r bytes records → r.fault ≡ None → TookInto v w r.file r.ahead.waiting ahead → StandsHead r bytes records h
    → (16 + h.captured ≤ length ahead) ⊎ IsAtEnd w r.file → IsCut f r.progress.place ahead h.captured → ReadsTo f bytes records
cut_reads v w r ahead bytes records h (fault.Damage found) s sound t here enough cut =
    let p = pending_took v w r.file r.progress.place r.ahead.waiting ahead bytes (s.pending sound) t in
    let e = p.rest.2 in
    let short : length (drop r.progress.place bytes) < 16 + h.captured = elim (none_left w r.file r.progress.place (16 + h.captured) ahead bytes p enough) [
      | inl more ↦ absurd (omega (arith, more, cut.0))
      | inr none ↦ omega (arith, ap length e, length-append ahead p.rest.0, none, cut.0)
    ] in
    let test : nat_lt (length (drop r.progress.place bytes)) (16 + h.captured) ≡ true = is_less (length (drop r.progress.place bytes)) (16 + h.captured) short in
    let stands : step_of (Headed h.stamp h.captured h.original) r.progress.place (drop r.progress.place bytes) ≡ Fault (damage r.progress.place ShortRecord) = rw test refl in
    stands_reads v r bytes records (Fault found) s (here ∙ stands ∙ ap Fault (sym cut.1))
cut_reads v w r ahead bytes records h fault.Limit s sound t here enough cut = absurd cut
cut_reads v w r ahead bytes records h fault.Read s sound t here enough cut = absurd cut
cut_reads v w r ahead bytes records h fault.NoMemory s sound t here enough cut = absurd cut

-- the bytes that were passed last, behind 16 others
last_passed : (before ahead : List ℕ) (count : ℕ) → 16 + count ≤ length ahead → last count (before ++ take (16 + count) ahead) ≡ take count (drop 16 ahead)
last_passed before ahead count enough =
    let front : List ℕ = take (16 + count) ahead in
    let long : length (before ++ front) - count ≡ length before + 16 =
    omega (arith, length-append before front, length-take (16 + count) ahead, enough) in
    ap (λ (n : ℕ). drop n (before ++ front)) long ∙ drop-append-add before front 16 ∙ drop-take 16 count ahead

-- a whole record is found
pub answered : (v w : View) (r n : Reader) (found : Found) (held : HeldBytes) (bytes : List ℕ) (records : List capture.Record) (h : Head)
    → Represents v r bytes records → r.fault ≡ None → TookInto v w r.file r.ahead.waiting held.waiting → StandsHead r bytes records h
    → length held.waiting ≤ 65535 + (16 + h.captured) → IsTaken (holding r held) n found h.stamp h.captured h.original
    → (x : capture.Record) × Shows (told_by n found) (length records) x × Represents w n bytes (records ++ x ∷ [])
answered v w r n found held bytes records h s sound t here bound k =
    let captured : ℕ = h.captured in
    let ahead : List ℕ = held.waiting in
    let p = pending_took v w r.file r.progress.place r.ahead.waiting ahead bytes (s.pending sound) t in
    let e = p.rest.2 in
    let x : capture.Record = record { stamp = h.stamp; captured = take captured (drop 16 ahead); original = h.original } in
    let long : length (take captured (drop 16 ahead)) ≡ captured = omega (arith, length-take captured (drop 16 ahead), length-drop 16 ahead, k.enough) in
    let whole : nat_lt (length (drop r.progress.place bytes)) (16 + captured) ≡ false = grind (arith, ap length e, length-append ahead p.rest.0, k.enough) in
    let same : take captured (drop 16 (drop r.progress.place bytes)) ≡ take captured (drop 16 ahead) =
    ap (λ (xs : List ℕ). take captured (drop 16 xs)) e ∙ seen captured 16 ahead p.rest.0 k.enough in
    let next : step_of (Headed h.stamp captured h.original) r.progress.place (drop r.progress.place bytes) ≡ Next x (r.progress.place + 16 + captured) = rw (whole, same) refl in
    let place : r.progress.place + 16 + captured ≡ place_after 24 records + 16 + length (take captured (drop 16 ahead)) = omega (arith, s.place, long) in
    let stands : step (form r.head) bytes (length records) (place_after 24 records) ≡ Next x (place_after 24 records + 16 + length x.captured) =
    here ∙ next ∙ ap (Next x) place in
    let lent : last found.captured n.ahead.passed ≡ take captured (drop 16 ahead) =
    ap (λ (m : ℕ). last m n.ahead.passed) k.captured ∙ ap (last captured) k.passed ∙ last_passed held.passed ahead captured k.enough in (
      x,
      record { number = omega (arith, k.number, s.count); stamp = k.stamp; len = k.len ∙ ap (max h.original) (sym long); bytes = lent },
      record {
        formed = s.formed ∙ ap (λ head. Formed (form head)) (sym k.head);
        stand = subst (λ head. Stand (form head) bytes 0 24 (records ++ x ∷ [])) (sym k.head)
            (stand_more (form r.head) bytes 0 24 records x s.stand (ap (λ (n : ℕ). step (form r.head) bytes n (place_after 24 records)) (omega arith) ∙ stands));
        count = omega (arith, k.count, s.count, length-append records (x ∷ []));
        place = k.place ∙ place ∙ sym (place_after_more 24 records x);
        pending = λ _. pending_same w r.file n.file (r.progress.place + (16 + captured)) n.progress.place (drop (16 + captured) ahead) n.ahead.waiting bytes
            k.file (omega (arith, k.place)) k.ahead (pending_passed w r.file r.progress.place (16 + captured) ahead bytes p k.enough);
        ahead = λ _. omega (arith, ap length k.ahead, length-drop (16 + captured) ahead, bound);
        cause = subst (λ q. IsCause q (step (form n.head) bytes (length (records ++ x ∷ [])) (place_after 24 (records ++ x ∷ [])))) (sym (k.fault ∙ sound)) tt;
      },
    )

-- the same by what the code found in the bytes ahead
pub stands_at : (v w : View) (r : Reader) (ahead found bytes : List ℕ) (records : List capture.Record) (q : Stands) → Represents v r bytes records
    → r.fault ≡ None → TookInto v w r.file r.ahead.waiting ahead → (16 ≤ length ahead) ⊎ IsAtEnd w r.file
    → found ≡ ahead → q ≡ stand_at (form r.head) r.progress.count r.progress.place found
    → step (form r.head) bytes (length records) (place_after 24 records) ≡ step_of q r.progress.place (drop r.progress.place bytes)
stands_at v w r ahead found bytes records q s sound t enough same value =
    let rest = drop r.progress.place bytes in
    stands_step v w r ahead bytes records s sound t enough
    ∙ ap (λ (xs : List ℕ). step_of (stand_at (form r.head) r.progress.count r.progress.place xs) r.progress.place rest) (sym same)
    ∙ ap (λ (p : Stands). step_of p r.progress.place rest) (sym value)

-- the head of the file is told by the bytes that a start takes
pub started_head : (v w : View) (file : ℕ) (first before ahead found rest : List ℕ) → before ≡ first → v.left file ≡ Some rest
    → TookInto v w file before ahead → (24 ≤ length ahead) ⊎ IsAtEnd w file → found ≡ ahead → header (first ++ rest) ≡ header found
started_head v w file first before ahead found rest taken h t enough same =
    let p = pending_took v w file 0 before ahead (first ++ rest) (pending_start v file first before rest taken h) t in
    ap header p.rest.2 ∙ head_seen ahead p.rest.0 (none_left w file 0 24 ahead (first ++ rest) p enough) ∙ ap header (sym same)

-- a reader that has read the head and passed it
pub started : (v w : View) (n : Reader) (first before ahead rest : List ℕ) → before ≡ first → v.left n.file ≡ Some rest
    → TookInto v w n.file before ahead → 24 ≤ length ahead → length ahead ≤ 65559 → n.ahead.waiting ≡ drop 24 ahead → n.progress.count ≡ 0
    → n.progress.place ≡ 24 → n.fault ≡ None → header (first ++ rest) ≡ Formed (form n.head) → Represents w n (first ++ rest) []
started v w n first before ahead rest taken h t enough bound passed count place sound formed =
    let bytes = first ++ rest in
    let p = pending_took v w n.file 0 before ahead bytes (pending_start v n.file first before rest taken h) t in
    record {
      formed = formed;
      stand = tt;
      count = count;
      place = place;
      pending = λ e. pending_same w n.file n.file 24 n.progress.place (drop 24 ahead) n.ahead.waiting bytes refl place passed (pending_passed w n.file 0 24 ahead bytes p enough);
      ahead = λ e. omega (arith, ap length passed, length-drop 24 ahead, bound);
      cause = subst (λ q. IsCause q (step (form n.head) bytes 0 24)) (sym sound) tt;
    }
