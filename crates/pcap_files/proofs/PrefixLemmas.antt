-- A record that stands whole in some bytes stands so in longer ones, and in a prefix that holds it.
use Rattle.std.proofs.Common.{◌≡◌, ◌≤◌, ◌<◌, ◌∙◌, ◌+◌, ℕ, List, [], ◌∷◌, ◌++◌, length, take, drop, refl, sym, ap, subst, arith, inl, append-nil, append_assoc, length-append, length-drop}
use Rattle.std.specs.Prelude.{Bool, true, false, nat_lt, None, Some, Err, IsErrOf, if◌then◌else◌}
use Rattle.std.proofs.lemmas.Bool.{ltb-false}
use Rattle.std.proofs.lemmas.List.{drop-append-le, length-take, take-append-drop}
use Rattle.play_base.specs.View.{View}
use Rattle.capture_model.specs.declared.damage.Damage.{Damage}
use Rattle.capture_model.specs.declared.damage.DamageKind.TheVariants.{ShortHead}
use Rattle.capture_model.specs.Capture.{Form, Step, End, Next, Fault, Limit, IsLast, Stand, Formed, Unformed, Header, Reads, ReadsFrom, header, damage, step, place_after}
use Rattle.capture_model.specs.Capture as capture
use Rattle.capture_model.proofs.OutcomeLemmas.{next_place}
use Rattle.pcap_files.specs.Ahead.{TookInto}
use Rattle.pcap_files.specs.Faults.{fault_of}
use Rattle.pcap_files.specs.Forms.{form}
use Rattle.pcap_files.specs.Reading.{AreAllTaken, Represents}
use Rattle.pcap_files.specs.Stand.{stand_at, step_of}
use Rattle.pcap_files.specs.declared.stand.Stand.{Stand as Stands}
use Rattle.pcap_files.specs.declared.stand.Stand.TheVariants as stands
use Rattle.pcap_files.specs.declared.stand.Stand.TheVariants.{Headed}
use Rattle.pcap_files.specs.declared.fault.CaptureFault.{CaptureFault}
use Rattle.pcap_files.specs.declared.fault.CaptureFault.TheVariants as fault
use Rattle.pcap_files.specs.declared.reader.Reader.{Reader}
use Rattle.play_base.specs.declared.trouble.Trouble.{Trouble}
use Rattle.play_base.specs.declared.trouble.Trouble.TheVariants as trouble
use Rattle.pcap_files.proofs.PlaceLemmas.{seen, step_here}
use Rattle.pcap_files.proofs.ReaderLemmas.{Head, StandsHead, head_seen, is_less, pending_start, pending_took, reads_formed}

is_whole : (b : Bool) (d : Damage) (x r : capture.Record) (m n : ℕ) → (if b then Fault d else Next x m) ≡ Next r n → b ≡ false
is_whole true d x r m n h = absurd (cc)
is_whole false d x r m n h = refl

ends_at : (b : Bool) (d : Damage) (x r : capture.Record) (m n : ℕ) → (if b then Fault d else Next x m) ≡ Next r n → m ≡ n
ends_at true d x r m n h = absurd (cc)
ends_at false d x r m n h = cc

pub headed_ends : (stamp captured original at n : ℕ) (bytes : List ℕ) (r : capture.Record) → step_of (Headed stamp captured original) at bytes ≡ Next r n
    → n ≡ at + 16 + captured
headed_ends stamp captured original at n bytes r h = sym (ends_at (nat_lt (length bytes) (16 + captured)) _ _ r (at + 16 + captured) n h)

-- where enough bytes stand the same is made of them and of longer ones
same_headed : (stamp captured original at : ℕ) (xs ys : List ℕ) → 16 + captured ≤ length xs
    → step_of (Headed stamp captured original) at (xs ++ ys) ≡ step_of (Headed stamp captured original) at xs
same_headed stamp captured original at xs ys fits =
    let long : nat_lt (length (xs ++ ys)) (16 + captured) ≡ false = grind (arith, length-append xs ys, fits) in
    let here : nat_lt (length xs) (16 + captured) ≡ false = grind (arith, fits) in
    rw (long, here, seen captured 16 xs ys fits) refl

more_bytes : (q : Stands) (at : ℕ) (xs ys : List ℕ) (r : capture.Record) (n : ℕ) → step_of q at xs ≡ Next r n → step_of q at (xs ++ ys) ≡ Next r n
more_bytes stands.End at xs ys r n h = absurd (cc)
more_bytes stands.Limit at xs ys r n h = absurd (cc)
more_bytes (stands.Damaged kind) at xs ys r n h = absurd (cc)
more_bytes (Headed stamp captured original) at xs ys r n h =
    let short = is_whole (nat_lt (length xs) (16 + captured)) _ _ r _ n h in
    same_headed stamp captured original at xs ys (ltb-false (length xs) (16 + captured) short) ∙ h

fewer_bytes : (q : Stands) (at : ℕ) (xs ys : List ℕ) (r : capture.Record) (n : ℕ) → step_of q at (xs ++ ys) ≡ Next r n → n ≤ at + length xs
    → step_of q at xs ≡ Next r n
fewer_bytes stands.End at xs ys r n h fits = absurd (cc)
fewer_bytes stands.Limit at xs ys r n h fits = absurd (cc)
fewer_bytes (stands.Damaged kind) at xs ys r n h fits = absurd (cc)
fewer_bytes (Headed stamp captured original) at xs ys r n h fits =
    let place = ends_at (nat_lt (length (xs ++ ys)) (16 + captured)) _ _ r (at + 16 + captured) n h in
    sym (same_headed stamp captured original at xs ys (omega (arith, place, fits))) ∙ h

-- what stands at a place of bytes that hold a whole header there, and of longer ones
record Steps (f : Form) (xs ys : List ℕ) (count at : ℕ) : Type 0 where
  here : step f xs count at ≡ step_of (stand_at f count at (drop at xs)) at (drop at xs)
  longer : step f (xs ++ ys) count at ≡ step_of (stand_at f count at (drop at xs)) at (drop at xs ++ ys)

steps : (f : Form) (xs ys : List ℕ) (count at : ℕ) → at + 16 ≤ length xs → Steps f xs ys count at
steps f xs ys count at fits =
    let split : drop at (xs ++ ys) ≡ drop at xs ++ ys = drop-append-le at xs ys (omega (arith, fits)) in
    let head : 16 ≤ length (drop at xs) = omega (arith, length-drop at xs, fits) in
    record {
      here = step_here f xs (drop at xs) [] count at (omega (arith, fits)) (sym (append-nil (drop at xs))) (inl head);
      longer = step_here f (xs ++ ys) (drop at xs) ys count at (omega (arith, length-append xs ys, fits)) split (inl head)
          ∙ ap (λ (bs : List ℕ). step_of (stand_at f count at (drop at xs)) at bs) split;
    }

pub next_longer : (f : Form) (xs ys : List ℕ) (count at : ℕ) (r : capture.Record) (n : ℕ) → step f xs count at ≡ Next r n → step f (xs ++ ys) count at ≡ Next r n
next_longer f xs ys count at r n h =
    let place = next_place f xs count at r n h in
    let s = steps f xs ys count at (omega (arith, place.0, place.1)) in
    s.longer ∙ more_bytes (stand_at f count at (drop at xs)) at (drop at xs) ys r n (sym s.here ∙ h)

pub next_prefix : (f : Form) (xs ys : List ℕ) (count at : ℕ) (r : capture.Record) (n : ℕ) → step f (xs ++ ys) count at ≡ Next r n → n ≤ length xs
    → step f xs count at ≡ Next r n
next_prefix f xs ys count at r n h fits =
    let place = next_place f (xs ++ ys) count at r n h in
    let s = steps f xs ys count at (omega (arith, place.0, fits)) in
    s.here ∙ fewer_bytes (stand_at f count at (drop at xs)) at (drop at xs) ys r n (sym s.longer ∙ h) (omega (arith, length-drop at xs, place.0, fits))

place_rises : (at : ℕ) (rs : List capture.Record) → at ≤ place_after at rs
place_rises at [] = omega arith
place_rises at (r ∷ rs) = omega (arith, place_rises (at + 16 + length r.captured) rs)

pub stand_prefix : (f : Form) (xs ys : List ℕ) (count at : ℕ) (rs : List capture.Record) → Stand f (xs ++ ys) count at rs → place_after at rs ≤ length xs
    → Stand f xs count at rs
stand_prefix f xs ys count at [] s fits = tt
stand_prefix f xs ys count at (r ∷ rs) s fits = (
  next_prefix f xs ys count at r (at + 16 + length r.captured) s.0 (omega (arith, place_rises (at + 16 + length r.captured) rs, fits)),
  stand_prefix f xs ys (count + 1) (at + 16 + length r.captured) rs s.1 fits,
)

-- a step is a last one, or a record
is_last : (s : Step) → ((r : capture.Record) (n : ℕ) → s ≡ Next r n → ⊥) → IsLast s
is_last End h = tt
is_last (Next r n) h = h r n refl
is_last (Fault d) h = tt
is_last Limit h = tt

-- a read that failed while a record was not whole
pub all_taken : (v w : View) (r : Reader) (ahead bytes : List ℕ) (records : List capture.Record) → Represents v r bytes records → r.fault ≡ None
    → TookInto v w r.file r.ahead.waiting ahead
    → ((x : capture.Record) (n : ℕ) → step (form r.head) bytes (length records) (place_after 24 records) ≡ Next x n → place_after 24 records + length ahead < n)
    → AreAllTaken w r.file bytes records
all_taken v w r ahead bytes records s sound t short =
    let at = r.progress.place in
    let p = pending_took v w r.file at r.ahead.waiting ahead bytes (s.pending sound) t in
    let rest = p.rest.0 in
    let taken = take at bytes ++ ahead in
    let split : bytes ≡ taken ++ rest = sym (take-append-drop at bytes) ∙ ap (λ (xs : List ℕ). take at bytes ++ xs) p.rest.2 ∙ sym (append_assoc (take at bytes) ahead rest) in
    let long : length taken ≡ at + length ahead = omega (arith, length-append (take at bytes) ahead, length-take at bytes, p.place) in
    let far = place_rises 24 records in
    let same = s.place in
    let head : header taken ≡ Formed (form r.head) =
    sym (head_seen taken rest (inl (omega (arith, long, far, same)))) ∙ ap header (sym split) ∙ s.formed in
    record {
      taken = taken;
      rest = rest;
      split = split;
      left = p.rest.1;
      last = step (form r.head) taken (length records) (place_after 24 records);
      reads = reads_formed (form r.head) taken records _ head (record {
        stand = stand_prefix (form r.head) taken rest 0 24 records (subst (λ (xs : List ℕ). Stand (form r.head) xs 0 24 records) split s.stand) (omega (arith, long, same));
        ended = refl;
      });
      ended = is_last _ (λ x n h.
          let more = short x n (ap (λ (xs : List ℕ). step (form r.head) xs (length records) (place_after 24 records)) split
          ∙ next_longer (form r.head) taken rest (length records) (place_after 24 records) x n h) in
          let inside = (next_place (form r.head) taken (length records) (place_after 24 records) x n h).1 in
          omega (arith, more, inside, long, same));
    }

-- a read that failed before the head of the file was whole
pub none_taken : (v w : View) (file : ℕ) (first before ahead rest : List ℕ) → before ≡ first → v.left file ≡ Some rest → TookInto v w file before ahead
    → length ahead < 24 → AreAllTaken w file (first ++ rest) []
none_taken v w file first before ahead rest taken h t short =
    let p = pending_took v w file 0 before ahead (first ++ rest) (pending_start v file first before rest taken h) t in
    let test : nat_lt (length ahead) 24 ≡ true = is_less (length ahead) 24 short in
    let head : header ahead ≡ Unformed (damage (length ahead) ShortHead) = rw test refl in
    record {
      taken = ahead;
      rest = p.rest.0;
      split = p.rest.2;
      left = p.rest.1;
      last = Fault (damage (length ahead) ShortHead);
      reads = subst (λ (x : Header). ReadsFrom x ahead [] (Fault (damage (length ahead) ShortHead))) (sym head) (refl, refl);
      ended = tt;
    }

-- what was needed of the record that stands there, a header at least, was not there
pub part_taken : (v w : View) (r : Reader) (ahead bytes : List ℕ) (records : List capture.Record) → Represents v r bytes records → r.fault ≡ None
    → TookInto v w r.file r.ahead.waiting ahead → length ahead < 16 → AreAllTaken w r.file bytes records
part_taken v w r ahead bytes records s sound t fewer =
    all_taken v w r ahead bytes records s sound t (λ x n h.
    let place = (next_place (form r.head) bytes (length records) (place_after 24 records) x n h).0 in
    omega (arith, place, fewer))

pub headed_taken : (v w : View) (r : Reader) (ahead bytes : List ℕ) (records : List capture.Record) (h : Head) → Represents v r bytes records → r.fault ≡ None
    → TookInto v w r.file r.ahead.waiting ahead → StandsHead r bytes records h → length ahead < 16 + h.captured → AreAllTaken w r.file bytes records
headed_taken v w r ahead bytes records h s sound t here fewer =
    all_taken v w r ahead bytes records s sound t (λ x n e.
    let place = headed_ends h.stamp h.captured h.original r.progress.place n (drop r.progress.place bytes) x (sym here ∙ e) in
    omega (arith, place, s.place, fewer))

-- only a failed call is a fault of reading
pub failed_of : {T : Type 0} (t : Trouble) (f : CaptureFault) → f ≡ fault_of t → IsErrOf {T = T} (Err f) fault.Read
    → IsErrOf {T = Unit {0}} (Err t) trouble.Failed
failed_of trouble.Failed f e h = refl
failed_of trouble.NoMemory f e h = absurd (cc)
