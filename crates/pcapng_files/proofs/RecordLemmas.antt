-- The record of a packet, put into the bytes of a file.
use Rattle.std.specs.Prelude.{◌≡◌, ◌≤◌, ◌<◌, ◌+◌, ◌-◌, ◌*◌, ◌^◌, ℕ, max, List, [], ◌∷◌, ◌++◌, length, take, drop, None, Some, IfSome}
use Rattle.std.specs.declared.option.Option.{Option}
use Rattle.std.proofs.Common.{◌∙◌, refl, ap, sym, subst, arith, inl, inr, append_assoc, length-drop, length-take}
use Rattle.std.proofs.Math.Seq.{paste, take-add, take-append-add, take_at, drop_at}
use Rattle.std.proofs.lemmas.Bool.{cases_lt}
use Rattle.std.specs.List.{copy_within}
use Rattle.std.proofs.lemmas.Grind.{common_steps}
use Rattle.std.proofs.lemmas.Slice.{put_mid-paste}
use borrow.Rule.Slice.PartMut.{put_mid}
use Rattle.std.proofs.lemmas.List.{drop-take, take-append-le}
use Rattle.std.proofs.lemmas.List.Edits.{take-paste, drop-paste, length-paste}
use Rattle.capture_model.specs.Capture.{Record}
use Rattle.capture_model.specs.Header.{capture_header, record_header}
use Rattle.capture_model.specs.Written.{FitsCapture, record_text}
use Rattle.pcapng_files.proofs.UnreadLemmas.{drop_further, drop_more}
use Rattle.pcapng_files.specs.Views.{packet, records_of}
use Rattle.pcapng_files.specs.declared.packet.Packet.{Packet}

-- n elements of s stand over xs in `mid`, 16 behind `at`, and over that a head in `new`
pub record IsWritten (xs mid new s head : List ℕ) (at n : ℕ) : Type 0 where
  pub moved : mid ≡ paste xs (at + 16) s n
  pub headed : new ≡ paste mid at head 16
  pub sixteen : length head ≡ 16
  pub room : at + 16 + n ≤ length xs
  pub some : n ≤ length s

length_front : (xs : List ℕ) (n : ℕ) → n ≤ length xs → length (take n xs) ≡ n
length_front xs n short = grind (arith, common_steps)

take_less : (xs : List ℕ) (at more : ℕ) → take at (take (at + more) xs) ≡ take at xs
take_less xs at more = grind (arith, common_steps)

take_of : (xs : List ℕ) (n : ℕ) → length xs ≡ n → take n xs ≡ xs
take_of xs n all = grind (arith, common_steps)

pasted : (xs s : List ℕ) (at n : ℕ) → at + n ≤ length xs → n ≤ length s → take n (drop at (paste xs at s n)) ≡ take n s
pasted xs s at n room some =
    sym (drop-take at n (paste xs at s n)) ∙ ap (drop at) (take-paste xs at s n (omega arith) some)
    ∙ drop_at (take at xs) (take n s) at (length_front xs at (omega arith))

before : (xs s : List ℕ) (at more n : ℕ) → at + more + n ≤ length xs → n ≤ length s → take at (paste xs (at + more) s n) ≡ take at xs
before xs s at more n room some =
    let p = paste xs (at + more) s n in
    sym (take_less p at (more + n)) ∙ ap (λ (k : ℕ). take at (take k p)) (omega arith)
    ∙ ap (take at) (take-paste xs (at + more) s n (omega arith) some)
    ∙ take-append-le at (take (at + more) xs) (take n s) (omega (arith, length_front xs (at + more) (omega arith)))
    ∙ take_less xs at more

size_moved : (xs mid new s head : List ℕ) (at n : ℕ) → IsWritten xs mid new s head at n → length mid ≡ length xs
size_moved xs mid new s head at n w = ap (length {A = ℕ}) w.moved ∙ length-paste xs (at + 16) s n w.room w.some

behind : (xs mid new s head : List ℕ) (at n : ℕ) → IsWritten xs mid new s head at n → drop (at + 16) new ≡ drop (at + 16) mid
behind xs mid new s head at n w =
    ap (drop (at + 16)) w.headed
    ∙ drop-paste mid at head 16 (omega (arith, size_moved xs mid new s head at n w, w.room)) (omega (arith, w.sixteen))

headed : (xs mid new s head : List ℕ) (at n : ℕ) → IsWritten xs mid new s head at n → take (at + 16) new ≡ take at xs ++ head
headed xs mid new s head at n w =
    ap (take (at + 16)) w.headed
    ∙ take-paste mid at head 16 (omega (arith, size_moved xs mid new s head at n w, w.room)) (omega (arith, w.sixteen))
    ∙ ap (λ (h : List ℕ). take at mid ++ h) (take_of head 16 w.sixteen)
    ∙ ap (λ (f : List ℕ). f ++ head) (ap (take at) w.moved ∙ before xs s at 16 n w.room w.some)

pub text_put : (xs mid new s head : List ℕ) (at n : ℕ) → IsWritten xs mid new s head at n → take (at + 16 + n) new ≡ take at xs ++ (head ++ take n s)
text_put xs mid new s head at n w =
    take-add (at + 16) n new
    ∙ ap (λ (f : List ℕ). f ++ take n (drop (at + 16) new)) (headed xs mid new s head at n w)
    ∙ ap (λ (b : List ℕ). take at xs ++ head ++ take n b) (behind xs mid new s head at n w ∙ ap (drop (at + 16)) w.moved)
    ∙ ap (λ (b : List ℕ). take at xs ++ head ++ b) (pasted xs s (at + 16) n w.room w.some)
    ∙ append_assoc (take at xs) head (take n s)

pub rest_put : (xs mid new s head : List ℕ) (at n : ℕ) → IsWritten xs mid new s head at n → drop (at + 16 + n) new ≡ drop (at + 16 + n) xs
rest_put xs mid new s head at n w =
    drop_more new (at + 16) n ∙ ap (drop n) (behind xs mid new s head at n w) ∙ sym (drop_more mid (at + 16) n)
    ∙ ap (drop (at + 16 + n)) w.moved ∙ drop-paste xs (at + 16) s n (omega (arith, w.room)) w.some

-- after the move and the write of the head
pub written_by : (xs mid now head : List ℕ) (at from n : ℕ) → mid ≡ copy_within xs from (from + n) (at + 16) → now ≡ head → length head ≡ 16
    → at + 16 + n ≤ length xs → from + n ≤ length xs → IsWritten xs mid (put_mid at (at + 16 - at) mid now) (drop from xs) head at n
written_by xs mid now head at from n moved put sixteen room here = record {
  moved = moved ∙ ap (λ (k : ℕ). paste xs (at + 16) (drop from xs) k) (omega arith);
  headed = put_mid-paste at (at + 16 - at) mid now head 16 put (omega arith) (sym sixteen);
  sixteen = sixteen;
  room = room;
  some = omega (arith, length-drop from xs, here);
}

-- the head and the moved bytes are the record of the packet
pub text_is : (xs head : List ℕ) (body : ℕ) (p : Packet) → head ≡ record_header p.stamp p.captured p.original → body + 20 + p.captured ≤ length xs
    → head ++ take p.captured (drop (body + 20) xs) ≡ record_text (packet (drop body xs) p)
text_is xs head body p is here =
    let same : drop (body + 20) xs ≡ drop 20 (drop body xs) = drop_more xs body 20 in
    let count : p.captured ≡ length (take p.captured (drop 20 (drop body xs))) = grind (arith, common_steps, here) in
    ap (λ (h : List ℕ). h ++ take p.captured (drop (body + 20) xs)) (is ∙ ap (λ (n : ℕ). record_header p.stamp n p.original) count)
    ∙ ap (λ (b : List ℕ). record_header p.stamp (length (take p.captured (drop 20 (drop body xs)))) p.original ++ take p.captured b) same

same_some : (a b : Packet) → Some a ≡ Some b → a ≡ b
same_some a b h = cc

pub rest_behind : (xs ys : List ℕ) (found : Option Packet) (p : Packet) (at n : ℕ) → found ≡ Some p
    → drop (at + 16 + p.captured) ys ≡ drop (at + 16 + p.captured) xs
    → IfSome found (λ q. at + 16 + q.captured ≤ n) → drop n ys ≡ drop n xs
rest_behind xs ys None p at n is same h = absurd (cc)
rest_behind xs ys (Some q) p at n is same h =
    let P : Packet → Type 0 = λ r. at + 16 + r.captured ≤ n in
    drop_further ys xs (at + 16 + p.captured) n (subst P (same_some q p is) h) same

-- a packet in a body that ends is that in the bytes from the body on
pub same_packet : (xs body : List ℕ) (at : ℕ) (p : Packet) → body ≡ take (length body) (drop at xs) → 20 + p.captured ≤ length body
    → packet body p ≡ packet (drop at xs) p
same_packet xs body at p is short =
    let more = length body - 20 in
    let all = drop at xs in
    let size : length body ≡ 20 + more = omega (arith, short) in
    let same : take p.captured (drop 20 body) ≡ take p.captured (drop 20 all) =
    ap (λ (b : List ℕ). take p.captured (drop 20 b)) (is ∙ ap (λ (n : ℕ). take n all) size)
    ∙ ap (take p.captured) (drop-take 20 more all)
    ∙ ap (λ (n : ℕ). take p.captured (take n (drop 20 all))) (omega (arith, size, short))
    ∙ take_less (drop 20 all) p.captured (more - p.captured) in
    ap (λ (b : List ℕ). record { stamp = p.stamp; captured = b; original = p.original }) same

pub same_records : (xs body : List ℕ) (at : ℕ) (found : Option Packet) → body ≡ take (length body) (drop at xs)
    → IfSome found (λ p. 20 + p.captured ≤ length body) → records_of body found ≡ records_of (drop at xs) found
same_records xs body at None is short = refl
same_records xs body at (Some p) is short = ap (λ (r : Record). r ∷ []) (same_packet xs body at p is short)

pub within_there : (xs body : List ℕ) (at : ℕ) (found : Option Packet) → body ≡ take (length body) (drop at xs)
    → IfSome found (λ p. 20 + p.captured ≤ length body) → IfSome found (λ p. FitsCapture (packet body p))
    → IfSome found (λ p. FitsCapture (packet (drop at xs) p))
within_there xs body at None is short within = tt
within_there xs body at (Some p) is short within = subst FitsCapture (same_packet xs body at p is short) within

-- a record ends before the next block
pub ends_before : (found : Option Packet) (written place interfaces body after : ℕ) → written ≤ max 24 place → 12 * interfaces ≤ place
    → IfSome found (λ p. 1 ≤ interfaces) → IfSome found (λ p. 20 + p.captured ≤ body) → place + 12 + body ≡ after
    → IfSome found (λ p. written + 16 + p.captured ≤ after)
ends_before None written place interfaces body after most room some short size = tt
ends_before (Some p) written place interfaces body after most room some short size = omega (arith, most, room, some, short, size)

pub ends_within : (found : Option Packet) (written after size : ℕ) → IfSome found (λ p. written + 16 + p.captured ≤ after) → after ≤ size
    → IfSome found (λ p. written + 16 + p.captured ≤ size)
ends_within None written after size ends within = tt
ends_within (Some p) written after size ends within = omega (arith, ends, within)

pub stands_within : (found : Option Packet) (place body after size : ℕ) → IfSome found (λ p. 20 + p.captured ≤ body) → place + 12 + body ≡ after
    → after ≤ size → IfSome found (λ p. place + 8 + 20 + p.captured ≤ size)
stands_within None place body after size short is within = tt
stands_within (Some p) place body after size short is within = omega (arith, short, is, within)

-- THE HEAD
-- what a vector holds whose elements were lent
pub lent_is : (xs ys : List ℕ) (n : ℕ) → n ≡ length xs → length ys ≡ length xs → take n (ys ++ drop (length ys) xs) ≡ ys
lent_is xs ys n size same = take_at ys (drop (length ys) xs) n (same ∙ sym size)

joined_fits : (front back : List ℕ) (most : ℕ) → length front ≡ 24 → length back + 24 ≤ most → length (front ++ back) ≤ most
joined_fits front back most size short = grind (arith, common_steps, size, short)

size_joined : (front xs : List ℕ) → length front ≡ 24 → 24 ≤ length xs → length (front ++ drop 24 xs) ≡ length xs
size_joined front xs size long = grind (arith, common_steps, size, long)

take_joined : (front xs file : List ℕ) (end : ℕ) → length front ≡ 24 → 24 ≤ end → drop 24 xs ≡ drop 24 file
    → take end (front ++ drop 24 xs) ≡ front ++ drop 24 (take end file)
take_joined front xs file end size far same =
    let more = end - 24 in
    let is : end ≡ 24 + more = omega (arith, far) in
    ap (λ (k : ℕ). take k (front ++ drop 24 xs)) (is ∙ ap (λ (k : ℕ). k + more) (sym size))
    ∙ take-append-add front (drop 24 xs) more
    ∙ ap (λ (b : List ℕ). front ++ take more b) same
    ∙ ap (λ (b : List ℕ). front ++ b) (sym (drop-take 24 more file))
    ∙ ap (λ (k : ℕ). front ++ drop 24 (take k file)) (sym is)

pub finished_is : (file xs put now : List ℕ) (end n : ℕ) → now ≡ take end (take n (put ++ drop (length put) xs)) → n ≡ length xs
    → put ≡ capture_header ++ drop 24 xs → 24 ≤ n → 24 ≤ end → drop 24 xs ≡ drop 24 file → now ≡ capture_header ++ drop 24 (take end file)
finished_is file xs put now end n is size joined long far same =
    let all : length put ≡ length xs = ap (length {A = ℕ}) joined ∙ size_joined capture_header xs refl (omega (arith, size, long)) in
    is ∙ ap (take end) (lent_is xs put n size all) ∙ ap (take end) joined ∙ take_joined capture_header xs file end refl far same

size_behind : (bytes : List ℕ) (end : ℕ) → length (drop 24 (take end bytes)) + 24 ≤ max 24 (length bytes)
size_behind bytes end = omega (arith, length-drop 24 (take end bytes), length-take end bytes)

pub finished_fits : (bytes : List ℕ) (end place : ℕ) → length bytes ≤ place → (0 < place → length bytes ≤ 2 ^ 30)
    → length (capture_header ++ drop 24 (take end bytes)) ≤ 2 ^ 30
finished_fits bytes end place past small =
    let back = size_behind bytes end in
    joined_fits capture_header (drop 24 (take end bytes)) (2 ^ 30) refl
    (elim (cases_lt 0 place) [
      | inl some ↦ let short : length bytes ≤ 2 ^ 30 = small some in omega (arith, back, short)
      | inr none ↦ omega (arith, back, none, past)
    ])
