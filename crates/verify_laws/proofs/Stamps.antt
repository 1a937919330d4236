-- The stamps of the records that are played are far below 2^64.
use Rattle.std.proofs.Common.{◌≡◌, ◌<◌, ◌≤◌, ◌+◌, ◌*◌, ◌^◌, ◌⊎◌, inl, inr, ℕ, zero, suc, Bool, true, false, List, [], ◌∷◌, ◌++◌, length, None, Some, get_or, refl, ap, sym, subst, arith}
use Rattle.std.specs.Prelude.{◌==◌, ◌||◌, ◌&&◌, ◌/◌, All, drop, if◌then◌else◌, nat_le, nat_lt, not, slice_get, take}
use Rattle.std.specs.declared.option.Option.{Option}
use Rattle.std.proofs.lemmas.Bool.{cases_lt}
use Rattle.std.proofs.lemmas.Bool.Decides.{nat_tests}
use Rattle.std.proofs.lemmas.List.Elements.{All-drop, All-take}
use Rattle.arrivals_front.specs.Given.{ReadAs, ReadBy, is_pcapng}
use Rattle.capture_model.specs.Capture.{End, Fault, Form, Formed, Header, IsCapture, IsLast, Limit, Next, ReadsFrom, Record, Stand, Step, Unformed, damage, header, longest, most_bytes, most_records, stamp, step, word}
use Rattle.capture_model.specs.declared.damage.DamageKind.TheVariants.{ShortRecord, EmptyRecord as EmptyPacket, LongRecord as LongPacket}
use Rattle.pcap_files.proofs.ReadingLaws.{one_reading}
use Rattle.pcapng_model.specs.declared.fault.NgKind.{NgKind}
use Rattle.pcapng_model.specs.declared.fault.NgKind.TheVariants.{BadBlock, BadLink, BadResolution, BadStamp, BadVersion, EmptyRecord, LongRecord, OldPacket, UnknownInterface}
use Rattle.pcapng_model.specs.Block.{Broken, Found, Framed, NewSection, Passed, BlockContent, Tells, Refuses, TooMany, Whole, count_in, described, described_by, framed, packet_on, section_type, stamped, told, told_interface, told_packet, told_section}
use Rattle.pcapng_model.specs.Interface.{Interface, Settings, early, moved, options, units_of}
use Rattle.pcapng_model.specs.Number.{number, padded}
use Rattle.pcapng_model.specs.Reading.{Block, IsPcapng, Place, packets, packets_in, past, start, step_by, step_in}
use Rattle.pcapng_model.specs.Reading as ng

-- no record has a later stamp than 2^32 - 1 seconds and as many millionths of a second
abbrev pub stamps_end : ℕ
stamps_end = 2 ^ 32 * 10 ^ 9 + 2 ^ 32 * 1000

abbrev pub AreEarly : List Record → Type 0
AreEarly [] = Unit {0}
AreEarly (r ∷ rs) = (r.stamp < stamps_end) × AreEarly rs

early_append : (xs ys : List Record) → AreEarly xs → AreEarly ys → AreEarly (xs ++ ys)
early_append [] ys a b = b
early_append (x ∷ xs) ys a b = (a.0, early_append xs ys a.1 b)

-- A CLASSIC CAPTURE
abbrev pub AreBytes : List ℕ → Type 0
AreBytes bytes = All (λ b. b < 256) bytes

byte_in : (bytes : List ℕ) (k : ℕ) → AreBytes bytes → (k < length bytes) ⊎ (length bytes ≤ k) → get_or bytes k 0 < 256
byte_in bytes k all (inl low) = all k 0 low
byte_in bytes k all (inr past) = let none : get_or bytes k 0 ≡ 0 = past_end bytes k past in omega (arith, none)
  where
    past_end : (xs : List ℕ) (n : ℕ) → length xs ≤ n → get_or xs n 0 ≡ 0
    past_end [] n l = refl
    past_end (x ∷ xs) zero l = absurd (omega (arith, l))
    past_end (x ∷ xs) (suc n) l = past_end xs n (omega (arith, l))

four_bytes : (big : Bool) (bytes : List ℕ) (at : ℕ) → AreBytes bytes → word big bytes at < 2 ^ 32
four_bytes big bytes at all = go big
  where
    small : (k : ℕ) → get_or (take 4 (drop at bytes)) k 0 < 256
    small k =
        byte_in (take 4 (drop at bytes)) k (All-take (λ b. b < 256) 4 (drop at bytes) (All-drop (λ b. b < 256) at bytes all))
        (cases_lt k (length (take 4 (drop at bytes))))

    go : (b : Bool) → word b bytes at < 2 ^ 32
    go true = omega (arith, small 0, small 1, small 2, small 3)
    go false = omega (arith, small 0, small 1, small 2, small 3)

early_by : (nanos : Bool) (seconds part : ℕ) → seconds < 2 ^ 32 → part < 2 ^ 32 → seconds * 10 ^ 9 + part * (if nanos then 1 else 1000) < stamps_end
early_by true seconds part a b = omega (arith, a, b)
early_by false seconds part a b = omega (arith, a, b)

stamp_early : (form : Form) (bytes : List ℕ) (at : ℕ) → AreBytes bytes → stamp form bytes at < stamps_end
stamp_early form bytes at all =
    early_by form.nanos (word form.big bytes at) (word form.big bytes (at + 4)) (four_bytes form.big bytes at all) (four_bytes form.big bytes (at + 4) all)

last_not_next : (s : Step) (x : Record) (n : ℕ) → IsLast s → s ≡ Next x n → ⊥
last_not_next s x n l e = subst (λ (t : Step). IsLast t) e l

-- a test that ends the reading was not met
unmet : (b : Bool) (s t : Step) (x : Record) (n : ℕ) → (if b then s else t) ≡ Next x n → IsLast s → t ≡ Next x n
unmet true s t x n e l = absurd (last_not_next s x n l e)
unmet false s t x n e l = e

next_stamp : (x y : Record) (m n : ℕ) → Next y m ≡ Next x n → y.stamp ≡ x.stamp
next_stamp x y m n e = let same : y ≡ x = cc in ap (λ (r : Record). r.stamp) same

step_early : (form : Form) (bytes : List ℕ) (count at : ℕ) (x : Record) (n : ℕ) → AreBytes bytes → step form bytes count at ≡ Next x n → x.stamp < stamps_end
step_early form bytes count at x n all e =
    let captured = word form.big bytes (at + 8) in
    let original = word form.big bytes (at + 12) in
    let there : Record = record { stamp = stamp form bytes at; captured = take captured (drop (at + 16) bytes); original = original } in
    let next : Step = Next there (at + 16 + captured) in
    let whole : Step = if nat_lt (length bytes) (at + 16 + captured) then Fault (damage at ShortRecord) else next in
    let room : Step = if nat_lt most_bytes (at + 16 + captured) then Limit else whole in
    let some : Step = if (captured == 0) && (original == 0) then Fault (damage at EmptyPacket) else room in
    let short : Step = if nat_lt longest captured || nat_lt longest original then Fault (damage at LongPacket) else some in
    let headed : Step = if nat_lt (length bytes) (at + 16) then Fault (damage at ShortRecord) else short in
    let few : Step = if count == most_records then Limit else headed in
    let a = unmet (nat_le (length bytes) at) End few x n e tt in
    let b = unmet (count == most_records) Limit headed x n a tt in
    let c = unmet (nat_lt (length bytes) (at + 16)) (Fault (damage at ShortRecord)) short x n b tt in
    let d = unmet (nat_lt longest captured || nat_lt longest original) (Fault (damage at LongPacket)) some x n c tt in
    let f = unmet ((captured == 0) && (original == 0)) (Fault (damage at EmptyPacket)) room x n d tt in
    let g = unmet (nat_lt most_bytes (at + 16 + captured)) Limit whole x n f tt in
    let h = unmet (nat_lt (length bytes) (at + 16 + captured)) (Fault (damage at ShortRecord)) next x n g tt in
    let same = next_stamp x there (at + 16 + captured) n h in
    let low = stamp_early form bytes at all in
    omega (arith, same, low)

stand_early : (form : Form) (bytes : List ℕ) (count at : ℕ) (records : List Record) → AreBytes bytes → Stand form bytes count at records → AreEarly records
stand_early form bytes count at [] all s = tt
stand_early form bytes count at (r ∷ rs) all s =
    (step_early form bytes count at r (at + 16 + length r.captured) all s.0, stand_early form bytes (count + 1) (at + 16 + length r.captured) rs all s.1)

formed_early : (h : Header) (bytes : List ℕ) (records : List Record) (last : Step) → AreBytes bytes → ReadsFrom h bytes records last → AreEarly records
formed_early (Formed form) bytes records last all x = stand_early form bytes 0 24 records all x.stand
formed_early (Unformed fault) bytes records last all x = let P : List Record → Type 0 = λ rs. AreEarly rs in subst P (sym x.0) tt

-- A PCAPNG FILE
abbrev Early : BlockContent → Type 0
Early (Tells found) = AreEarly (packets_in found)
Early (Refuses kind) = Unit {0}
Early TooMany = Unit {0}

record IsEarly (t : BlockContent) : Type 0 where
  is : Early t

refused : (kind : NgKind) → IsEarly (Refuses kind)
refused kind = record { is = tt }

no_packet : (found : Found) → AreEarly (packets_in found) → IsEarly (Tells found)
no_packet found x = record { is = x }

either : (b : Bool) (s t : BlockContent) → IsEarly s → IsEarly t → IsEarly (if b then s else t)
either true s t x y = x
either false s t x y = y

section_early : (big : Bool) (body : List ℕ) → IsEarly (told_section big body)
section_early big body =
    let last : BlockContent = if not (number big 2 body 4 == 1) then Refuses BadVersion else Tells (NewSection big) in
    either (nat_lt (length body) 16) (Refuses BadBlock) last (refused BadBlock)
    (either (not (number big 2 body 4 == 1)) (Refuses BadVersion) (Tells (NewSection big)) (refused BadVersion) (no_packet (NewSection big) tt))

described_early : (link offset : ℕ) (o : Option ℕ) → IsEarly (described link offset o)
described_early link offset None = refused BadResolution
described_early link offset (Some units) = record { is = tt }

interface_by : (link : ℕ) (o : Option Settings) → IsEarly (described_by link o)
interface_by link None = refused BadBlock
interface_by link (Some s) = described_early link s.offset (units_of s.resolution)

interface_early : (big : Bool) (body : List ℕ) → IsEarly (told_interface big body)
interface_early big body =
    let settings = options big (drop 8 body) in
    let link = number big 2 body 0 in
    either (nat_lt (length body) 8) (Refuses BadBlock) (described_by link settings) (refused BadBlock) (interface_by link settings)

stamped_if : (b : Bool) (t : ℕ) (captured : List ℕ) (original : ℕ) → (b ≡ true → t < stamps_end)
    → IsEarly (stamped (if b then Some t else None) captured original)
stamped_if true t captured original low = record { is = (low refl, tt) }
stamped_if false t captured original low = refused BadStamp

below : (t : ℕ) → nat_lt t (2 ^ 32 * 10 ^ 9) ≡ true → t < stamps_end
below t e = let low : t < 2 ^ 32 * 10 ^ 9 = grind (arith, nat_tests, e) in omega (arith, low)

stamped_early : (o : Option ℕ) (captured : List ℕ) (original : ℕ) → IsEarly (stamped (early o) captured original)
stamped_early None captured original = refused BadStamp
stamped_early (Some t) captured original = stamped_if (nat_lt t (2 ^ 32 * 10 ^ 9)) t captured original (below t)

packet_by : (o : Option Interface) (big : Bool) (body : List ℕ) → IsEarly (packet_on o big body)
packet_by None big body = refused UnknownInterface
packet_by (Some i) big body =
    let captured = number big 4 body 12 in
    let original = number big 4 body 16 in
    let is : BlockContent = stamped (early (moved i.offset (count_in big body * 10 ^ 9 / i.units))) (take captured (drop 20 body)) original in
    let empty : BlockContent = if (captured == 0) && (original == 0) then Refuses EmptyRecord else is in
    let long : BlockContent = if nat_lt longest captured || nat_lt longest original then Refuses LongRecord else empty in
    either (not (i.link == 1)) (Refuses BadLink) long (refused BadLink)
    (either (nat_lt longest captured || nat_lt longest original) (Refuses LongRecord) empty (refused LongRecord)
    (either ((captured == 0) && (original == 0)) (Refuses EmptyRecord) is (refused EmptyRecord)
    (stamped_early (moved i.offset (count_in big body * 10 ^ 9 / i.units)) (take captured (drop 20 body)) original)))

packet_early : (big : Bool) (body : List ℕ) (interfaces : List Interface) (count : ℕ) → IsEarly (told_packet big body interfaces count)
packet_early big body interfaces count =
    let short : Bool = nat_lt (length body) 20 || nat_lt (length body) (20 + padded (number big 4 body 12)) in
    let found : Option Interface = slice_get interfaces (number big 4 body 0) in
    either short (Refuses BadBlock) (if count == most_records then TooMany else packet_on found big body) (refused BadBlock)
    (either (count == most_records) TooMany (packet_on found big body) (record { is = tt }) (packet_by found big body))

told_early : (big : Bool) (kind : ℕ) (body : List ℕ) (interfaces : List Interface) (count : ℕ) → IsEarly (told big kind body interfaces count)
told_early big kind body interfaces count =
    let packet : BlockContent = if kind == 6 then told_packet big body interfaces count else Tells Passed in
    let old : BlockContent = if (kind == 2) || (kind == 3) then Refuses OldPacket else packet in
    let interface : BlockContent = if kind == 1 then told_interface big body else old in
    either (kind == section_type) (told_section big body) interface (section_early big body)
    (either (kind == 1) (told_interface big body) old (interface_early big body)
    (either ((kind == 2) || (kind == 3)) (Refuses OldPacket) packet (refused OldPacket)
    (either (kind == 6) (told_packet big body interfaces count) (Tells Passed) (packet_early big body interfaces count) (record { is = tt }))))

ng_not_next : (s : ng.Step) (b : Block) → ng.IsLast s → s ≡ ng.Next b → ⊥
ng_not_next s b l e = subst (λ (t : ng.Step). ng.IsLast t) e l

ng_unmet : (c : Bool) (s t : ng.Step) (b : Block) → (if c then s else t) ≡ ng.Next b → ng.IsLast s → t ≡ ng.Next b
ng_unmet true s t b e l = absurd (ng_not_next s b l e)
ng_unmet false s t b e l = e

found_same : (x : Found) (n : ℕ) (b : Block) → ng.Next (record { found = x; after = n }) ≡ ng.Next b → x ≡ b.found
found_same x n b e = let same : record { found = x; after = n } ≡ b = cc in ap (λ (c : Block). c.found) same

by_told : (at after : ℕ) (t : BlockContent) (b : Block) → IsEarly t → step_by at after t ≡ ng.Next b → AreEarly (packets_in b.found)
by_told at after (Tells x) b early e = let P : Found → Type 0 = λ y. AreEarly (packets_in y) in subst P (found_same x after b e) early.is
by_told at after (Refuses kind) b early e = absurd (ng_not_next _ b tt e)
by_told at after TooMany b early e = absurd (ng_not_next _ b tt e)

by_frame : (p : Place) (f : Framed) (b : Block) → step_in p f ≡ ng.Next b → AreEarly (packets_in b.found)
by_frame p (Broken kind) b e = absurd (ng_not_next _ b tt e)
by_frame p (Whole big kind body after) b e = by_told p.at after (told big kind body p.interfaces p.count) b (told_early big kind body p.interfaces p.count) e

block_early : (bytes : List ℕ) (p : Place) (b : Block) → ng.step bytes p ≡ ng.Next b → AreEarly (packets_in b.found)
block_early bytes p b e =
    let here : ng.Step = step_in p (framed p.big bytes p.at) in
    let few : ng.Step = if nat_lt most_bytes (length bytes) then ng.Limit else here in
    by_frame p (framed p.big bytes p.at) b
    (ng_unmet (nat_lt most_bytes (length bytes)) ng.Limit here b (ng_unmet (nat_le (length bytes) p.at) ng.End few b e tt) tt)

blocks_early : (bytes : List ℕ) (p : Place) (bs : List Block) → ng.Stand bytes p bs → AreEarly (packets bs)
blocks_early bytes p [] s = tt
blocks_early bytes p (b ∷ bs) s = early_append (packets_in b.found) (packets bs) (block_early bytes p b s.0) (blocks_early bytes (past p b) bs s.1)

pcapng_early : (bytes : List ℕ) (records : List Record) → IsPcapng bytes records → AreEarly records
pcapng_early bytes records x = let P : List Record → Type 0 = λ rs. AreEarly rs in subst P x.packets_are (blocks_early bytes start x.blocks x.stand)

-- WHAT IS PLAYED OF WHAT IS GIVEN
early_of : (pcapng : Bool) (given capture : List ℕ) (records : List Record) → AreBytes given → ReadBy pcapng given capture → IsCapture capture records
    → AreEarly records
early_of false given capture records all same reads =
    let P : List ℕ → Type 0 = λ bytes. AreBytes bytes in
    formed_early (header capture) capture records End (subst P same all) reads
early_of true given capture records all x reads =
    let one = one_reading capture x.records records End End x.reads_back tt reads tt in
    let P : List Record → Type 0 = λ rs. AreEarly rs in
    subst P one.0 (pcapng_early given x.records x.read)

pub played_early : (given capture : List ℕ) (records : List Record) → AreBytes given → ReadAs given capture → IsCapture capture records → AreEarly records
played_early given capture records all x reads = early_of (is_pcapng given) given capture records all x reads
