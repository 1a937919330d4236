-- A conversion, block by block.
use Rattle.std.specs.Prelude.{◌≡◌, ◌≤◌, ◌<◌, ◌+◌, ℕ, Bool, List, [], ◌∷◌, ◌++◌, length, map, take, drop, All, None, Some}
use Rattle.std.proofs.Common.{◌∙◌, refl, ap, sym, subst, arith, append_assoc, append-nil, length-append}
use Rattle.std.specs.declared.option.Option.{Option}
use Rattle.std.proofs.lemmas.List.{map-append}
use Rattle.std.proofs.lemmas.List.Elements.{All-nil, All-cons, All-append, All-same}
use Rattle.capture_model.specs.Capture.{Record, IsCapture, most_bytes, most_records}
use Rattle.capture_model.specs.Header.{capture_header}
use Rattle.capture_model.specs.Written.{FitsCapture, record_text, record_texts, written}
use Rattle.pcap_files.proofs.WritingLemmas.{reads_written}
use Rattle.pcapng_model.specs.Block.{Broken, Whole, framed, told, Found, NewSection, NewInterface, Packet as PacketFound, Passed, BlockContent, Tells}
use Rattle.pcapng_model.specs.Interface as model
use Rattle.pcapng_model.specs.declared.fault.NgKind.{NgKind}
use Rattle.pcapng_model.specs.Reading.{Place, Block, Step, End, Fault, step, step_by, step_in, past, past_all, packets, packets_in, start}
use Rattle.pcapng_model.specs.Reading.{Stand, Reads, IsPcapng}
use Rattle.pcapng_model.specs.Reading as reading
use Rattle.pcapng_model.proofs.OutcomeLemmas.{at_end}
use Rattle.pcapng_model.proofs.StandLemmas.{stand_more, past_more, packets_more}
use Rattle.pcapng_files.proofs.OptionLemmas.{more_left, not_less}
use Rattle.pcapng_files.proofs.UnreadLemmas.{behind_head, drop_further, step_behind}
use Rattle.pcapng_files.proofs.RecordLemmas.{lent_is}
use Rattle.pcapng_files.specs.Converted.{IsCause, IsConversion, IsFault, IsRefusal, fault_of}
use Rattle.pcapng_files.specs.Converting.{Took, Advanced, place_of}
use Rattle.pcapng_files.specs.Views.{interface, packet, records_of}
use Rattle.pcapng_files.specs.declared.conversion.Conversion.{Conversion}
use Rattle.pcapng_files.specs.declared.fault.NgFault.{NgFault}
use Rattle.pcapng_files.specs.declared.fault.NgFault.TheVariants as ng
use Rattle.pcapng_files.specs.declared.fault.Refusal.{Refusal}
use Rattle.pcapng_files.specs.declared.fault.Refusal.TheVariants as refusal
use Rattle.pcapng_files.specs.declared.interface.Interface.{Interface}
use Rattle.pcapng_files.specs.declared.packet.Packet.{Packet}

pub same_place : (a b : Place) → a.big ≡ b.big → a.interfaces ≡ b.interfaces → a.count ≡ b.count → a.at ≡ b.at → a ≡ b
same_place a b big interfaces count at =
    ap (λ (x : Bool). record { big = x; interfaces = a.interfaces; count = a.count; at = a.at }) big
    ∙ ap (λ (x : List model.Interface). record { big = b.big; interfaces = x; count = a.count; at = a.at }) interfaces
    ∙ ap (λ (x : ℕ). record { big = b.big; interfaces = b.interfaces; count = x; at = a.at }) count
    ∙ ap (λ (x : ℕ). record { big = b.big; interfaces = b.interfaces; count = b.count; at = x }) at

-- what did not change of a conversion whose block has no packet
pub record Quiet (old new : Conversion) : Type 0 where
  pub packets : new.packets ≡ old.packets
  pub place : new.place ≡ old.place

took_quiet : (old new : Conversion) (t : BlockContent) (body : List ℕ) (found : Found) → t ≡ Tells found → packets_in found ≡ [] → Quiet old new
    → place_of new ≡ past (place_of old) (record { found = found; after = old.place }) → Took old new t body None
took_quiet old new t body found told none q place = record {
  found = found;
  told = told;
  place = place;
  packets = none;
  within = All-same FitsCapture (packets_in found) [] none (All-nil FitsCapture);
}

pub took_section : (old new : Conversion) (t : BlockContent) (body : List ℕ) (big : Bool) → t ≡ Tells (NewSection big) → new.big ≡ big
    → new.interfaces.items ≡ [] → Quiet old new → Took old new t body None
took_section old new t body big told is none q =
    took_quiet old new t body (NewSection big) told refl q
    (same_place _ _ is (ap (map interface) none) (q.packets ∙ omega arith) q.place)

pub took_interface : (old new : Conversion) (t : BlockContent) (body : List ℕ) (i : Interface) → t ≡ Tells (NewInterface (interface i)) → new.big ≡ old.big
    → new.interfaces.items ≡ old.interfaces.items ++ i ∷ [] → Quiet old new → Took old new t body None
took_interface old new t body i told is more q =
    took_quiet old new t body (NewInterface (interface i)) told refl q
    (same_place _ _ is (ap (map interface) more ∙ map-append interface old.interfaces.items (i ∷ [])) (q.packets ∙ omega arith) q.place)

pub took_passed : (c : Conversion) (t : BlockContent) (body : List ℕ) → t ≡ Tells Passed → Took c c t body None
took_passed c t body told =
    took_quiet c c t body Passed told refl (record { packets = refl; place = refl }) (same_place _ _ refl refl (omega arith) refl)

pub took_packet : (old new : Conversion) (t : BlockContent) (body : List ℕ) (p : Packet) → t ≡ Tells (PacketFound (packet body p)) → FitsCapture (packet body p)
    → new.big ≡ old.big → new.interfaces ≡ old.interfaces → new.packets ≡ old.packets + 1 → new.place ≡ old.place
    → Took old new t body (Some p)
took_packet old new t body p told within is same more place = record {
  found = PacketFound (packet body p);
  told = told;
  place = same_place _ _ is (ap (λ v. map interface v.items) same) (more ∙ omega arith) place;
  packets = refl;
  within = All-cons FitsCapture (packet body p) [] within (All-nil FitsCapture);
}

texts-append : (xs ys : List Record) → record_texts (xs ++ ys) ≡ record_texts xs ++ record_texts ys
texts-append [] ys = refl
texts-append (x ∷ xs) ys =
    ap (λ (b : List ℕ). record_text x ++ b) (texts-append xs ys) ∙ sym (append_assoc (record_text x) (record_texts xs) (record_texts ys))

-- the blocks before the place stand in the file, and their packets are written behind its first 24 bytes; what was not read is there
pub record IsConverting (file bytes : List ℕ) (c : Conversion) : Type 0 where
  pub blocks : List Block
  pub stand : Stand file start blocks
  pub place : past_all start blocks ≡ place_of c
  pub written_is : take c.written bytes ≡ take 24 file ++ record_texts (packets blocks)
  pub unread : drop c.place bytes ≡ drop c.place file
  pub size : length bytes ≡ length file
  pub within : All FitsCapture (packets blocks)
  pub count : c.packets ≡ length (packets blocks)

pub converting_none : (file : List ℕ) (c : Conversion) → place_of c ≡ start → c.written ≡ 24 → IsConverting file file c
converting_none file c place head = record {
  blocks = [];
  stand = tt;
  place = sym place;
  written_is = ap (λ (n : ℕ). take n file) head ∙ sym (append-nil (take 24 file));
  unread = refl;
  size = refl;
  within = All-nil FitsCapture;
  count = ap (λ (p : Place). p.count) place;
}

pub converting_more : (file xs ys : List ℕ) (a b : Conversion) → IsConverting file xs a → Advanced xs ys a b → length ys ≡ length xs → a.place ≤ b.place
    → IsConverting file ys b
converting_more file xs ys a b x y same further =
    let block = y.block in
    let all : packets (x.blocks ++ block ∷ []) ≡ packets x.blocks ++ packets_in block.found = packets_more x.blocks block in
    record {
      blocks = x.blocks ++ block ∷ [];
      stand = stand_more file start x.blocks block x.stand
          (ap (step file) x.place ∙ sym (step_behind xs file (place_of a) x.size x.unread) ∙ y.step_is);
      place = past_more start x.blocks block ∙ ap (λ (p : Place). past p block) x.place ∙ sym y.place;
      written_is = y.written ∙ ap (λ (t : List ℕ). t ++ record_texts (packets_in block.found)) x.written_is
          ∙ append_assoc (take 24 file) (record_texts (packets x.blocks)) (record_texts (packets_in block.found))
          ∙ ap (λ (t : List ℕ). take 24 file ++ t) (sym (texts-append (packets x.blocks) (packets_in block.found)))
          ∙ ap (λ (rs : List Record). take 24 file ++ record_texts rs) (sym all);
      unread = y.unread ∙ drop_further xs file a.place b.place further x.unread;
      size = same ∙ x.size;
      within = All-same FitsCapture (packets (x.blocks ++ block ∷ [])) (packets x.blocks ++ packets_in block.found) all
          (All-append FitsCapture (packets x.blocks) (packets_in block.found) x.within y.within);
      count = ap (λ (p : Place). p.count) y.place ∙ ap (λ (n : ℕ). n + length (packets_in block.found)) x.count
          ∙ sym (length-append (packets x.blocks) (packets_in block.found)) ∙ ap (length {A = Record}) (sym all);
    }

-- where the bytes were lent to the step
pub turned : (file items lent ys : List ℕ) (n : ℕ) (a b : Conversion) → lent ≡ items → n ≡ length items → IsConverting file items a
    → Advanced lent ys a b → length ys ≡ length lent → a.place < b.place → IsConverting file (take n (ys ++ drop (length ys) items)) b
turned file items lent ys n a b is all x y same further =
    let P : List ℕ → Type 0 = λ now. IsConverting file now a in
    let Q : List ℕ → Type 0 = λ now. IsConverting file now b in
    subst Q (sym (lent_is items ys n all (same ∙ ap (length {A = ℕ}) is)))
    (converting_more file lent ys a b (subst P (sym is) x) y same (omega (arith, further)))

-- what stands behind the blocks is the end of the reading
reads_to : (file bytes : List ℕ) (c : Conversion) (s : Step) (x : IsConverting file bytes c) → step bytes (place_of c) ≡ s
    → Reads file (packets x.blocks) s
reads_to file bytes c s x h = record {
  blocks = x.blocks;
  stand = x.stand;
  ended = ap (step file) x.place ∙ sym (step_behind bytes file (place_of c) x.size x.unread) ∙ h;
  packets_are = refl;
}

pub cause_of : (file bytes : List ℕ) (c : Conversion) (f : NgFault) → IsConverting file bytes c → IsFault f (step bytes (place_of c)) → IsCause f file
cause_of file bytes c (ng.At found) x h = (packets x.blocks, reads_to file bytes c (Fault found) x h)
cause_of file bytes c ng.Limit x h = (packets x.blocks, reads_to file bytes c reading.Limit x h)
cause_of file bytes c ng.NoMemory x h = tt

-- the capture whose head is put before the records
capture_is : (file bytes : List ℕ) (c : Conversion) (x : IsConverting file bytes c)
    → capture_header ++ drop 24 (take c.written bytes) ≡ written (packets x.blocks)
capture_is file bytes c x =
    ap (λ (t : List ℕ). capture_header ++ t)
    (ap (drop 24) x.written_is ∙ behind_head file bytes c.written (record_texts (packets x.blocks)) x.size x.written_is)

pub whole : (file bytes capture : List ℕ) (c : Conversion) → IsConverting file bytes c → length bytes ≤ c.place → c.packets ≤ most_records
    → length capture ≤ most_bytes → capture ≡ capture_header ++ drop 24 (take c.written bytes) → IsConversion file capture
whole file bytes capture c x past_end few short joined =
    let is : capture ≡ written (packets x.blocks) = joined ∙ capture_is file bytes c x in
    record {
      records = packets x.blocks;
      read = reads_to file bytes c End x (at_end bytes (place_of c) past_end);
      capture_is = is;
      reads_back = subst (λ (t : List ℕ). IsCapture t (packets x.blocks)) (sym is)
          (reads_written (packets x.blocks) (record {
            each = x.within;
            count = omega (arith, x.count, few);
            size = omega (arith, ap (length {A = ℕ}) is, short);
          }));
    }

step_here : (bytes : List ℕ) (p : Place) → p.at < length bytes → length bytes ≤ most_bytes → step bytes p ≡ step_in p (framed p.big bytes p.at)
step_here bytes p here short = rw (more_left (length bytes) p.at here, not_less most_bytes (length bytes) short) refl

-- a block that is not taken, and one that is not whole
pub refused : (xs : List ℕ) (p : Place) (r : Refusal) (big : Bool) (kind : ℕ) (body : List ℕ) (after : ℕ) → p.at < length xs → length xs ≤ most_bytes
    → framed p.big xs p.at ≡ Whole big kind body after → IsRefusal r (told big kind body p.interfaces p.count) → IsFault (fault_of r p.at) (step xs p)
refused xs p (refusal.Broken k) big kind body after here short whole t =
    step_here xs p here short ∙ ap (step_in p) whole ∙ ap (step_by p.at after) t
refused xs p refusal.Limit big kind body after here short whole t = step_here xs p here short ∙ ap (step_in p) whole ∙ ap (step_by p.at after) t
refused xs p refusal.NoMemory big kind body after here short whole t = tt

pub unframed : (xs : List ℕ) (p : Place) (kind : NgKind) → p.at < length xs → length xs ≤ most_bytes → framed p.big xs p.at ≡ Broken kind
    → IsFault (fault_of (refusal.Broken kind) p.at) (step xs p)
unframed xs p kind here short broken = step_here xs p here short ∙ ap (step_in p) broken

-- the record was put of the packet that a body holds
pub record IsPut (xs ys body : List ℕ) (p : Option Packet) (old new after : ℕ) : Type 0 where
  pub written : take new ys ≡ take old xs ++ record_texts (records_of body p)
  pub rest : drop after ys ≡ drop after xs

-- a whole block that was taken, and whose record was put, is the next one
pub advanced_by : (xs ys : List ℕ) (old taken : Conversion) (big : Bool) (kind : ℕ) (body : List ℕ) (after end : ℕ) (p : Option Packet)
    → old.place < length xs → length xs ≤ most_bytes → framed old.big xs old.place ≡ Whole big kind body after
    → Took old taken (told big kind body (map interface old.interfaces.items) old.packets) body p → IsPut xs ys body p old.written end after
    → Advanced xs ys old (record { big = taken.big; interfaces = taken.interfaces; packets = taken.packets; written = end; place = after })
advanced_by xs ys old taken big kind body after end p here short whole t put = record {
  block = record { found = t.found; after = after };
  step_is = step_here xs (place_of old) here short ∙ ap (step_in (place_of old)) whole ∙ ap (step_by old.place after) t.told;
  place = ap (λ (q : Place). record { big = q.big; interfaces = q.interfaces; count = q.count; at = after }) t.place;
  written = put.written ∙ ap (λ (rs : List Record). take old.written xs ++ record_texts rs) (sym t.packets);
  unread = put.rest;
  within = t.within;
}
