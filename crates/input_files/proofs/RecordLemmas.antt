-- Records that were read, and files that were read on.
use Rattle.std.proofs.Common.{◌≡◌, ◌∙◌, inl, inr, ℕ, List, [], ◌∷◌, ◌++◌, length, map, Some, refl, ap, sym, subst, arith, length-append}
use Rattle.std.specs.Prelude.{IsSome, IfSome}
use Rattle.std.specs.declared.option.Option.{Option}
use Rattle.std.proofs.lemmas.List.{map-append}
use Rattle.capture_model.specs.Capture.{Fault, Header, Record, ReadsFrom}
use Rattle.pcap_files.specs.declared.fault.CaptureFault.{CaptureFault}
use Rattle.pcap_files.specs.declared.fault.CaptureFault.TheVariants as fault
use Rattle.pcap_files.specs.declared.reader.Reader.{Reader}
use Rattle.pcap_files.specs.declared.record.Found.{Found}
use Rattle.pcap_files.specs.declared.record.Record.{Record as Answer}
use Rattle.pcap_files.specs.Ahead.{TookSome}
use Rattle.pcap_files.specs.Reading.{Answers, IsHeadFault, Shows, Represents, RecordTold, told_by, told_of}
use Rattle.pcap_files.proofs.ReaderLemmas.{took_unchanged}
use Rattle.play_base.specs.View.{View, ReadFault, Took, Unchanged}
use Rattle.play_base.proofs.ViewLaws.{rose_before, rose_later, took_more, took_nothing}
use Rattle.input_files.specs.Records.{HasFault, IsReadOut, IsToldLast, Shown, StaysOrFails, shown_by, shown_of}

pub some_nothing : (a : View) (file : ℕ) → TookSome a a file
some_nothing a file = ([], took_nothing a file)

pub some_more : (a b c : View) (file f : ℕ) → f ≡ file → TookSome a b file → TookSome b c f → TookSome a c file
some_more a b c file f e x y =
    let P : ℕ → Type 0 = λ n. TookSome b c n in
    let z : TookSome b c file = subst P e y in
    (x.0 ++ z.0, took_more a b c file x.0 z.0 x.1 z.1)

pub some_same : (a b c : View) (file : ℕ) → IsSome (a.part file) → TookSome a b file → Unchanged b c → TookSome a c file
some_same a b c file there x y = (x.0, took_unchanged a b c file x.0 there x.1 y)

pub took_same : (a b c : View) (file : ℕ) (xs : List ℕ) → IsSome (a.part file) → Took a b file xs → Unchanged b c → TookSome a c file
took_same a b c file xs there x y = (xs, took_unchanged a b c file xs there x y)

-- a fault of a later read, and of an earlier one
pub fault_later : (a b c : View) (file f : ℕ) → f ≡ file → TookSome a b file → ReadFault b c f → ReadFault a c file
fault_later a b c file f e x y = λ p at.
    let P : ℕ → Type 0 = λ n. ReadFault b c n in
    let z : ReadFault b c file = subst P e y in
    rose_later (a.read_faults p) (b.read_faults p) (c.read_faults p) (x.1.keeps.later.read p) (z p (x.1.keeps.part file p at))

pub fault_before : (a b c : View) (file : ℕ) → ReadFault a b file → TookSome b c file → ReadFault a c file
fault_before a b c file x y = λ p at. rose_before (a.read_faults p) (b.read_faults p) (c.read_faults p) (x p at) (y.1.keeps.later.read p)

-- a header that fails is followed by no record
pub head_fault : (f : CaptureFault) (bytes : List ℕ) → IsHeadFault f bytes → HasFault bytes f
head_fault (fault.Damage found) bytes h =
    let P : Header → Type 0 = λ x. ReadsFrom x bytes [] (Fault found) in
    record { records = []; reads = subst P (sym h) (refl, refl) }
head_fault fault.Limit bytes h = absurd h
head_fault fault.Read bytes h = record { records = []; reads = tt }
head_fault fault.NoMemory bytes h = record { records = []; reads = tt }

pub shown_same : (a : Answer) (n : ℕ) (r : Record) → Shows (told_of a) n r → shown_by a ≡ shown_of r
shown_same a n r s = rw (s.stamp, s.len, s.bytes) refl

-- one more record is read
pub read_more : (u v : View) (old new : Reader) (bytes : List ℕ) (shown after : List Shown) (o : Option Found) (f : Found) (a : Answer)
    → IfSome o (λ x. Answers u v old new (told_by new x)) → o ≡ Some f → told_of a ≡ told_by new f → after ≡ shown ++ shown_by a ∷ []
    → ((records : List Record) × Represents u old bytes records × (shown ≡ map shown_of records))
    → (records : List Record) × Represents v new bytes records × (after ≡ map shown_of records)
read_more u v old new bytes shown after o f a answered is lent grown h =
    let W : Option Found → Type 0 = λ x. IfSome x (λ y. Answers u v old new (told_by new y)) in
    let answer : Answers u v old new (told_by new f) = subst W is answered in
    let x = answer bytes h.0 h.1 in
    let P : RecordTold → Type 0 = λ t. Shows t (length h.0) x.0 in
    let shows : Shows (told_of a) (length h.0) x.0 = subst P (sym lent) x.1 in (
      h.0 ++ x.0 ∷ [],
      x.2,
      grown ∙ ap (λ ys. ys ++ shown_by a ∷ []) h.2
          ∙ ap (λ y. map shown_of h.0 ++ y ∷ []) (shown_same a (length h.0) x.0 shows) ∙ sym (map-append shown_of h.0 (x.0 ∷ [])),
    )

pub stays_same : (u v : View) (file : ℕ) (f : CaptureFault) → StaysOrFails u v file f f
stays_same u v file (fault.Damage found) = refl
stays_same u v file fault.Limit = refl
stays_same u v file fault.Read = inl refl
stays_same u v file fault.NoMemory = tt

-- a fault that stays is told once the file is read out
pub told_last : (u v : View) (file : ℕ) (f : CaptureFault) → IsReadOut u v file → IsToldLast u v file f
told_last u v file (fault.Damage found) h = h
told_last u v file fault.Limit h = h
told_last u v file fault.Read h = tt
told_last u v file fault.NoMemory h = tt

out_later : (a b c : View) (file : ℕ) → TookSome a b file → IsReadOut b c file → IsReadOut a c file
out_later a b c file x (inl h) = inl h
out_later a b c file x (inr h) =
    inr (x.0 ++ h.0, took_more a b c file x.0 h.0 x.1 h.1, omega (arith, h.2, length-append x.0 h.0))

pub last_later : (a b c : View) (file : ℕ) (f : CaptureFault) → TookSome a b file → IsToldLast b c file f → IsToldLast a c file f
last_later a b c file (fault.Damage found) x h = out_later a b c file x h
last_later a b c file fault.Limit x h = out_later a b c file x h
last_later a b c file fault.Read x h = tt
last_later a b c file fault.NoMemory x h = tt

-- what is told of a fault of the bytes is one
pub fault_told : (u v : View) (file : ℕ) (f r : CaptureFault) (bytes : List ℕ) → StaysOrFails u v file f r → HasFault bytes f → HasFault bytes r
fault_told u v file f (fault.Damage found) bytes s h = let P : CaptureFault → Type 0 = λ x. HasFault bytes x in subst P s h
fault_told u v file f fault.Limit bytes s h = let P : CaptureFault → Type 0 = λ x. HasFault bytes x in subst P s h
fault_told u v file f fault.Read bytes s h = record { records = []; reads = tt }
fault_told u v file f fault.NoMemory bytes s h = record { records = []; reads = tt }

pub read_told : (a b c : View) (file : ℕ) (f r : CaptureFault) → (f ≡ fault.Read → ReadFault a b file) → TookSome a b file → TookSome b c file
    → StaysOrFails b c file f r → r ≡ fault.Read → ReadFault a c file
read_told a b c file f (fault.Damage found) h x y s e = absurd (cc)
read_told a b c file f fault.Limit h x y s e = absurd (cc)
read_told a b c file f fault.NoMemory h x y s e = absurd (cc)
read_told a b c file f fault.Read h x y s e =
    elim s [ inl k ↦ fault_before a b c file (h k) y | inr k ↦ fault_later a b c file file refl x k ]
