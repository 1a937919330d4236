use Rattle.std.proofs.Common.{◌≡◌, ℕ, List, ◌∙◌, ap, sym, subst, refl, arith, length}
use Rattle.capture_model.specs.Capture.{step, place_after, Fault, damage}
use Rattle.pcap_files.specs.Ahead.{HeldBytes}
use Rattle.pcap_files.specs.Forms.{form}
use Rattle.pcap_files.specs.Reading.{IsCause}
use Rattle.pcap_files.proofs.ReaderLemmas.{took_some, took_into, took_twice, pending_took, stands_at, stands_reads, stands_with, cut_reads, answered}
use Rattle.play_base.proofs.ViewLaws.{rose_later, same_trans, still_there}
use Rattle.pcap_files.specs.Stand.{stand_at}
use Rattle.pcap_files.specs.declared.stand.Stand.{Stand as Stands}
use Rattle.pcap_files.proofs.PrefixLemmas.{failed_of, headed_taken, part_taken}
use Rattle.pcap_files.proofs.reader.Reader.take_next.Goals as goal

pub returns-in-Err-fill-clause-some : goal.returns-in-Err-fill-clause-some
returns-in-Err-fill-clause-some g c = took_some _ _ _ _ _ _ c.in_default.ensures.took c.in-Err-fill.ensures.some

pub returns-in-End-clause-end : goal.returns-in-End-clause-end
returns-in-End-clause-end g c = λ bytes records s.
    let self = c.args.self.now in
    stands_reads _ self bytes records _ s
    (stands_at _ _ self c.fill.new.self.waiting _ bytes records _ s c.requires.sound c.in_default.ensures.took c.in_default.ensures.enough c.as_slice.ensures c.in-End.ensures.value)

pub returns-in-End-clause-none : goal.returns-in-End-clause-none
returns-in-End-clause-none g c = λ bytes records s.
    let self = c.args.self.now in
    let empty : length c.as_slice.result.now ≡ 0 = c.in-End.ensures.none refl in
    stands_with _ _ self _ bytes records s refl refl
    (λ h. pending_took _ _ self.file self.progress.place self.ahead.waiting c.fill.new.self.waiting bytes (s.pending c.requires.sound) c.in_default.ensures.took)
    (λ _. omega (arith, empty, ap length c.as_slice.ensures))
    (subst (λ q. IsCause q (step (form self.head) bytes (length records) (place_after 24 records))) (sym c.requires.sound) tt)

pub returns-in-Limit-clause-fault : goal.returns-in-Limit-clause-fault
returns-in-Limit-clause-fault g c = λ bytes records s.
    let self = c.args.self.now in
    stands_reads _ self bytes records _ s
    (stands_at _ _ self c.fill.new.self.waiting _ bytes records _ s c.requires.sound c.in_default.ensures.took c.in_default.ensures.enough c.as_slice.ensures c.in-Limit.ensures.value)

pub returns-in-Damaged-clause-fault : goal.returns-in-Damaged-clause-fault
returns-in-Damaged-clause-fault g c = λ bytes records s.
    let self = c.args.self.now in
    stands_reads _ self bytes records _ s
    (stands_at _ _ self c.fill.new.self.waiting _ bytes records _ s c.requires.sound c.in_default.ensures.took c.in_default.ensures.enough c.as_slice.ensures c.in-Damaged.ensures.value
    ∙ ap (λ (place : ℕ). Fault (damage place c.in-Damaged.kind)) (sym c.from.ensures) ∙ ap Fault (sym c.damage_at.ensures))

pub returns-in-Ok-clause-record : goal.returns-in-Ok-clause-record
returns-in-Ok-clause-record g c = λ bytes records s.
    let self = c.args.self.now in
    answered _ _ self c.take_record.new.self c.in-Ok.found c.fill-in-Headed.new.self bytes records
    (record { stamp = c.in-Headed.stamp; captured = c.in-Headed.captured; original = c.in-Headed.original }) s c.requires.sound
    (took_twice _ _ _ _ _ _ _ c.in_default.ensures.took c.in_default-fill.ensures.took)
    (stands_at _ _ self c.fill.new.self.waiting _ bytes records _ s c.requires.sound c.in_default.ensures.took c.in_default.ensures.enough c.as_slice.ensures c.in-Headed.ensures.value)
    (omega (arith, s.ahead c.requires.sound, c.in_default.ensures.bounded, c.in_default-fill.ensures.bounded))
    c.in-Ok.ensures.taken

pub returns-in-Ok-clause-some : goal.returns-in-Ok-clause-some
returns-in-Ok-clause-some g c = took_into _ _ _ _ _ (took_twice _ _ _ _ _ _ _ c.in_default.ensures.took c.in_default-fill.ensures.took)

pub returns-in-Err-take_record-clause-fault : goal.returns-in-Err-take_record-clause-fault
returns-in-Err-take_record-clause-fault g c = λ bytes records s.
    let self = c.args.self.now in
    cut_reads _ _ self c.fill-in-Headed.new.self.waiting bytes records
    (record { stamp = c.in-Headed.stamp; captured = c.in-Headed.captured; original = c.in-Headed.original }) c.in-Err-take_record.fault s c.requires.sound
    (took_twice _ _ _ _ _ _ _ c.in_default.ensures.took c.in_default-fill.ensures.took)
    (stands_at _ _ self c.fill.new.self.waiting _ bytes records _ s c.requires.sound c.in_default.ensures.took c.in_default.ensures.enough c.as_slice.ensures c.in-Headed.ensures.value)
    c.in_default-fill.ensures.enough
    c.in-Err-take_record.ensures.cut

pub returns-in-Err-take_record-clause-some : goal.returns-in-Err-take_record-clause-some
returns-in-Err-take_record-clause-some g c = took_into _ _ _ _ _ (took_twice _ _ _ _ _ _ _ c.in_default.ensures.took c.in_default-fill.ensures.took)

pub take_record-requires-clause-early : goal.take_record-requires-clause-early
take_record-requires-clause-early g c =
    (c.stand_at.ensures.headed c.in-Headed.stamp c.in-Headed.captured c.in-Headed.original c.in-Headed.is).0

pub returns-in-Err-clause-cut : goal.returns-in-Err-clause-cut
returns-in-Err-clause-cut g c = λ failed bytes records s.
    let t = c.in-Err.ensures.stopped (failed_of c.in-Err.trouble c.fault_of.result c.fault_of.ensures failed) in
    part_taken _ _ c.args.self.now c.fill.new.self.waiting bytes records s c.requires.sound t.took t.fewer

pub returns-in-Err-fill-clause-cut : goal.returns-in-Err-fill-clause-cut
returns-in-Err-fill-clause-cut g c = λ failed bytes records s.
    let self = c.args.self.now in
    let t = c.in-Err-fill.ensures.stopped (failed_of c.in-Err-fill.trouble c.fault_of-in-Err-fill.result c.fault_of-in-Err-fill.ensures failed) in
    headed_taken _ _ self c.fill-in-Headed.new.self.waiting bytes records
    (record { stamp = c.in-Headed.stamp; captured = c.in-Headed.captured; original = c.in-Headed.original }) s c.requires.sound
    (took_twice _ _ _ _ _ _ _ c.in_default.ensures.took t.took)
    (stands_at _ _ self c.fill.new.self.waiting _ bytes records _ s c.requires.sound c.in_default.ensures.took c.in_default.ensures.enough c.as_slice.ensures c.in-Headed.ensures.value)
    t.fewer

pub returns-in-Ok-clause-counts : goal.returns-in-Ok-clause-counts
returns-in-Ok-clause-counts g c = same_trans _ _ _ c.in_default.ensures.counts c.in_default-fill.ensures.counts

pub returns-in-Ok-clause-ahead : goal.returns-in-Ok-clause-ahead
returns-in-Ok-clause-ahead g c = λ holds.
    let self = c.args.self.now in
    let one = c.fill.ensures.idle holds.head in
    let at : List ℕ → Stands = stand_at (form self.head) self.progress.count self.progress.place in
    let headed = ap (λ (h : HeldBytes). at h.waiting) (sym one.1) ∙ ap at (sym c.as_slice.ensures) ∙ sym c.in-Headed.ensures.value in
    let whole = holds.whole c.in-Headed.stamp c.in-Headed.captured c.in-Headed.original headed in
    let two = c.fill-in-Headed.ensures.idle (omega (arith, whole, ap (λ (h : HeldBytes). length h.waiting) one.1)) in
    two.0 ∙ one.0

pub take_record-requires-clause-counted : goal.take_record-requires-clause-counted
take_record-requires-clause-counted g c = (c.stand_at.ensures.fits c.in-Headed.stamp c.in-Headed.captured c.in-Headed.original c.in-Headed.is).0

pub take_record-requires-clause-placed : goal.take_record-requires-clause-placed
take_record-requires-clause-placed g c = (c.stand_at.ensures.fits c.in-Headed.stamp c.in-Headed.captured c.in-Headed.original c.in-Headed.is).1

pub take_record-requires-clause-short : goal.take_record-requires-clause-short
take_record-requires-clause-short g c = (c.stand_at.ensures.headed c.in-Headed.stamp c.in-Headed.captured c.in-Headed.original c.in-Headed.is).1

pub take_record-requires-clause-some : goal.take_record-requires-clause-some
take_record-requires-clause-some g c = (c.stand_at.ensures.headed c.in-Headed.stamp c.in-Headed.captured c.in-Headed.original c.in-Headed.is).2

pub fill-requires-in-Headed-clause-there : goal.fill-requires-in-Headed-clause-there
fill-requires-in-Headed-clause-there g c = still_there _ _ _ _ _ c.in_default.ensures.took.1.keeps c.requires.there

pub fill-requires-in-Headed-clause-small : goal.fill-requires-in-Headed-clause-small
fill-requires-in-Headed-clause-small g c = omega (arith, (c.stand_at.ensures.headed c.in-Headed.stamp c.in-Headed.captured c.in-Headed.original c.in-Headed.is).1)

pub returns-in-Err-fill-clause-read : goal.returns-in-Err-fill-clause-read
returns-in-Err-fill-clause-read g c = λ failed p at.
    let k = c.in_default.ensures.took.1.keeps in
    rose_later _ _ _ (k.later.read p)
    (c.in-Err-fill.ensures.failed (failed_of c.in-Err-fill.trouble c.fault_of-in-Err-fill.result c.fault_of-in-Err-fill.ensures failed) p (k.part c.args.self.now.file p at))
