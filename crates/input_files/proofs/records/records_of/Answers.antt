use Rattle.std.proofs.Common.{◌≡◌, ◌+◌, ◌++◌, ◌∷◌, ◌∙◌, inl, inr, [], Some, None, ap, length, length-append, sym, subst, arith}
use Rattle.std.specs.Prelude.{Err, IfSome}
use Rattle.std.specs.declared.option.Option.{Option}
use Rattle.std.proofs.lemmas.Grind.{common_steps}
use Rattle.pcap_files.specs.declared.fault.CaptureFault.TheVariants as fault
use Rattle.pcap_files.specs.declared.record.Found.{Found}
use Rattle.pcap_files.specs.Reading.{Counts, told_by}
use Rattle.input_files.specs.Records.{shown_by}
use Rattle.play_base.proofs.ViewLaws.{same_trans, still_there}
use Rattle.input_files.proofs.RecordLemmas.{fault_later, head_fault, read_more, some_more}
use Rattle.input_files.proofs.records.records_of.Goals as goal

pub returns-in-Err-clause-fault : goal.returns-in-Err-clause-fault
returns-in-Err-clause-fault g c = λ bytes left. head_fault c.in-Err.fault bytes (c.in-Err.ensures.damaged bytes left)

pub records-init : goal.records-init
records-init g c = record {
  there = still_there _ _ _ _ _ c.in-Ok.ensures.some.1.keeps c.requires;
  file = c.in-Ok.ensures.file;
  sound = c.in-Ok.ensures.sound;
  took = c.in-Ok.ensures.some;
  no_fault = c.in-Ok.ensures.counts;
  counted = rw c.new-records.ensures (omega arith);
  few = rw c.new-records.ensures (omega arith);
  read = λ bytes left. ([], c.in-Ok.ensures.stands bytes left, c.new-records.ensures);
}

pub returns-in-Err-next-clause-read : goal.returns-in-Err-next-clause-read
returns-in-Err-next-clause-read g c = λ is.
    let e : c.in-Err-next.fault ≡ fault.Read = cc in
    elim (c.in-Err-next.ensures.read (ap Err e)) [
      | inl k ↦ fault_later (g.F.Files.view c.args.files.now) (g.F.Files.view c.records.files) (g.F.Files.view c.next.new.files) _ _ c.records.invariant.file c.records.invariant.took k
      | inr k ↦ absurd (let h = c.records.invariant.sound in let x : None ≡ Some fault.Read = sym h ∙ k in cc)
    ]

pub returns-in-Err-next-clause-some : goal.returns-in-Err-next-clause-some
returns-in-Err-next-clause-some g c = some_more _ _ _ _ _ c.records.invariant.file c.records.invariant.took c.in-Err-next.ensures.some

pub returns-in_default-clause-some : goal.returns-in_default-clause-some
returns-in_default-clause-some g c = some_more _ _ _ _ _ c.records.invariant.file c.records.invariant.took c.in-Ok-next.ensures.some

pub returns-then-is_err-clause-some : goal.returns-then-is_err-clause-some
returns-then-is_err-clause-some g c = some_more _ _ _ _ _ c.records.invariant.file c.records.invariant.took c.in-Ok-next.ensures.some

pub records-preserved : goal.records-preserved
records-preserved g c =
    let grown : c.add.new.self ≡ c.records.records ++ shown_by c.lend.result ∷ [] = grind (arith, common_steps, c.add.ensures, c.if-is_err.ensures.value) in
    let longer : length c.add.new.self ≡ length c.records.records + 1 = ap length grown ∙ length-append c.records.records (shown_by c.lend.result ∷ []) in
    let W : Option Found → Type 0 = λ x. IfSome x (λ y. Counts c.records.reader c.next.new.self (told_by c.next.new.self y)) in
    let counts : Counts c.records.reader c.next.new.self (told_by c.next.new.self c.in-Some.found) = subst W c.in-Some.is c.in-Ok-next.ensures.counted in
    record {
      there = still_there _ _ _ _ _ c.in-Ok-next.ensures.some.1.keeps c.records.invariant.there;
      file = c.next.ensures.file ∙ c.records.invariant.file;
      sound = c.in-Ok-next.ensures.sound;
      took = some_more _ _ _ _ _ c.records.invariant.file c.records.invariant.took c.in-Ok-next.ensures.some;
      no_fault = same_trans _ _ _ c.records.invariant.no_fault c.in-Ok-next.ensures.counts;
      counted = omega (arith, counts.number, counts.count, longer, c.records.invariant.counted);
      few = omega (arith, counts.number, longer, c.records.invariant.counted, c.in-Some.found.counted);
      read = λ bytes left. read_more (g.F.Files.view c.records.files) (g.F.Files.view c.next.new.files) c.records.reader c.next.new.self bytes c.records.records _ c.in-Ok-next.answer c.in-Some.found c.lend.result c.in-Ok-next.ensures.record c.in-Some.is c.lend.ensures grown (c.records.invariant.read bytes left);
    }
