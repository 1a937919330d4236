use Rattle.std.proofs.Common.{◌≡◌, refl, ap}
use Rattle.std.specs.Prelude.{Err}
use Rattle.pcap_files.specs.declared.fault.CaptureFault.TheVariants as fault
use Rattle.input_files.proofs.RecordLemmas.{fault_told, last_later, read_told, some_more}
use Rattle.input_files.proofs.records.read_records.Goals as goal

pub returns-in-Err-clause-read : goal.returns-in-Err-clause-read
returns-in-Err-clause-read g c = λ is.
    let e : c.told_after.result ≡ fault.Read = cc in
    read_told (g.F.Files.view c.args.files.now) (g.F.Files.view c.records_of.new.files) (g.F.Files.view c.told_after.new.files) c.args.file c.in-Err.fault c.told_after.result (λ k. c.in-Err.ensures.read (ap Err k)) c.in-Err.ensures.some c.told_after.ensures.some c.told_after.ensures.stays e

pub returns-in-Err-clause-some : goal.returns-in-Err-clause-some
returns-in-Err-clause-some g c = some_more _ _ _ c.args.file c.args.file refl c.in-Err.ensures.some c.told_after.ensures.some

pub returns-in-Err-clause-fault : goal.returns-in-Err-clause-fault
returns-in-Err-clause-fault g c = λ bytes left. fault_told (g.F.Files.view c.records_of.new.files) (g.F.Files.view c.told_after.new.files) c.args.file c.in-Err.fault c.told_after.result bytes c.told_after.ensures.stays (c.in-Err.ensures.fault bytes left)

pub returns-in-Err-clause-last : goal.returns-in-Err-clause-last
returns-in-Err-clause-last g c =
    last_later (g.F.Files.view c.args.files.now) (g.F.Files.view c.records_of.new.files) (g.F.Files.view c.told_after.new.files) c.args.file
    c.told_after.result c.in-Err.ensures.some c.told_after.ensures.last
