use Rattle.pcapng_files.proofs.RecordLemmas.{rest_behind}
use Rattle.pcapng_files.proofs.record.put_found.Goals as goal

pub returns-in-Some-clause-rest : goal.returns-in-Some-clause-rest
returns-in-Some-clause-rest c = λ n h.
    rest_behind c.args.bytes.now c.put_record.new.bytes c.args.found.now c.in-Some.packet c.args.at n c.in-Some.is c.put_record.ensures.rest h
