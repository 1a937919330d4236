use Rattle.std.proofs.Common.{◌∙◌, ◌+◌, ◌++◌, List, ℕ, ap, arith, drop, take}
use Rattle.std.proofs.lemmas.Grind.{common_steps}
use Rattle.pcapng_files.proofs.RecordLemmas.{rest_put, text_is, text_put, written_by}
use Rattle.pcapng_files.proofs.record.put_record.Goals as goal

pub returns-clause-put : goal.returns-clause-put
returns-clause-put c =
    let xs = c.args.bytes.now in
    let n = c.args.found.now.captured in
    let head = c.record_head-head.result in
    text_put xs c.move_bytes.new.bytes _ (drop (c.args.body + 20) xs) head c.args.at n
    (written_by xs c.move_bytes.new.bytes c.copy_from_slice.new.self head c.args.at (c.args.body + 20) n c.move_bytes.ensures
    c.copy_from_slice.ensures.after (grind (arith, common_steps)) c.requires.room c.requires.here)
    ∙ ap (λ (t : List ℕ). take c.args.at xs ++ t) (text_is xs head c.args.body c.args.found.now c.record_head-head.ensures c.requires.here)

pub returns-clause-rest : goal.returns-clause-rest
returns-clause-rest c =
    let xs = c.args.bytes.now in
    let n = c.args.found.now.captured in
    let head = c.record_head-head.result in
    rest_put xs c.move_bytes.new.bytes _ (drop (c.args.body + 20) xs) head c.args.at n
    (written_by xs c.move_bytes.new.bytes c.copy_from_slice.new.self head c.args.at (c.args.body + 20) n c.move_bytes.ensures
    c.copy_from_slice.ensures.after (grind (arith, common_steps)) c.requires.room c.requires.here)
