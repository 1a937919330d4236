use Rattle.std.proofs.Common.{◌∙◌, ◌++◌, ℕ, List, ap, drop}
use Rattle.capture_model.specs.Header.{capture_header}
use Rattle.pcapng_files.proofs.RecordLemmas.{finished_is}
use Rattle.pcapng_files.proofs.converting.finished.Goals as goal

pub returns : goal.returns
returns c =
    let roomy = c.in_ok-with_room.ensures in
    let now = c.with_room.new.bytes in
    finished_is c.args.bytes.items now.items c.put_head.new.bytes c.truncate.new.self.items c.args.end now.len c.truncate.ensures.items now.ok.0
    (c.put_head.ensures ∙ ap (λ (b : List ℕ). capture_header ++ drop 24 b) c.as_mut_slice.ensures.value) roomy.room c.requires roomy.behind
