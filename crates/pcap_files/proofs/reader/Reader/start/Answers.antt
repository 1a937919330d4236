use Rattle.std.proofs.Common.{◌≡◌, ◌≤◌, ◌∙◌, ap, refl, arith, length}
use Rattle.pcap_files.proofs.ReaderLemmas.{started, started_head}
use Rattle.pcap_files.proofs.PrefixLemmas.{failed_of, none_taken}
use Rattle.pcap_files.proofs.reader.Reader.start.Goals as goal

pub returns-in-Err-read-clause-damaged : goal.returns-in-Err-read-clause-damaged
returns-in-Err-read-clause-damaged g c = λ rest h.
    started_head _ _ c.args.file c.args.first.now c.in-Ok.ahead.waiting c.fill.new.self.waiting _ rest c.in-Ok.ensures.first h c.in_default-fill.ensures.took c.in_default-fill.ensures.enough c.as_slice.ensures
    ∙ c.in-Err-read.ensures.err

pub returns-clause-stands : goal.returns-clause-stands
returns-clause-stands g c = λ rest h.
    let few : length c.in-Ok.ahead.waiting ≡ length c.args.first.now = ap length c.in-Ok.ensures.first in
    let long : 24 ≤ length c.as_slice.result.now = c.in-Ok-read.ensures.long in
    started _ _ _ c.args.first.now c.in-Ok.ahead.waiting c.fill.new.self.waiting rest c.in-Ok.ensures.first h c.in_default-fill.ensures.took
    (omega (arith, long, ap length c.as_slice.ensures))
    (omega (arith, few, c.requires.few, c.in_default-fill.ensures.bounded))
    c.pass.ensures.waiting refl refl refl
    (started_head _ _ c.args.file c.args.first.now c.in-Ok.ahead.waiting c.fill.new.self.waiting _ rest c.in-Ok.ensures.first h c.in_default-fill.ensures.took c.in_default-fill.ensures.enough c.as_slice.ensures
    ∙ c.in-Ok-read.ensures.ok)

pub returns-in-Err-clause-cut : goal.returns-in-Err-clause-cut
returns-in-Err-clause-cut g c = λ failed rest h.
    let t = c.in-Err.ensures.stopped (failed_of c.in-Err.trouble c.fault_of.result c.fault_of.ensures failed) in
    none_taken _ _ c.args.file c.args.first.now c.in-Ok.ahead.waiting c.fill.new.self.waiting rest c.in-Ok.ensures.first h t.took t.fewer
