use Rattle.std.proofs.Common.{ap, sym}
use Rattle.pcap_files.specs.Ahead.{HeldBytes}
use Rattle.pcap_files.proofs.PieceLemmas.{passed_more}
use Rattle.pcap_files.proofs.ahead.Ahead.pass.Goals as goal

pub returns-clause-passed : goal.returns-clause-passed
returns-clause-passed c =
    passed_more c.self.inside.from c.args.count c.self.inside.to c.self.inside.buffer.items c.args.self.now.passed c.args.self.now.waiting
    c.self.invariant.0
    (sym (ap (λ (h : HeldBytes). h.passed) c.self.view_is))
    (sym (ap (λ (h : HeldBytes). h.waiting) c.self.view_is))
    c.requires
