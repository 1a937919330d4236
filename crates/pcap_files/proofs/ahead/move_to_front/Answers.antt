use Rattle.std.proofs.Common.{◌≤◌, length, rules}
use Rattle.pcap_files.proofs.PieceLemmas.{copied_to_front}
use Rattle.pcap_files.proofs.ahead.move_to_front.Goals as goal

pub returns-clause-moved : goal.returns-clause-moved
returns-clause-moved c =
    let within : c.args.to ≤ length c.args.buffer.now.items = search rules in
    copied_to_front c.args.buffer.now.items c.copy_within.new.self.items c.args.from c.args.to c.requires.order within c.copy_within.ensures.items
