use Rattle.std.proofs.Common.{rules, ◌≡◌, length}
use Rattle.play_base.proofs.packet.Bytes.as_mut_slice.Goals as goal

pub returns : goal.returns
returns c =
    let long : c.self.inside.held.len ≡ length c.self.inside.held.items = search rules in
    search (rules, long)
