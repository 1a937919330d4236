use Rattle.std.proofs.Common.{arith, refl}
use Rattle.ranking.proofs.Keyed.{keys_length, set_from}
use Rattle.ranking.proofs.keys.Keys.set.Goals as goal

pub index_mut-requires : goal.index_mut-requires
index_mut-requires c =
    let all = keys_length c.args.self.now.first c.args.self.now.items.items in
    let from = c.requires.from in
    let room = c.requires.room in
    omega (arith, all, from, room)

pub returns : goal.returns
returns c = record { first = refl; keys = set_from c.args.self.now.first c.args.class c.args.key c.args.self.now.items.items c.requires.from }
