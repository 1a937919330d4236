use Rattle.std.proofs.Common.{sym, ◌∙◌, bytes_eq}
use Rattle.conf_tree.proofs.Positions.{position_map}
use Rattle.conf_tree.proofs.names.Names.number.Goals as goal

pub returns-clause-number : goal.returns-clause-number
returns-clause-number c =
    let e = position_map (λ k. k.now) (bytes_eq c.args.name.now) c.self.inside.names.keys in
    rw (← c.self.view_is) (c.get_index_of.ensures.index ∙ sym e)
