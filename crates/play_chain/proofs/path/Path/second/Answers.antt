use Rattle.std.proofs.Common.{◌∙◌, refl}
use Rattle.play_chain.proofs.PathLemmas.{stands_second}
use Rattle.play_chain.proofs.path.Path.second.Goals as goal

pub returns : goal.returns
returns c =
    stands_second c.args.self.now (record { alloc = c.args.self.now.alloc; firsts = c.args.self.now.firsts; seconds = record { rows = c.set_row.new.rows } })
    c.args.number c.args.fate.now c.requires refl
    (record { here = c.set_row.ensures.here ∙ c.row_of.ensures; others = c.set_row.ensures.others }) c.set_row.ensures.length
