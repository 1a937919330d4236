use Rattle.std.proofs.Common.{◌∙◌}
use Rattle.play_chain.proofs.SecondLemmas.{row_more}
use Rattle.play_chain.proofs.seconds.Seconds.add.Goals as goal

pub returns : goal.returns
returns c = λ js table none k.
    row_more c.args.self.now.rows.items c.set_row.new.rows.items c.args.number c.args.fate.now
    (record {
      here = c.set_row.ensures.here ∙ c.row_of.ensures;
      others = λ m d. c.set_row.ensures.others m d ∙ c.make_room.ensures.same m;
    }) js none k (table k)
