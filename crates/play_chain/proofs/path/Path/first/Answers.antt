use Rattle.std.proofs.Common.{◌∙◌, refl, arith}
use Rattle.play_chain.proofs.PathLemmas.{on_ok, stands_first}
use Rattle.play_chain.proofs.path.Path.first.Goals as goal

pub returns-clause-given : goal.returns-clause-given
returns-clause-given c =
    on_ok c.add.result _ _
    (λ add. stands_first c.args.self.now c.add.new.self c.set_row.new.rows.items c.in_ok-place.place
    (record { number = c.args.number; arrival = c.args.at; fate = c.args.fate.now }) c.requires
    (record {
      next = c.in_ok-place.ensures;
      here = c.set_row.ensures.here;
      others = λ k d. c.set_row.ensures.others k d ∙ c.make_room.ensures.same k;
      longer = omega (arith, c.make_room.ensures.longer, c.set_row.ensures.length);
      room = omega (arith, c.in_ok-make_room.ensures.room, c.set_row.ensures.length);
    }) add (record { alloc = c.args.self.now.alloc; firsts = c.add.new.self; seconds = record { rows = c.set_row.new.rows } }) refl refl) c.add.ensures.added
