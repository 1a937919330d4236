use Rattle.std.proofs.Common.{◌∙◌, ◌+◌, ℕ, [], length, ap, sym, arith}
use Rattle.altq_model.specs.declared.Fate.{Fate}
use Rattle.play_chain.specs.declared.firsts.First.TheVariants as first
use Rattle.play_chain.specs.Path.{with_sent}
use Rattle.play_chain.specs.Tables.{first_by}
use Rattle.play_chain.proofs.FirstLemmas.{one_more}
use Rattle.play_chain.proofs.firsts.Firsts.add.Goals as goal

pub returns-in-Dropped-clause-added : goal.returns-in-Dropped-clause-added
returns-in-Dropped-clause-added c = λ fates table none.
    one_more c.args.self.now (record { rows = c.set_row.new.rows; sent = c.args.self.now.sent })
    (record { number = c.args.number; arrival = c.args.at; fate = c.args.fate.now }) fates table none
    (record {
      here = c.set_row.ensures.here ∙ sym (ap (λ (f : Fate). first_by c.args.at (c.args.self.now.sent + 1) f) c.in-Dropped.is);
      others = λ m d. c.set_row.ensures.others m d ∙ c.make_room.ensures.same m;
      longer = omega (arith, c.make_room.ensures.longer, c.set_row.ensures.length);
      room = omega (arith, c.in_ok-make_room.ensures.room, c.set_row.ensures.length);
    }) (omega (arith, ap (λ (f : Fate). length (with_sent c.args.number f [])) c.in-Dropped.is))

pub returns-in_ok-place-in-Sent-clause-added : goal.returns-in_ok-place-in-Sent-clause-added
returns-in_ok-place-in-Sent-clause-added c = λ fates table none.
    one_more c.args.self.now (record { rows = c.set_row-in-Sent.new.rows; sent = c.in_ok-place-in-Sent.place })
    (record { number = c.args.number; arrival = c.args.at; fate = c.args.fate.now }) fates table none
    (record {
      here = c.set_row-in-Sent.ensures.here ∙ ap (λ (k : ℕ). first.Sent c.args.at k) c.in_ok-place-in-Sent.ensures
          ∙ sym (ap (λ (f : Fate). first_by c.args.at (c.args.self.now.sent + 1) f) c.in-Sent.is);
      others = λ m d. c.set_row-in-Sent.ensures.others m d ∙ c.make_room.ensures.same m;
      longer = omega (arith, c.make_room.ensures.longer, c.set_row-in-Sent.ensures.length);
      room = omega (arith, c.in_ok-make_room.ensures.room, c.set_row-in-Sent.ensures.length);
    }) (omega (arith, c.in_ok-place-in-Sent.ensures, ap (λ (f : Fate). length (with_sent c.args.number f [])) c.in-Sent.is))
