-- A number has a row or none.
use Rattle.std.proofs.Common.{◌++◌, ◌+◌, ◌∙◌, sym, subst, List, ℕ, Vec, Global}
use Rattle.csv.specs.declared.writer.Writer.{Writer}
use Rattle.csv.specs.Writing.{writer_pending, writer_under}
use Rattle.play_chain.specs.Tables.{in_tables}
use Rattle.play_chain.specs.Written.{Continues, IsBetweenRows}
use Rattle.play_chain.proofs.TextLemmas.{no_row, one_row}
use Rattle.play_chain.proofs.row.add_rows.Goals as goal
use Rattle.play_chain.proofs.row.add_rows.Goals.{in-Some+in_ok-add_row, in_default}

-- what a writer has written
abbrev written : Writer (Vec ℕ Global) → List ℕ
written w = (writer_under w).items ++ writer_pending w

pub rows-preserved : goal.rows-preserved
rows-preserved c =
    let n = c.rows.number in
    let f = in_tables c.args.firsts.now c.args.seconds.now in
    let P : Writer (Vec ℕ Global) → Type 0 = λ w. IsBetweenRows w in
    let T : Writer (Vec ℕ Global) → Type 0 = λ w. Continues (written c.args.writer.now) (written w) c.args.from (n + 1) f in
    elim c.match-passage_of.branch [
      | in-Some+in_ok-add_row w ↦ record {
        between = subst P (sym w.writer-is) w.in_ok-add_row.ensures.between;
        text = subst T (sym w.writer-is)
            (one_row (written c.args.writer.now) (written c.rows.writer) (written w.add_row.new.writer) c.args.from n f w.in-Some.passage
            (sym c.passage_of.ensures ∙ w.in-Some.is) w.in_ok-add_row.ensures.text c.rows.invariant.text);
      }
      | in_default w ↦ record {
        between = subst P (sym w.writer-is) c.rows.invariant.between;
        text = subst T (sym w.writer-is)
            (no_row (written c.args.writer.now) (written c.rows.writer) c.args.from n f (sym c.passage_of.ensures ∙ w.in_default.is) c.rows.invariant.text);
      }
    ]
