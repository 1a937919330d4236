use Rattle.std.proofs.Common.{◌^◌, ℕ, subst, sym, arith, lt-ltb}
use Rattle.fate_check.specs.Front.{StandsBefore}
use Rattle.fate_check.specs.declared.reading.Row.{Row}
use Rattle.fate_check.proofs.FrontLemmas.{RowStands, row_is}
use Rattle.fate_check.proofs.parse.row_before.Goals as goal

pub returns : goal.returns
returns c =
    let r : Row = record { number = c.in_ok-number.number; at = c.in_ok-at.at; len = c.in-Ok.len; class = c.in_ok-class-2.field-0; fate = c.in_ok-fate.fate } in
    let h : RowStands c.args.names.now c.args.text.now r c.in_ok-fate.text.now = record {
      at = c.in_ok-number.text.now;
      len = c.in_ok-at.text.now;
      class = c.in_ok-len.text.now;
      word = c.in_ok-class.text.now;
      name = c.in_ok-class.class.now;
      number_stands = c.in_ok-number.ensures;
      at_stands = c.in_ok-at.ensures;
      len_stands = let P : ℕ → Type 0 = λ n. StandsBefore 44 c.in_ok-at.text.now n c.in_ok-len.text.now in subst P (sym c.in-Ok.ensures.1) c.in_ok-len.ensures;
      class_stands = sym c.in_ok-class.ensures;
      fate_stands = c.in_ok-fate.ensures;
      small = lt-ltb c.in-Ok.len (2 ^ 32) (omega (arith, c.in-Ok.ensures.0, c.in-Ok.ensures.1));
      named = sym c.in_ok-class-2.ensures;
    } in
    row_is c.args.names.now c.args.text.now r c.in_ok-fate.text.now h
