use Rattle.std.proofs.Common.{refl, arith, IsTrue}
use Rattle.std.proofs.lemmas.List.Elements.{All-from_recursion}
use Rattle.std.specs.Fmt.{digits}
use Rattle.csv.specs.Writing.{fields_text, is_blank}
use Rattle.line_text.specs.Names.{is_name}
use Rattle.std.specs.Prelude.{codes}
use Rattle.play_text.specs.Names.{AreNames}
use Rattle.fate_check.specs.Rows.{line, one_name}
use Rattle.fate_check.specs.Parse.{dropped_of, fate_by, fate_of, fields_of, len_of, number_of, reason_of, row_in, row_of, rule_of, sent_of}
use Rattle.fate_check.proofs.RowLemmas.{no_row}
use Rattle.fate_check.proofs.worked.worked_rows.Goals as goal

good : AreNames one_name
good = record {
  rising = λ i j d less inside. absurd (omega (arith, less, inside));
  named = All-from_recursion (λ pair. IsTrue (is_name pair.1)) one_name (refl, tt);
  different = λ i j d less inside. absurd (omega (arith, less, inside));
  few = omega arith;
}

pub returns-clause-one_packet_at_five_seconds : goal.returns-clause-one_packet_at_five_seconds
unfolding digits fields_text is_blank
returns-clause-one_packet_at_five_seconds c = refl

pub returns-clause-greatest_numbers : goal.returns-clause-greatest_numbers
unfolding digits fields_text is_blank
returns-clause-greatest_numbers c = refl

pub returns-clause-without_line_feed : goal.returns-clause-without_line_feed
unfolding row_of row_in fields_of number_of len_of rule_of reason_of dropped_of sent_of fate_by fate_of
returns-clause-without_line_feed c = no_row one_name (codes "1,0,100,default,share,0,100000") good refl

pub returns-clause-number_past_its_type : goal.returns-clause-number_past_its_type
unfolding row_of row_in fields_of number_of len_of rule_of reason_of dropped_of sent_of fate_by fate_of
returns-clause-number_past_its_type c = no_row one_name (line (codes "18446744073709551616,0,100,default,share,0,100000")) good refl

pub returns-clause-length_past_its_type : goal.returns-clause-length_past_its_type
unfolding row_of row_in fields_of number_of len_of rule_of reason_of dropped_of sent_of fate_by fate_of
returns-clause-length_past_its_type c = no_row one_name (line (codes "1,0,4294967296,default,share,0,100000")) good refl

pub returns-clause-leading_zero : goal.returns-clause-leading_zero
unfolding row_of row_in fields_of number_of len_of rule_of reason_of dropped_of sent_of fate_by fate_of
returns-clause-leading_zero c = no_row one_name (line (codes "01,0,100,default,share,0,100000")) good refl

pub returns-clause-sign : goal.returns-clause-sign
unfolding row_of row_in fields_of number_of len_of rule_of reason_of dropped_of sent_of fate_by fate_of
returns-clause-sign c = no_row one_name (line (codes "+1,0,100,default,share,0,100000")) good refl

pub returns-clause-blank : goal.returns-clause-blank
unfolding row_of row_in fields_of number_of len_of rule_of reason_of dropped_of sent_of fate_by fate_of
returns-clause-blank c = no_row one_name (line (codes "1, 0,100,default,share,0,100000")) good refl

pub returns-clause-other_class : goal.returns-clause-other_class
unfolding row_of row_in fields_of number_of len_of rule_of reason_of dropped_of sent_of fate_by fate_of
returns-clause-other_class c = no_row one_name (line (codes "1,0,100,defaul,share,0,100000")) good refl

pub returns-clause-quotes : goal.returns-clause-quotes
unfolding row_of row_in fields_of number_of len_of rule_of reason_of dropped_of sent_of fate_by fate_of
returns-clause-quotes c = no_row one_name (line (codes "1,0,100,\"default\",share,0,100000")) good refl

pub returns-clause-other_word : goal.returns-clause-other_word
unfolding row_of row_in fields_of number_of len_of rule_of reason_of dropped_of sent_of fate_by fate_of
returns-clause-other_word c = no_row one_name (line (codes "1,0,100,default,shared,0,100000")) good refl

pub returns-clause-sending_without_end : goal.returns-clause-sending_without_end
unfolding row_of row_in fields_of number_of len_of rule_of reason_of dropped_of sent_of fate_by fate_of
returns-clause-sending_without_end c = no_row one_name (line (codes "1,0,100,default,share,0,")) good refl

pub returns-clause-drop_with_start : goal.returns-clause-drop_with_start
unfolding row_of row_in fields_of number_of len_of rule_of reason_of dropped_of sent_of fate_by fate_of
returns-clause-drop_with_start c = no_row one_name (line (codes "1,0,100,default,full,0,")) good refl

pub returns-clause-carriage_return : goal.returns-clause-carriage_return
unfolding row_of row_in fields_of number_of len_of rule_of reason_of dropped_of sent_of fate_by fate_of
returns-clause-carriage_return c = no_row one_name (codes "1,0,100,default,share,0,100000\r\n") good refl
