use Rattle.std.specs.Fmt.{digits}
use Rattle.line_text.specs.Lines.{continuation_len}
use Rattle.conf_lines.specs.Grammar.{at_statement, at_discipline, at_parent, step, end}
use Rattle.conf_lines.specs.Slots.{is_text, are_plain, rate_in, whole_in, skipped_in, name_in, protocol_in, mask_in, address_in, address6_in}
use Rattle.conf_lines.specs.Texts.{statements_of}
use Rattle.conf_laws.proofs.rows.worked_rows.Goals as goal

-- each row holds by computing its two sides
pub returns : goal.returns
unfolding statements_of is_text are_plain rate_in whole_in skipped_in name_in protocol_in mask_in address_in address6_in at_statement at_discipline at_parent step end continuation_len digits
returns c = assumption
