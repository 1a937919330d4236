use Rattle.conf_grammar.proofs.WorkedLines.{conditioner_line, filter6_line, filter_line, hfsc_line, interface_line, root_line}
use Rattle.conf_grammar.proofs.rows.worked_lines.Goals as goal

pub returns : goal.returns
returns c = record {
  interface = interface_line;
  hfsc = hfsc_line;
  root = root_line;
  filter = filter_line;
  filter6 = filter6_line;
  conditioner = conditioner_line;
}
