use Rattle.conf_grammar.proofs.Statements.{read_is_spelled, spelled_is_read, spelled_lines, statements_spelled}
use Rattle.conf_grammar.proofs.reading_is_the_grammar.Goals as goal

pub returns : goal.returns
returns c = record {
  spelled = spelled_is_read;
  read = read_is_spelled;
  lines = spelled_lines;
  statements = statements_spelled;
}
