-- A row of text is computed through the words of csv and of std, which do not unfold by themselves.
use Rattle.std.proofs.Common.{refl}
use Rattle.csv.specs.Writing.{escaped, fields_text, is_blank}
use Rattle.std.specs.Fmt.{digits}
use Rattle.play_text.proofs.worked.worked_rows.Goals as goal

pub returns-clause-one_packet_at_five_seconds : goal.returns-clause-one_packet_at_five_seconds
unfolding digits escaped fields_text is_blank
returns-clause-one_packet_at_five_seconds c = refl
