-- A row of text is computed through the words of csv and of std, which do not unfold by themselves.
use Rattle.std.proofs.Common.{refl}
use Rattle.csv.specs.Writing.{escaped, fields_text, is_blank}
use Rattle.std.specs.Fmt.{digits}
use Rattle.play_chain.proofs.worked.worked_paths.Goals as goal

pub returns-clause-one_packet_over_two_links : goal.returns-clause-one_packet_over_two_links
unfolding digits escaped fields_text is_blank
returns-clause-one_packet_over_two_links c = refl

pub returns-clause-overtaken : goal.returns-clause-overtaken
unfolding digits escaped fields_text is_blank
returns-clause-overtaken c = refl

pub returns-clause-not_known : goal.returns-clause-not_known
unfolding digits escaped fields_text is_blank
returns-clause-not_known c = refl
