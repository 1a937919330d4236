use Rattle.conf_grammar.proofs.WorkedLines.{class_without_share, committed_above_peak, mask_behind_zero, prefix_too_long, rate_below, rate_left_out}
use Rattle.conf_grammar.proofs.rows.worked_refusals.Goals as goal

pub returns : goal.returns
returns c = record {
  rate = rate_below;
  share = class_without_share;
  needed = rate_left_out;
  mask = mask_behind_zero;
  prefix = prefix_too_long;
  committed = committed_above_peak;
}
