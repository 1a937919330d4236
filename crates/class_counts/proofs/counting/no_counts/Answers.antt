use Rattle.std.proofs.Common.{◌∙◌}
use Rattle.class_counts.proofs.CountingLemmas.{none_tallied}
use Rattle.class_counts.proofs.counting.no_counts.Goals as goal

pub returns-clause-none : goal.returns-clause-none
returns-clause-none c = (rw c.new-counts.ensures.items at c.in_ok-resize.ensures.items) ∙ none_tallied c.args.names.now _ _ c.len.ensures.count c.new-counts.ensures.len
