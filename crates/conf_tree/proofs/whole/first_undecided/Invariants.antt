use Rattle.std.proofs.Common.{◌≡◌, drop}
use Rattle.conf_tree.specs.Whole.{first_undecided}
use Rattle.conf_tree.proofs.whole.first_undecided.Given as goal

abbrev pub invariant-loop-draft : goal.invariant-loop-draft
invariant-loop-draft l = first_undecided (drop l.draft-index l.drafts) ≡ first_undecided l.drafts
