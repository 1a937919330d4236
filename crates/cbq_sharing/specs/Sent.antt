-- What CBQ keeps after a sending.
use Rattle.std.specs.Prelude.{ℕ, zero, suc, List, get_or, slice_set, Option, None, Some}
use Rattle.cbq_estimator.specs.Average.{Ended}
use Rattle.cbq_estimator.specs.Estimate.{Estimate}
use Rattle.cbq_estimator.specs.Now.{after_end}
use Rattle.cbq_model.specs.declared.CbqClass.{CbqClass}
use Rattle.cbq_model.specs.Tree.{class_of}
use Rattle.cbq_sharing.specs.Shared.{Shared, no_estimate}

-- the same, with another credit of class c
abbrev pub with_credit : Shared → (c credit : ℕ) → Shared
with_credit d c credit = record {
  rate = d.rate;
  tree = d.tree;
  estimates = d.estimates;
  credits = slice_set d.credits c credit;
  cursors = d.cursors;
  ended = d.ended;
}

-- the ring of the class's priority begins at it, and the latest sending ended at `end`
abbrev pub with_last : Shared → (c end : ℕ) → Shared
with_last d c end = record {
  rate = d.rate;
  tree = d.tree;
  estimates = d.estimates;
  credits = d.credits;
  cursors = slice_set d.cursors (class_of d.tree c).priority c;
  ended = end;
}

-- the averages after a packet of a class, which is told to it and to each class above it, over at most `levels` levels
abbrev pub told_up : (levels : ℕ) → List CbqClass → Option ℕ → Ended → List Estimate → List Estimate
told_up zero cs o x es = es
told_up (suc levels) cs None x es = es
told_up (suc levels) cs (Some c) x es = told_up levels cs (class_of cs c).parent x (slice_set es c (after_end (get_or es c no_estimate) x))

abbrev pub with_estimates : Shared → List Estimate → Shared
with_estimates d es = record { rate = d.rate; tree = d.tree; estimates = es; credits = d.credits; cursors = d.cursors; ended = d.ended }
