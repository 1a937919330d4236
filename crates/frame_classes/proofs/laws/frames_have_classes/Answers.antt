use Rattle.std.proofs.Common.{◌≤◌, Bool, true, false, arith}
use Rattle.std.specs.Prelude.{if◌then◌else◌}
use Rattle.flow_filter.specs.Rules.{rules_of}
use Rattle.flow_filter.specs.Winner.{class_of}
use Rattle.packet_heads.specs.Flow.{Flow, flow}
use Rattle.packet_heads.specs.Points.{precedence}
use Rattle.packet_heads.proofs.Lengths.{length-departing}
use Rattle.frame_classes.specs.Frames.{classes_of, is_capable, precedence_in}
use Rattle.frame_classes.specs.Handlings.{handling_at}
use Rattle.frame_classes.proofs.Queues.{at_most_two}
use Rattle.frame_classes.proofs.laws.frames_have_classes.Goals as goal

one_or_none : (capable : Bool) → (if capable then 1 else 0) ≤ 2
one_or_none true = omega arith
one_or_none false = omega arith

three : (marks : Bool) (f : Flow) → precedence f ≤ 2 → precedence_in marks f ≤ 2
three true f h = one_or_none (is_capable f)
three false f h = h

pub returns-clause-prec : goal.returns-clause-prec
returns-clause-prec c = λ i frame.
    three (handling_at (classes_of i).handlings (class_of (rules_of i) (flow frame))).marks (flow frame) (at_most_two (flow frame))

pub returns-clause-length : goal.returns-clause-length
returns-clause-length c = λ i class marked frame. length-departing (handling_at (classes_of i).handlings class).clears marked frame
