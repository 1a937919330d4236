-- An unused marker of an interface's conditioners marks as they do.
use Rattle.std.proofs.Common.{◌≡◌, ◌∙◌, ◌++◌, ap, ℕ, List, length, refl, sym, subst, arith}
use Rattle.std.specs.Prelude.{Option}
use Rattle.altq_model.specs.declared.Placed.{Placed}
use Rattle.conf_tree.specs.Conditioners.{meters}
use Rattle.conf_tree.specs.declared.interface.Interface.{Interface}
use Rattle.frame_classes.specs.Frames.{Classes, place_in, placed_by}
use Rattle.interface_marks.specs.Conditioners.{Begins, Marks, conditioning_of}
use Rattle.marked_files.specs.Courses.{Course, conditioning}
use Rattle.marked_files.specs.Markings.{IsUnused, Marking}
use Rattle.marked_files.specs.Standing.{IsPart}
use Rattle.marked_files.specs.declared.stage.Stage.{Stage}
use Rattle.marked_files.proofs.CaptureLaws.{given_marked}
use Rattle.marked_files.proofs.StandingLemmas.{begun_stands}
use Rattle.traffic_marks.specs.Marked.{marked}
use Rattle.traffic_meter.specs.declared.rule.MeterRule.{MeterRule}

pub marks_of : (i : Interface) (classes : Classes) (rules : List (Option MeterRule)) (first : List ℕ) (m : Marking Classes) → placed_by classes ≡ place_in i
    → rules ≡ meters i.classes → IsUnused classes rules first m → Marks i first m
marks_of i classes rules first m placed are n = λ left.
    given_marked placed_by m rules first left (record { classes = refl; stage = n.stage; course = n.course; ready = n.ready; pending = n.pending })
    ∙ ap (λ (p : List ℕ → Placed). marked (conditioning p rules) (first ++ left)) (ap placed_by n.classes ∙ placed)
    ∙ ap (λ (r : List (Option MeterRule)). marked (conditioning (place_in i) r) (first ++ left)) are

pub begins_of : (i : Interface) (classes : Classes) (rules : List (Option MeterRule)) (first : List ℕ) (m : Marking Classes) → placed_by classes ≡ place_in i
    → rules ≡ meters i.classes → IsUnused classes rules first m → Begins i first m
begins_of i classes rules first m placed are n = record {
  stands = begun_stands placed_by (conditioning_of i) first m n.stage (ap (λ (c : Course). c.count) n.course) (ap (λ (c : Course). c.at) n.course)
      n.ready n.pending (marks_of i classes rules first m placed are n);
  given = ap length n.ready;
  waits = λ few. record {
    part = subst (λ (s : Stage). IsPart s m.course m.held.pending) (sym n.stage) (omega (arith, few, ap length n.pending));
    room = omega (arith, few, ap length n.pending);
  };
}
