use Rattle.std.proofs.Common.{◌++◌, string_bytes, refl}
use Rattle.conf_tree.specs.Canonical.{meter_lines, conditioner_lines}
use Rattle.conf_tree.specs.Printed.{printed}
use Rattle.conf_tree.proofs.PrintedLines.{one_more}
use Rattle.conf_tree.proofs.text.push_conditioners.Goals as goal

pub loop-class-preserved : goal.loop-class-preserved
loop-class-preserved c =
    let interface = c.args.interface.now in
    one_more (λ x. meter_lines interface x.name x.meter) (conditioner_lines interface) (λ x xs. refl) (string_bytes c.loop-class.out)
    (string_bytes c.push_meter.new.out) (string_bytes c.args.out.now ++ printed (conditioner_lines interface c.args.classes.now)) c.args.classes.now
    c.loop-class.class-index c.class-item.result c.loop-class-test.true c.class-item.is (rw c.as_str.ensures at c.in_ok-push_meter.ensures)
    c.loop-class.invariant
