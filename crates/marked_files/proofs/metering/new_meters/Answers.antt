use Rattle.std.proofs.Common.{◌≡◌, arith, sym, subst}
use Rattle.std.proofs.lemmas.Grind.{common_steps}
use Rattle.marked_files.specs.Metering.{AreReady, new_meters}
use Rattle.marked_files.proofs.Meters.{new_are_ready}
use Rattle.marked_files.proofs.metering.new_meters.Goals as goal

pub returns-clause-ready : goal.returns-clause-ready
returns-clause-ready c =
    let same : c.loop-rule.meters.items ≡ new_meters c.args.rules.now = grind (arith, common_steps) in
    subst (AreReady 0) (sym same) (new_are_ready c.args.rules.now c.requires.assured)
