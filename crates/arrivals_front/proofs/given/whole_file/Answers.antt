use Rattle.std.proofs.Common.{arith}
use Rattle.std.proofs.lemmas.Grind.{common_steps}
use Rattle.arrivals_front.proofs.TakingLemmas.{at_end, rest_of}
use Rattle.arrivals_front.proofs.given.whole_file.Goals as goal

pub returns-clause-whole : goal.returns-clause-whole
returns-clause-whole g c =
    let new = g.F.Files.view c.take_to.new.files in
    rest_of (g.F.Files.view c.args.files.now) new c.args.file c.args.taken.now.items c.take_to.new.taken.items c.in-Ok.ensures.gained
    (at_end new c.args.file _ c.take_to.new.taken.items c.in-Ok.ensures.enough (grind (arith, common_steps)))
