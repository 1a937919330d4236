use Rattle.std.proofs.Common.{arith}
use Rattle.verify_command.proofs.FileLemmas.{whole_of}
use Rattle.verify_command.proofs.files.read_departures.Goals as goal

pub returns-clause-whole : goal.returns-clause-whole
returns-clause-whole g c = λ t.
    whole_of (g.F.Files.view c.args.files.now) (g.F.Files.view c.open_file.new.files) (g.F.Files.view c.read_front.new.files) 3 c.args.name.now
    c.in_ok-file.file c.in-Ok.all.items c.in_ok-file.ensures.opened c.in-Ok.ensures.taken (c.in-Ok.ensures.whole (omega arith)) (omega arith) t
