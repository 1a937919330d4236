use Rattle.play_base.proofs.ViewLaws.{wrote_nothing}
use Rattle.play_loop.proofs.writing.write_stats.Goals as goal

pub returns-in_default-clause-front : goal.returns-in_default-clause-front
returns-in_default-clause-front g c = (0, wrote_nothing (g.F.Files.view c.args.files.now) c.args.file)
