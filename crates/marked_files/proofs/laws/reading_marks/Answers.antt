use Rattle.marked_files.proofs.CaptureLaws.{reads_marked}
use Rattle.marked_files.proofs.Whole.{makes_marked}
use Rattle.marked_files.proofs.laws.reading_marks.Goals as goal

pub returns : goal.returns
returns c = record { marked = makes_marked; read = reads_marked }
