use Rattle.play_laws.proofs.AllLaws.{due_laws}
use Rattle.play_laws.proofs.due_events_keep_the_laws.Goals as goal

pub returns : goal.returns
returns c = record { laws = due_laws }
