use Rattle.file_judge.proofs.JournalLemmas.{of_journal}
use Rattle.file_judge.proofs.laws.verified_files_are_of_a_journal.Goals as goal

pub returns : goal.returns
returns c = of_journal
