use Rattle.journal_laws.proofs.JournalLemmas.{are_decisions, is_busy, is_journal}
use Rattle.journal_laws.proofs.journals_keep_the_laws.Goals as goal

pub returns : goal.returns
returns c = record { decisions = are_decisions; whole = is_journal; busy = is_busy }
