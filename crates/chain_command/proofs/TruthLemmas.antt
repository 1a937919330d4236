-- A chain may end as want of memory before anything is done.
use Rattle.std.proofs.Common.{ℕ, Err}
use Rattle.play_base.specs.View.{View}
use Rattle.run_outcomes.specs.declared.outcome.Failure.TheVariants as failure
use Rattle.command_form.specs.Names.{Links}
use Rattle.command_form.proofs.EndsLaws.{unread_ends}
use Rattle.command_form.proofs.FirstLaws.{none_come}
use Rattle.chain_command.specs.Chaining.{ChainEnds}
use Rattle.chain_command.specs.Names.{chain_command}
use Rattle.chain_command.proofs.EndLemmas.{unread_leaves}
use Rattle.chain_command.proofs.NameLemmas.{chain_reads}

pub chain_unread : (u : View) (n : Links) (seed : ℕ) → ChainEnds u u n seed (Err failure.NoMemory)
chain_unread u n seed =
    unread_ends (chain_command n) _ _ _ _ (chain_reads n) u (unread_leaves n seed u u (none_come u (chain_command n).asked))
