use Rattle.std.proofs.Common.{◌≡◌, ◌≤◌, ℕ, length}
use Rattle.pcapng_model.specs.Interface.{options, options_on}
use Rattle.pcapng_files.specs.Views.{settings}
use Rattle.pcapng_files.proofs.options.options.Given as goal

abbrev pub invariant-loop-rest : goal.invariant-loop-rest
invariant-loop-rest l =
    (turns : ℕ) × (length l.rest ≤ turns) × (options_on turns l.big l.rest (settings l.set) ≡ options l.big l.bytes)

abbrev pub decreases-loop-rest : goal.decreases-loop-rest
decreases-loop-rest l = length l.rest
