-- The outputs are ready, since the arrivals were opened before them.
use Rattle.std.proofs.Common.{arith}
use Rattle.play_rows.proofs.ReadyLemmas.{are_ready}
use Rattle.play_rows.proofs.over_strict.opened.Goals as goal

pub returns : goal.returns
returns c =
    are_ready _ _ _ _ _ _ c.args.words.now.arrivals.now c.args.words.now.departures.now c.args.words.now.fates.now c.args.words.now.stats.now _ (omega arith)
    c.requires c.in-Ok.ensures.opened c.in-Ok-create.ensures.created c.in-Ok-create-2.ensures.created c.in-Ok-create-3.ensures.created
