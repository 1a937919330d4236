use Rattle.std.proofs.lemmas.Bool.Decides.{Decides-eqb}
use Rattle.std.proofs.lemmas.Slice.Eq.{strip_prefix_is}
use Rattle.fate_departures.proofs.Fronts.{both_at, not_first}
use Rattle.fate_departures.proofs.records.behind_both.Goals as goal

pub returns-in-Some : goal.returns-in-Some
returns-in-Some c =
    both_at c.args.rest.now c.args.head.now c.args.bytes.now c.in-Some.more.now c.strip_prefix.result c.in-Some.ensures
    (strip_prefix_is Decides-eqb c.in-Some.more.now c.args.bytes.now c.strip_prefix.result c.strip_prefix.ensures.cases)

pub returns-in-None : goal.returns-in-None
returns-in-None c = not_first c.args.rest.now c.args.head.now c.args.bytes.now c.in-None.ensures
