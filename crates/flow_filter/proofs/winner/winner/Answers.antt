use Rattle.std.proofs.Common.{◌∙◌, ap}
use Rattle.packet_heads.specs.Heads.{flow_of}
use Rattle.flow_filter.specs.Ranked.{filter_at}
use Rattle.flow_filter.proofs.Asked.{wins, none_wins}
use Rattle.flow_filter.proofs.winner.winner.Goals as goal

pub returns-in-Some : goal.returns-in-Some
returns-in-Some c =
    let first = c.in-Some.ensures c.args.filters.now c.requires in
    c.filter_at.ensures ∙ ap (λ places. filter_at c.args.filters.now places c.in-Some.rank) c.as_slice.ensures.value
    ∙ wins c.args.filters.now c.args.index.now.places.items (flow_of c.args.heads.now) c.in-Some.rank c.requires.ranked first.agrees first

pub returns-in-None : goal.returns-in-None
returns-in-None c = none_wins c.args.filters.now c.args.index.now.places.items (flow_of c.args.heads.now) c.requires.ranked (c.in-None.ensures c.args.filters.now c.requires)
