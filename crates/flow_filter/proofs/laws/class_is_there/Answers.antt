use Rattle.std.proofs.Common.{◌==◌, ◌<◌, length}
use Rattle.std.proofs.lemmas.List.Elements.{All-filter}
use Rattle.flow_filter.specs.Matches.{matches}
use Rattle.flow_filter.specs.Rules.{rules_of}
use Rattle.flow_filter.specs.Winner.{matching, greatest}
use Rattle.flow_filter.proofs.Found.{found_below, filters_below, default_below}
use Rattle.flow_filter.proofs.laws.class_is_there.Goals as goal

pub returns : goal.returns
returns c = λ interface flow some there.
    let rules = rules_of interface in
    let left = matching rules.filters flow in
    found_below (length interface.classes) rules.otherwise (λ f. f.class) (λ f. f.ruleno == greatest left) left
    (All-filter (λ f. matches f flow) (λ f. f.class < length interface.classes) rules.filters (filters_below interface.filters interface.classes there))
    (default_below interface.classes some)
