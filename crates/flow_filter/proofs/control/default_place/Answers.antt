use Rattle.std.proofs.Common.{◌≡◌, position, unwrap_or, ap, ◌∙◌, rules, tests}
use Rattle.std.proofs.lemmas.Iterator.{YieldsList-from_slice}
use Rattle.std.proofs.lemmas.Iterator.Search.{position_from_yields_List}
use Rattle.flow_filter.proofs.control.default_place.Goals as goal

pub returns : goal.returns
returns c =
    let found : c.position.result ≡ position (λ k. k.is_default) c.args.classes.now =
    position_from_yields_List (λ k. k.is_default) _ _ c.position.result c.position.ensures.ran (YieldsList-from_slice _ c.iter.ensures.rest) (λ x b q k. search (rules, tests)) in
    c.unwrap_or.ensures ∙ ap (λ o. unwrap_or o 0) found
