use Rattle.std.proofs.Common.{rules, ◌≡◌, ◌<◌, ℕ, length, get_or, arith}
use Rattle.std.specs.declared.cmp.Reverse.{Reverse}
use Rattle.std.proofs.lemmas.Fn.{always_returns_same}
use Rattle.flow_filter.specs.Ranked.{ruleno_at}
use Rattle.flow_filter.proofs.Ranks.{ranked_from}
use Rattle.flow_filter.proofs.ranking.ranked.Goals as goal

pub returns : goal.returns
returns c =
    let filters = c.args.filters.now in
    let key : ℕ → Reverse ℕ = λ place. record { 0 = ruleno_at filters place } in
    let long : length c.in_ok-places.places.items ≡ length filters = omega (arith, c.in_ok-places.ensures.long, c.in-Ok.ensures) in
    let each : (k : ℕ) → k < length filters → get_or c.in_ok-places.places.items k 0 ≡ k = λ k h. c.in_ok-places.ensures.each k (omega (arith, c.in_ok-places.ensures.long, c.in-Ok.ensures)) in
    ranked_from filters c.in_ok-places.places.items c.sort_by_key.new.self.items long each
    c.sort_by_key.ensures.permutation
    (c.in_ok-sort_by_key.ensures.sorted key (always_returns_same _ _ _ (λ a r f' k. search rules)))
    (c.sort_by_key.ensures.stable key (always_returns_same _ _ _ (λ a r f' k. search rules)))
