use Rattle.std.proofs.Common.{ℕ, rules}
use Rattle.std.proofs.lemmas.Fn.{always_returns_same}
use Rattle.flow_filter.specs.declared.ports.Filed.{Filed}
use Rattle.flow_filter.proofs.Filings.{in_order, holds_all}
use Rattle.flow_filter.proofs.ports.filed_by_port.Goals as goal

pub returns-clause-order : goal.returns-clause-order
returns-clause-order c =
    let port : Filed → ℕ = λ e. e.port in
    in_order c.args.filters.now c.args.places.now c.args.group _ c.in_ok-entries.entries.items c.sort_by_key.new.self.items c.in_ok-entries.ensures
    (c.in_ok-sort_by_key.ensures.sorted port (always_returns_same _ _ _ (λ a r f' k. search rules)))
    (c.sort_by_key.ensures.stable port (always_returns_same _ _ _ (λ a r f' k. search rules)))

pub returns-clause-all : goal.returns-clause-all
returns-clause-all c =
    holds_all c.args.filters.now c.args.places.now c.args.group c.in_ok-entries.entries.items c.sort_by_key.new.self.items c.in_ok-entries.ensures
    c.sort_by_key.ensures.permutation
