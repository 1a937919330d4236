use Rattle.std.proofs.Common.{◌≡◌, ◌⊎◌, inl, inr, ℕ, List, Some, ap}
use Rattle.std.specs.Option.{option_map_or}
use Rattle.conf_tree.specs.declared.filter.Filter.{Filter}
use Rattle.packet_heads.specs.Flow.{Flow}
use Rattle.flow_filter.specs.Laws.{Wins, NoneMatches}
use Rattle.flow_filter.specs.Matches.{matches}
use Rattle.flow_filter.specs.Winner.{winner, matching}
use Rattle.flow_filter.proofs.Best.{best_is}
use Rattle.flow_filter.proofs.Places.{Leads, LeadsOrNone, leads_is, none_left, leads_or_none}
use Rattle.flow_filter.proofs.laws.greatest_rule_wins.Goals as goal

leads : (filters : List Filter) (flow : Flow) (place : ℕ) (f : Filter) → Wins filters flow place f → Leads (λ g. g.ruleno) (λ g. matches g flow) filters place f
leads filters flow place f w = record { stands = w.stands; passes = w.agrees; greatest = w.greatest; first = w.first }

wins : (filters : List Filter) (flow : Flow) (place : ℕ) (f : Filter) → Leads (λ g. g.ruleno) (λ g. matches g flow) filters place f → Wins filters flow place f
wins filters flow place f w = record { stands = w.stands; agrees = w.passes; greatest = w.greatest; first = w.first }

either : (filters : List Filter) (flow : Flow) → LeadsOrNone (λ g. g.ruleno) (λ g. matches g flow) filters
    → ((place : ℕ) × (f : Filter) × Wins filters flow place f) ⊎ NoneMatches filters flow
either filters flow (inl w) = inl (w.0, w.1, wins filters flow w.0 w.1 w.2)
either filters flow (inr none) = inr none

pub returns-clause-winner : goal.returns-clause-winner
returns-clause-winner c = λ rules flow place f w.
    let found : winner (matching rules.filters flow) ≡ Some f = best_is (λ g. g.ruleno) (matching rules.filters flow) f
    (leads_is (λ g. g.ruleno) (λ g. matches g flow) rules.filters place f (leads rules.filters flow place f w)) in
    ap (λ o. option_map_or (λ g. g.class) o rules.otherwise) found

pub returns-clause-otherwise : goal.returns-clause-otherwise
returns-clause-otherwise c = λ rules flow none.
    ap (λ fs. option_map_or (λ g. g.class) (winner fs) rules.otherwise) (none_left (λ g. matches g flow) rules.filters none)

pub returns-clause-either : goal.returns-clause-either
returns-clause-either c = λ filters flow. either filters flow (leads_or_none (λ g. g.ruleno) (λ g. matches g flow) filters)
