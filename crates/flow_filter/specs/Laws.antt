-- What holds of every class of a flow, in words that name no order of looking.
use Rattle.std.specs.Prelude.{◌≡◌, ◌<◌, ◌≤◌, ◌⊎◌, ◌==◌, ℕ, Bool, false, List, [], ◌∷◌, length, IsTrue, All, Some, slice_get, not}
use Rattle.std.specs.List.{list_any}
use Rattle.conf_tree.specs.declared.filter.Filter.{Filter}
use Rattle.conf_tree.specs.declared.interface.Interface.{Interface}
use Rattle.packet_heads.specs.Flow.{Flow, V4, V6, Other, flow}
use Rattle.flow_filter.specs.Matches.{matches}
use Rattle.flow_filter.specs.Rules.{Rules, rules_of, filters_of_control}
use Rattle.flow_filter.specs.Winner.{class_of}

-- the filter at a place matches, and each other one that does has a lesser rule number, or the same and stands behind it
pub record Wins (filters : List Filter) (flow : Flow) (place : ℕ) (f : Filter) : Type 0 where
  pub stands : slice_get filters place ≡ Some f
  pub agrees : IsTrue (matches f flow)
  pub greatest : (i : ℕ) (g : Filter) → slice_get filters i ≡ Some g → IsTrue (matches g flow) → g.ruleno ≤ f.ruleno
  pub first : (i : ℕ) (g : Filter) → i < place → slice_get filters i ≡ Some g → IsTrue (matches g flow) → g.ruleno < f.ruleno

abbrev pub NoneMatches : List Filter → Flow → Type 0
NoneMatches filters flow = All (λ f. IsTrue (not (matches f flow))) filters

-- the class of the one that wins is taken
abbrev pub WinnerTakesIt : Type 0
WinnerTakesIt =
    (rules : Rules) (flow : Flow) (place : ℕ) (f : Filter) → Wins rules.filters flow place f → class_of rules flow ≡ f.class

-- where none matches it is the default class
abbrev pub DefaultTakesTheRest : Type 0
DefaultTakesTheRest =
    (rules : Rules) (flow : Flow) → NoneMatches rules.filters flow → class_of rules flow ≡ rules.otherwise

-- one wins, or none matches
abbrev pub OneWinsOrNoneMatches : Type 0
OneWinsOrNoneMatches =
    (filters : List Filter) (flow : Flow) → ((place : ℕ) × (f : Filter) × Wins filters flow place f) ⊎ NoneMatches filters flow

-- a flow of one of the protocols of control: ICMP, IGMP and RSVP over IPv4, ICMP over IPv6
abbrev pub is_control : Flow → Bool
is_control (V4 heads) = list_any (λ p. p == heads.protocol) (1 ∷ 2 ∷ 46 ∷ [])
is_control (V6 heads) = 58 == heads.protocol
is_control Other = false

-- of the frames those of these flows are exactly what the filters of a class with `control` match
abbrev pub ControlTakesItsProtocols : Type 0
ControlTakesItsProtocols =
    (class : ℕ) (frame : List ℕ) → All (λ byte. byte < 256) frame
    → list_any (λ f. matches f (flow frame)) (filters_of_control class) ≡ is_control (flow frame)

-- the class is one of the interface's, if those of its filters are
abbrev pub ClassIsThere : Type 0
ClassIsThere =
    (interface : Interface) (flow : Flow) → 0 < length interface.classes
    → All (λ f. f.class < length interface.classes) interface.filters
    → class_of (rules_of interface) flow < length interface.classes
