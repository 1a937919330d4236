-- What is told of a play: for each decision, in the order of the journal, the number of its packet, its arrival and its fate.
use Rattle.std.specs.Prelude.{List, [], ◌∷◌, map}
use Rattle.std.specs.Option.{option_map_or}
use Rattle.std.specs.declared.option.Option.{Option}
use Rattle.altq_model.specs.Arrivals.{Captured, arrival}
use Rattle.altq_model.specs.declared.Fate.TheVariants as fate
use Rattle.altq_model.specs.History.{Decision}
use Rattle.play_core.specs.declared.turn.Departure.{Departure}
use Rattle.play_core.specs.declared.turn.Dropped.{Dropped}
use Rattle.play_loop.specs.declared.kept.KeptFate.{KeptFate}

-- a decision of a play of these arrivals
abbrev pub kept_fate : List Captured → Decision → KeptFate
kept_fate arrived d = record { number = d.0; arrival = (arrival arrived d.0).at; fate = d.1 }

abbrev pub kept_fates : List Captured → List Decision → List KeptFate
kept_fates arrived js = map (kept_fate arrived) js

-- of a packet that was sent, and of one that was dropped
abbrev pub sent_fate : Departure → KeptFate
sent_fate d = record { number = d.packet.number; arrival = d.packet.at; fate = fate.Sent d.start d.end d.rule }

abbrev pub dropped_fate : Dropped → KeptFate
dropped_fate d = record { number = d.number; arrival = d.at; fate = fate.Dropped d.reason }

-- of one that was dropped, or of none
abbrev pub dropped_fates : Option Dropped → List KeptFate
dropped_fates dropped = option_map_or (λ d. dropped_fate d ∷ []) dropped []
