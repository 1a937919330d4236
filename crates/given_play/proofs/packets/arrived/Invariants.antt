use Rattle.std.proofs.Common.{◌≡◌, ◌<◌, ◌≤◌, ◌-◌, ◌++◌, drop, length}
use Rattle.std.specs.Prelude.{All}
use Rattle.altq_model.specs.History.{Arrival}
use Rattle.fate_judge.specs.Given.{bare_arrivals}
use Rattle.given_play.specs.Packets.{bare_arrivals_shown}
use Rattle.given_play.proofs.packets.arrived.Given as goal

-- those so far, and those to come
abbrev pub invariant-loop-found : goal.invariant-loop-found
invariant-loop-found g l = record {
  shown : bare_arrivals_shown (g.C.Classify.placed l.classify) 0 l.records
      ≡ bare_arrivals l.all.items ++ bare_arrivals_shown (g.C.Classify.placed l.classify) l.latest (drop l.place l.records);
  count : length l.all.items ≡ l.place;
  within : l.place ≤ length l.records;
  some : All (λ (a : Arrival). 0 < a.len) (bare_arrivals l.all.items);
}

abbrev pub decreases-loop-found : goal.decreases-loop-found
decreases-loop-found g l = length l.records - l.place
