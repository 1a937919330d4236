-- A play that goes on: what a discipline, the packets that wait and the clock of the link hold of its history.
use Rattle.std.specs.Prelude.{◌≡◌, ◌≤◌, ◌+◌, ℕ, List, [], ◌∷◌, length, Some, if◌then◌else◌}
use Rattle.std.specs.declared.option.Option.{Option}
use Rattle.capture_model.specs.Capture.{most_records}
use Rattle.altq_model.specs.declared.Verdict.{Verdict}
use Rattle.altq_model.specs.Arrivals.{Captured, arrival, bare_arrivals}
use Rattle.altq_model.specs.History.{DrawnWords, LabelledEvent, unlabelled, offered, drawn, labels, is_kept, was_marked}
use Rattle.altq_model.specs.Lawful.{AreRising, latest}
use Rattle.altq_model.specs.Link.{link}
use Rattle.altq_model.specs.Play.{Policy}
use Rattle.play_base.specs.declared.packet.Packet.{Packet}
use Rattle.leaf_queue.specs.declared.node.Entry.{Entry}
use Rattle.leaf_queue.specs.Pool.{PoolView, packet_of, is_marked, count_of}
use Rattle.discipline.specs.Laws.{HasRate, held_in, room_of}
use Rattle.discipline.specs.View.{DisciplineView}
use Rattle.play_core.specs.declared.state.Progress.{Progress}
use Rattle.play_core.specs.Ended.{IsBegun}
use Rattle.play_core.specs.Totals.{AreTotals}

-- the packet of an arrival, under its number
abbrev pub numbered : (n : ℕ) → Captured → Packet
numbered n a = record { number = n; at = a.at; len = a.len; bytes = a.bytes }

-- under `ticket` the pool holds the packet of arrival n, marked as its queue marked it
pub record Holds (arrived : List Captured) (g : List LabelledEvent) (pool : PoolView) (ticket n : ℕ) : Type 0 where
  pub packet : packet_of pool ticket ≡ Some (numbered n (arrival arrived n))
  pub mark : is_marked pool ticket ≡ was_marked n g

-- so it does under each of `tickets`, for the number at the same place of `numbers`
abbrev pub HoldEach : List Captured → List LabelledEvent → PoolView → (tickets numbers : List ℕ) → Type 0
HoldEach arrived g pool [] [] = Unit {0}
HoldEach arrived g pool [] (n ∷ ns) = ⊥
HoldEach arrived g pool (t ∷ ts) [] = ⊥
HoldEach arrived g pool (t ∷ ts) (n ∷ ns) = Holds arrived g pool t n × HoldEach arrived g pool ts ns

-- a packet that is kept takes a place
abbrev pub one_kept : Verdict → ℕ
one_kept v = if is_kept v then 1 else 0

-- the first events of the play of what arrived so far, by what a discipline shows and by the random words of a seed
pub record IsGoing (d : DisciplineView) (arrived : List Captured) (w : DrawnWords) (x : Progress) (g : List LabelledEvent) : Type 0 where
  pub begun : IsBegun d.policy x.clock.rate w.seed (bare_arrivals arrived) g
  pub rising : AreRising (bare_arrivals arrived)
  pub few : length arrived ≤ most_records
  pub words : w.drawn ≡ drawn (unlabelled g)
  pub one_each : w.drawn ≤ offered (unlabelled g)
  pub link_is : x.clock.link ≡ link x.clock.rate (unlabelled g)
  pub latest_is : x.latest ≡ latest (unlabelled g)
  pub totals : AreTotals x.clock.rate g x.totals
  pub rate_is : HasRate d.link_rate x.clock.rate
  -- the discipline represents the same events under tickets, and the pool holds what waits
  pub recorded : List LabelledEvent
  pub represents : d.represents recorded
  pub same : unlabelled recorded ≡ unlabelled g
  pub holds : (c : ℕ) → HoldEach arrived g x.pool (labels c recorded) (labels c g)
  pub count : count_of x.pool ≡ held_in d.lists d.policy.classes
  pub within : held_in d.lists d.policy.classes ≤ room_of d.limits d.policy.classes
  pub room : x.pool.room ≡ room_of d.limits d.policy.classes + 1
