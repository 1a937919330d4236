-- The credits of the classes after the gains of a sending.
use Rattle.std.specs.Prelude.{◌≡◌, ◌≤◌, ◌<◌, ℕ, List, length, get_or}
use Rattle.altq_model.specs.History.{Sending}
use Rattle.leaf_queue.specs.declared.node.Entry.{Entry}
use Rattle.link_clock.specs.Clock.{Clock}
use Rattle.discipline.specs.declared.pick.Sending.{Sending as Ticketed}
use Rattle.cbq_model.specs.Choice.{candidates}
use Rattle.cbq_model.specs.Rounds.{gained, rounds_needed}
use Rattle.cbq_model.specs.Tree.{each}
use Rattle.cbq_sharing.specs.Shared.{Shared, situation_in}

abbrev pub bare_sending : Ticketed → Sending
bare_sending x = record { class = x.class; len = x.len; rule = x.rule; start = x.start; end = x.end }

abbrev pub with_credits : Shared → List ℕ → Shared
with_credits d credits = record { rate = d.rate; tree = d.tree; estimates = d.estimates; credits = credits; cursors = d.cursors; ended = d.ended }

-- the credit of a class after the gains of a sending
abbrev pub gained_by : Shared → (ℕ → List Entry) → Clock → Ticketed → (c : ℕ) → ℕ
gained_by d lists clock x c =
    let s = situation_in d lists clock.link in
    gained d.tree d.rate s (candidates d.tree d.rate s x.start) (rounds_needed d.tree d.rate s (bare_sending x)) c

abbrev pub with_gains : Shared → (ℕ → List Entry) → Clock → Ticketed → Shared
with_gains d lists clock x = with_credits d (each (λ c k. gained_by d lists clock x c) d.tree)

-- the classes before `class` have gained, and the others not yet
pub record HasGained (d : Shared) (lists : ℕ → List Entry) (clock : Clock) (x : Ticketed) (class : ℕ) (now : Shared) : Type 0 where
  pub same : now ≡ with_credits d now.credits
  pub count : length now.credits ≡ length d.credits
  pub done : (c : ℕ) → c < class → c < length d.tree → get_or now.credits c 0 ≡ gained_by d lists clock x c
  pub rest : (c : ℕ) → class ≤ c → get_or now.credits c 0 ≡ get_or d.credits c 0
