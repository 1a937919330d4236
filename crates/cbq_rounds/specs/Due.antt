-- What is due at a moment, by what CBQ keeps.
use Rattle.std.specs.Prelude.{◌==◌, ℕ, List, [], ◌∷◌, Option, None, Some, option_map, if◌then◌else◌}
use Rattle.altq_model.specs.Play.{Choice, lesser}
use Rattle.cbq_model.specs.Choice.{choice_of}
use Rattle.cbq_model.specs.Tree.{each}
use Rattle.leaf_queue.specs.declared.node.Entry.{Entry}
use Rattle.link_clock.specs.Clock.{Clock}
use Rattle.discipline.specs.declared.pick.Pick.{Pick}
use Rattle.discipline.specs.declared.pick.Pick.TheVariants.{Send, Wait, Empty}
use Rattle.cbq_sharing.specs.Shared.{Shared, head_len, situation_in, start_now_in}

-- the first of some moments
abbrev pub first_of : List (Option ℕ) → Option ℕ
first_of [] = None
first_of (o ∷ os) = lesser o (first_of os)

-- the least moment from t on at which a class may send its head; None if nothing waits in it
abbrev pub start_in : Shared → (ℕ → List Entry) → Clock → (t c : ℕ) → Option ℕ
start_in d lists clock t c = option_map (λ len. start_now_in d clock.rate clock.link c t len) (head_len (lists c))

abbrev pub first_in : Shared → (ℕ → List Entry) → Clock → (t : ℕ) → Option ℕ
first_in d lists clock t = first_of (each (λ c k. start_in d lists clock t c) d.tree)

-- the sending of the head of a list
abbrev pub send_head : Choice → List Entry → Pick
send_head k [] = Empty
send_head k (x ∷ xs) = Send x.ticket k.class x.len k.rule

abbrev pub due_with : Option ℕ → (t : ℕ) → Pick → Pick
due_with None t p = Empty
due_with (Some u) t p = if u == t then p else Wait u

-- nothing where nothing waits; the head of the choice's class where some class may send at t; else a wait
abbrev pub due_in : Shared → (ℕ → List Entry) → Clock → (t : ℕ) → Pick
due_in d lists clock t =
    let k = choice_of d.tree d.rate (situation_in d lists clock.link) t in
    due_with (first_in d lists clock t) t (send_head k (lists k.class))
