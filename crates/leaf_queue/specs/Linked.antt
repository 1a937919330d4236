-- Lists that are linked through numbered places: where the entries of each stand. No public clause cites this module.
use Rattle.std.specs.Prelude.{◌≡◌, ◌≤◌, ◌<◌, ◌==◌, ◌+◌, ◌-◌, ◌^◌, ℕ, zero, suc, nat_le, List, [], ◌∷◌, slice_get, unwrap_or, is_some, Some, if◌then◌else◌}
use Rattle.slab.specs.Slab.{Slab, get, slab_len, with_value}
use Rattle.altq_model.specs.Laws.{occurs}
use Rattle.play_base.specs.declared.packet.Ticket.{Ticket}
use Rattle.leaf_queue.specs.declared.rule.Waiting.{Waiting}
use Rattle.leaf_queue.specs.declared.node.Entry.{Entry}
use Rattle.leaf_queue.specs.declared.node.Slot.{Slot}
use Rattle.leaf_queue.specs.declared.node.Node.{Node}
use Rattle.leaf_queue.specs.declared.node.Row.{Row}
use Rattle.leaf_queue.specs.Queue.{waiting_of}
use Rattle.leaf_queue.specs.Lists.{precs_in}

abbrev pub slot_of : ℕ → Slot
slot_of k = record { 0 = k }

abbrev pub no_waiting : Waiting
no_waiting = record { best = 0; middle = 0; all = 0 }

abbrev pub empty_row : Row
empty_row = record { first = slot_of 0; last = slot_of 0; waiting = no_waiting }

abbrev pub no_ticket : Ticket
no_ticket = record { 0 = 0 }

abbrev pub no_entry : Entry
no_entry = record { ticket = no_ticket; len = 0; prec = 0 }

abbrev pub no_node : Node
no_node = record { entry = no_entry; next = slot_of 0 }

-- what stands at a place
abbrev pub node_at : Slab Node → (slot : ℕ) → Node
node_at s slot = unwrap_or (get s slot) no_node

-- the places of `count` entries from one on
abbrev pub chain : Slab Node → (slot count : ℕ) → List ℕ
chain s slot zero = []
chain s slot (suc k) = slot ∷ chain s (node_at s slot).next.0 k

-- the place after `count` steps
abbrev pub step : Slab Node → (slot count : ℕ) → ℕ
step s slot zero = slot
step s slot (suc k) = step s (node_at s slot).next.0 k

-- the entries at these places
abbrev pub entries_at : Slab Node → List ℕ → List Entry
entries_at s [] = []
entries_at s (slot ∷ slots) = (node_at s slot).entry ∷ entries_at s slots

abbrev pub row_slots : Slab Node → Row → List ℕ
row_slots s r = chain s r.first.0 r.waiting.all

abbrev pub row_entries : Slab Node → Row → List Entry
row_entries s r = entries_at s (row_slots s r)

-- how often a place occurs in all lists
abbrev pub uses : Slab Node → List Row → (slot : ℕ) → ℕ
uses s [] slot = 0
uses s (r ∷ rows) slot = occurs slot (row_slots s r) + uses s rows slot

-- how many entries stand in all lists
abbrev pub total : List Row → ℕ
total [] = 0
total (r ∷ rows) = r.waiting.all + total rows

-- the last place is that of the last entry, and the counts are those of the entries
pub record IsRow (s : Slab Node) (r : Row) : Type 0 where
  pub ends : (k : ℕ) → r.waiting.all ≡ suc k → step s r.first.0 k ≡ r.last.0
  pub counts : r.waiting ≡ waiting_of (precs_in (row_entries s r))

-- Each place that holds a node stands in one list, and once; no other does. The room is there, and each place fits 32 bits.
pub record IsLinked (s : Slab Node) (rows : List Row) (room : ℕ) : Type 0 where
  pub each : (slot : ℕ) → uses s rows slot ≡ (if is_some (get s slot) then 1 else 0)
  pub row : (c : ℕ) (r : Row) → slice_get rows c ≡ Some r → IsRow s r
  pub count : total rows ≡ slab_len s
  pub there : room ≤ s.capacity
  pub small : s.capacity < 2 ^ 32

-- no count is greater than that of all
pub record IsCounted (w : Waiting) : Type 0 where
  pub best : w.best ≤ w.all
  pub middle : w.middle ≤ w.all

-- what stands at the places after the last one of a list, if it has one, was made to name another
abbrev pub linked_to : Slab Node → Row → Slot → Slab Node
linked_to s r slot =
    if r.waiting.all == 0 then s else with_value s r.last.0 (record (node_at s r.last.0) { next = slot })

-- a list after an entry of this precedence came at its end, in this place
abbrev pub row_after : Row → Slot → (prec : ℕ) → Row
row_after r slot prec = record {
  first = if r.waiting.all == 0 then slot else r.first;
  last = slot;
  waiting = record {
    best = r.waiting.best + (if prec == 0 then 1 else 0);
    middle = r.waiting.middle + (if nat_le prec 1 then 1 else 0);
    all = r.waiting.all + 1;
  };
}

-- a list after this head left it
abbrev pub row_before : Row → Node → Row
row_before r head = record {
  first = head.next;
  last = r.last;
  waiting = record {
    best = r.waiting.best - (if head.entry.prec == 0 then 1 else 0);
    middle = r.waiting.middle - (if nat_le head.entry.prec 1 then 1 else 0);
    all = r.waiting.all - 1;
  };
}
