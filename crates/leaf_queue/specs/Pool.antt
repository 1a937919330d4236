-- What contracts see of a pool: the packet with its mark, or nothing, at each ticket from 0 on, the ticket of the packet that is put next,
-- and the room that was reserved.
use Rattle.std.specs.Prelude.{◌≤◌, ◌<◌, ◌-◌, ◌^◌, ℕ, min, Bool, false, None, is_some, List, count_by, option_map, slice_index_or}
use Rattle.std.specs.Option.{option_map_or}
use Rattle.std.specs.declared.option.Option.{Option}
use Rattle.slab.specs.Slab.{Slab}
use Rattle.play_base.specs.declared.packet.Packet.{Packet}
use Rattle.leaf_queue.specs.declared.pool.Kept.{Kept}

pub record PoolView : Type 0 where
  pub slots : List (Option Kept)
  pub next : ℕ
  pub room : ℕ

-- the packet of a ticket, None where the ticket is not held
abbrev pub packet_of : PoolView → (ticket : ℕ) → Option Packet
packet_of p t = option_map (λ (k : Kept). k.packet) (slice_index_or p.slots t None)

-- whether the packet of a ticket is marked
abbrev pub is_marked : PoolView → (ticket : ℕ) → Bool
is_marked p t = option_map_or (λ (k : Kept). k.marked) (slice_index_or p.slots t None) false

-- the ticket that a key of a slab is: no greater than 32 bits can hold
abbrev pub ticket_of : (key : ℕ) → ℕ
ticket_of key = min key (2 ^ 32 - 1)

-- how many tickets are held
abbrev pub count_of : PoolView → ℕ
count_of p = count_by is_some p.slots

-- the room is there, and each ticket fits 32 bits
pub record IsReserved (s : Slab Kept) (room : ℕ) : Type 0 where
  pub there : room ≤ s.capacity
  pub small : s.capacity < 2 ^ 32
