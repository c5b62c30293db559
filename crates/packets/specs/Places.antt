-- Where packets are, and on which list a packet of each place stands. List 0 has the free packets, and list t the queue of task t.
use Rattle.std.specs.Prelude.{ℕ, zero, suc, Bool, true, false, ◌||◌, List, ◌∷◌, ℤ, pos, negsuc, ◌==◌, slice_index_or}
use Rattle.std.specs.List.{list_any}
use Rattle.chain.specs.Times.{hit}
use Rattle.packets.specs.declared.rows.Packet.{Packet}
use Rattle.packets.specs.declared.rows.Place.{Place}
use Rattle.packets.specs.declared.rows.Place.TheVariants.{Free, Hands, Queue}

-- How often a packet of that place stands on list i: at most once.
abbrev pub stands : Place → ℕ → ℕ
stands Free zero = 1
stands Free (suc t) = 0
stands (Hands k) i = 0
stands (Queue k) zero = 0
stands (Queue k) (suc t) = hit k (suc t)

-- The place of packet n; a number that no packet has stands on no list.
abbrev pub place_at : List Place → ℕ → Place
place_at places n = slice_index_or (Place.Hands 0 ∷ places) n (Place.Hands 0)

-- The place is in some task's hands, and so on no list.
abbrev pub handed : Place → Bool
handed Free = false
handed (Hands k) = true
handed (Queue k) = false

-- The place is task t's hands or its queue.
abbrev pub with_task : ℕ → Place → Bool
with_task t Free = false
with_task t (Hands k) = k == t
with_task t (Queue k) = k == t

-- The sender is task t.
abbrev pub from_task : ℕ → ℤ → Bool
from_task t (pos k) = k == t
from_task t (negsuc u) = false

-- The packet is in the hands of task t, on its queue, or bears it as sender.
abbrev pub involves : ℕ → Packet → Bool
involves t p = with_task t p.place || from_task t p.sender

-- Some packet is.
abbrev pub any_involves : ℕ → List Packet → Bool
any_involves t ps = list_any (involves t) ps

-- A packet of that place, with every other field 0.
abbrev pub blank : Place → Packet
blank p = record { place = p; sender = pos 0; kind = 0; first = 0; second = 0 }
