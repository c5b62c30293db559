-- The packet table as lists: the packets by their numbers, and the numbers on each list in order.
use Rattle.std.specs.Prelude.{ℕ, zero, suc, ◌+◌, ◌-◌, Bool, true, false, cond, ◌&&◌, List, [], ◌∷◌, ◌++◌, map, replicate, nat_le, slice_index_or, slice_set}
use Rattle.chain.specs.Chain.{first, tail}
use Rattle.chain.specs.Lists.{lists}
use Rattle.packets.specs.declared.rows.Place.{Place}
use Rattle.packets.specs.declared.rows.Packet.{Packet}
use Rattle.packets.specs.declared.table.PacketTable.{PacketTable}
use Rattle.packets.specs.Places.{blank}

pub record View : Type 0 where
  pub packets : List Packet
  pub lists : List (List ℕ)

abbrev pub view : PacketTable → View
view t = record { packets = map (λ r. r.item) t.rows; lists = lists t.heads (map (λ r. r.next) t.rows) }

-- Packet n; a number that no packet has reads as a free one with every field 0.
abbrev pub packet : View → ℕ → Packet
packet v n = cond (nat_le 1 n && nat_le n 64) (slice_index_or v.packets (n - 1) (blank Place.Free)) (blank Place.Free)

abbrev pub list : View → ℕ → List ℕ
list v i = slice_index_or v.lists i []

-- The list has a number.
abbrev pub filled : List ℕ → Bool
filled [] = false
filled (x ∷ xs) = true

-- The first packet of list i leaves it, and is written.
abbrev pub took_first : View → ℕ → Packet → View
took_first v i p = record { packets = slice_set v.packets (first (list v i) - 1) p; lists = slice_set v.lists i (tail (list v i)) }

-- Packet n comes last on list i, and is written.
abbrev pub put_last : View → ℕ → ℕ → Packet → View
put_last v i n p = record { packets = slice_set v.packets (n - 1) p; lists = slice_set v.lists i (list v i ++ (n ∷ [])) }

-- No packet is on a list.
abbrev pub unplaced : View
unplaced = record { packets = replicate 64 (blank (Place.Hands 0)); lists = replicate 33 [] }

abbrev pub counting : ℕ → ℕ → List ℕ
counting from zero = []
counting from (suc n) = from ∷ counting (from + 1) n

-- Every packet is free, in the order of the numbers.
abbrev pub fresh : View
fresh = record { packets = replicate 64 (blank Place.Free); lists = counting 1 64 ∷ replicate 32 [] }
