-- What every kernel keeps at all times.
use Rattle.std.specs.Prelude.{◌≡◌, ℕ, ◌<◌, true, map, length, slice_index}
use Rattle.chain.specs.Times.{times}
use Rattle.packets.specs.Places.{stands, place_at}
use Rattle.packets.specs.View.{list}
use Rattle.tables.specs.State.{State, packet_part, task, used}
use Rattle.tasks.specs.Use.{rank, in_use}

pub record Kept (s : State) : Type 0 where
  -- 32 task numbers, 64 packets, and 33 lists: the free packets and a queue for each task number
  pub task_count : length s.tasks ≡ 32
  pub packet_count : length s.packets ≡ 64
  pub list_count : length s.lists ≡ 33
  -- no two tasks share a priority
  pub priorities : (t u : ℕ) → used s t ≡ true → used s u ≡ true → rank (task s t) ≡ rank (task s u) → t ≡ u
  -- the order names every task in use once, and no other number
  pub ordered : (t : ℕ) → times t s.order ≡ in_use (task s t)
  -- by falling priority
  pub falling : (i j : ℕ) → i < j → j < length s.order → rank (task s (slice_index s.order j)) < rank (task s (slice_index s.order i))
  -- a free packet stands once on the free list, a queued one once on that queue, and on no other list; any other packet stands on none
  pub placed : (i n : ℕ) → times n (list (packet_part s) i) ≡ stands (place_at (map (λ p. p.place) s.packets) n) i
