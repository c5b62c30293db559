-- The state of the tables, as far as a caller can know it: tasks and packets by their numbers, and the lists that they stand on.
use Rattle.std.specs.Prelude.{ℕ, Bool, List, is_some, Option}
use Rattle.packets.specs.declared.rows.Packet.{Packet}
use Rattle.packets.specs.View.{View as PacketView, packet as packet_in, list}
use Rattle.tasks.specs.declared.rows.Task.{Task}
use Rattle.tasks.specs.View.{View as TaskView, task as task_in}

-- `order` has the numbers of the tasks in use by falling priority; `lists` has the free packets first, and then the queue of each task.
pub record State : Type 0 where
  pub tasks : List (Option Task)
  pub order : List ℕ
  pub packets : List Packet
  pub lists : List (List ℕ)

abbrev pub joined : TaskView → PacketView → State
joined t p = record { tasks = t.tasks; order = t.order; packets = p.packets; lists = p.lists }

abbrev pub task_part : State → TaskView
task_part s = record { tasks = s.tasks; order = s.order }

abbrev pub packet_part : State → PacketView
packet_part s = record { packets = s.packets; lists = s.lists }

-- Task t; nothing where the number is not in use or out of range.
abbrev pub task : State → ℕ → Option Task
task s t = task_in (task_part s) t

abbrev pub used : State → ℕ → Bool
used s t = is_some (task s t)

-- Packet n; a number out of range reads as a free packet with every field 0.
abbrev pub packet : State → ℕ → Packet
packet s n = packet_in (packet_part s) n

-- The free packets, in the order in which they are claimed.
abbrev pub free : State → List ℕ
free s = list (packet_part s) 0

-- The packets queued for task t, the first to be taken first.
abbrev pub queue : State → ℕ → List ℕ
queue s t = list (packet_part s) t
