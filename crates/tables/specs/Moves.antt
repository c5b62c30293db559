-- The moves of which calls are made: a packet goes from one place to another, a task comes, goes or changes.
use Rattle.std.specs.Prelude.{ℕ, Bool, false, ℤ, Some, None, Option}
use Rattle.packets.specs.declared.rows.Packet.{Packet}
use Rattle.packets.specs.declared.rows.Place.{Place}
use Rattle.chain.specs.Chain.{first}
use Rattle.packets.specs.Places.{blank}
use Rattle.packets.specs.View.{View as PacketView, took_first, put_last, fresh as fresh_packets}
use Rattle.tasks.specs.declared.rows.Condition.{Condition}
use Rattle.tasks.specs.declared.rows.Task.{Task}
use Rattle.tasks.specs.View.{View as TaskView, added, removed, replaced, written, fresh as fresh_tasks}
use Rattle.tables.specs.State.{State, joined, task_part, packet_part, task, packet, queue}

-- No task is in use, and every packet is free, in the order of the numbers.
abbrev pub fresh : State
fresh = joined fresh_tasks fresh_packets

abbrev pub with_packets : State → PacketView → State
with_packets s v = joined (task_part s) v

abbrev pub with_tasks : State → TaskView → State
with_tasks s v = joined v (packet_part s)

-- ---- packets

-- The first free packet goes into the hands of task t, every other field 0.
abbrev pub take_free : State → ℕ → State
take_free s t = with_packets s (took_first (packet_part s) 0 (blank (Place.Hands t)))

-- Packet n becomes the last of the free ones, every field 0.
abbrev pub put_free : State → ℕ → State
put_free s n = with_packets s (put_last (packet_part s) 0 n (blank Place.Free))

-- Packet n becomes the last on the queue of task t, with those fields.
abbrev pub to_queue : State → ℕ → ℕ → ℤ → ℕ → ℕ → ℕ → State
to_queue s n t sender kind first second =
    with_packets s (put_last (packet_part s) t n (record { place = Place.Queue t; sender = sender; kind = kind; first = first; second = second }))

abbrev pub in_hands_of : ℕ → Packet → Packet
in_hands_of t p = record { place = Place.Hands t; sender = p.sender; kind = p.kind; first = p.first; second = p.second }

-- The first packet on the queue of task t goes into its hands, and is the same otherwise.
abbrev pub take_queued : State → ℕ → State
take_queued s t = with_packets s (took_first (packet_part s) t (in_hands_of t (packet s (first (queue s t)))))

-- ---- tasks

abbrev pub new_task : ℕ → Task
new_task p = record { priority = p; condition = Condition.Dormant; held = false; flags = 0 }

-- Task t comes into use, dormant, not held, flags 0.
abbrev pub add_task : State → ℕ → ℕ → State
add_task s t p = with_tasks s (added (task_part s) t (new_task p))

-- Task t is gone.
abbrev pub remove_task : State → ℕ → State
remove_task s t = with_tasks s (removed (task_part s) t)

abbrev pub in_condition : Condition → Task → Task
in_condition c x = record { priority = x.priority; condition = c; held = x.held; flags = x.flags }

abbrev pub with_held : Bool → Task → Task
with_held h x = record { priority = x.priority; condition = x.condition; held = h; flags = x.flags }

abbrev pub with_flags : ℕ → Task → Task
with_flags bits x = record { priority = x.priority; condition = x.condition; held = x.held; flags = bits }

abbrev pub with_priority : ℕ → Task → Task
with_priority p x = record { priority = p; condition = x.condition; held = x.held; flags = x.flags }

-- Task t becomes what f makes of it, in its place; a number that is not in use stays so.
abbrev pub rewritten : State → ℕ → (Task → Task) → Option Task → State
rewritten s t f None = s
rewritten s t f (Some x) = with_tasks s (written (task_part s) t (f x))

-- Task t gets another condition; a number that is not in use stays so.
abbrev pub recondition : State → ℕ → Condition → Option Task → State
recondition s t c x = rewritten s t (in_condition c) x

abbrev pub set_condition : State → ℕ → Condition → State
set_condition s t c = recondition s t c (task s t)

abbrev pub set_held : State → ℕ → Bool → State
set_held s t h = rewritten s t (with_held h) (task s t)

abbrev pub set_flags : State → ℕ → ℕ → State
set_flags s t bits = rewritten s t (with_flags bits) (task s t)

-- Task t gets another priority, and with it another place in the order; a number that is not in use stays so.
abbrev pub reranked : State → ℕ → ℕ → Option Task → State
reranked s t p None = s
reranked s t p (Some x) = with_tasks s (replaced (task_part s) t (with_priority p x))

abbrev pub set_priority : State → ℕ → ℕ → State
set_priority s t p = reranked s t p (task s t)
