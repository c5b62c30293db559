-- The questions that calls ask before they do anything, each by what has to be so for a yes.
use Rattle.std.specs.Prelude.{ℕ, suc, Bool, true, false, cond, not, ◌&&◌, ◌||◌, List, [], ◌∷◌, ℤ, pos, negsuc, Some, None, Option, ◌==◌, nat_le}
use Rattle.packets.specs.declared.rows.Place.{Place}
use Rattle.packets.specs.declared.rows.Place.TheVariants.{Free, Hands, Queue}
use Rattle.packets.specs.Places.{any_involves}
use Rattle.packets.specs.View.{filled}
use Rattle.tasks.specs.declared.rows.Condition.{Condition}
use Rattle.tasks.specs.declared.rows.Condition.TheVariants.{Dormant, Ready, Waiting}
use Rattle.tasks.specs.declared.rows.Task.{Task}
use Rattle.tasks.specs.View.{others_have}
use Rattle.tables.specs.State.{State, task, used, packet, free}
use Rattle.tables.specs.Running.{is_ready, running}
use Rattle.calls.specs.declared.Refusal.{Refusal}
use Rattle.calls.specs.declared.Refusal.TheVariants.{NoTaskRunning, RunnerNotReady, NoSuchTask, NoSuchUnit, NoSuchPacket, NotInHands, BadPriority, PriorityTaken, TaskInUse, NoPacketFree, AlreadyHeld, NotHeld, TaskNotIdle, PacketsOut}

pub data Question : Type 0 where
  -- some task runs
  task_runs : Question
  -- the task that runs is ready
  runner_ready : Question
  -- the number is one of 1 to 32
  task_number : ℕ → Question
  -- it is one of these, and a task has it
  task_known : ℕ → Question
  -- there is a unit of that number
  unit_known : ℕ → Question
  -- the number is one of 1 to 64
  packet_known : ℕ → Question
  -- the task that runs has the packet in its hands
  packet_in_hands : ℕ → Question
  -- the priority is one of 1 to 65,535
  priority_known : ℕ → Question
  -- all other tasks have other priorities
  priority_alone : ℕ → ℕ → Question
  -- no task has the number
  number_unused : ℕ → Question
  -- at least one packet is free
  packet_free : Question
  -- the task is not marked as held
  task_not_held : ℕ → Question
  -- the task is marked as held
  task_held : ℕ → Question
  -- the task is the one that runs, or is dormant
  task_idle : ℕ → Question
  -- the task has no packet, neither in its hands nor queued, and is the sender of none
  packets_home : ℕ → Question

-- How many units the kernel has: none yet.
abbrev pub units : ℕ
units = 0

abbrev pub between : ℕ → ℕ → ℕ → Bool
between low high n = nat_le low n && nat_le n high

abbrev pub task_ready : Option Task → Bool
task_ready None = false
task_ready (Some x) = is_ready x.condition

abbrev pub held_mark : Option Task → Bool
held_mark None = false
held_mark (Some x) = x.held

abbrev pub is_dormant : Condition → Bool
is_dormant Dormant = true
is_dormant Ready = false
is_dormant Waiting = false

abbrev pub task_dormant : Option Task → Bool
task_dormant None = false
task_dormant (Some x) = is_dormant x.condition

abbrev pub hands_of : ℕ → Place → Bool
hands_of t Free = false
hands_of t (Hands k) = k == t
hands_of t (Queue k) = false

abbrev pub yes : State → Question → Bool
yes s task_runs = not (running s == 0)
yes s runner_ready = task_ready (task s (running s))
yes s (task_number t) = between 1 32 t
yes s (task_known t) = between 1 32 t && used s t
yes s (unit_known u) = between 1 units u
yes s (packet_known n) = between 1 64 n
yes s (packet_in_hands n) = hands_of (running s) (packet s n).place
yes s (priority_known p) = between 1 65535 p
yes s (priority_alone t p) = not (others_have s.tasks t p)
yes s (number_unused t) = not (used s t)
yes s packet_free = filled (free s)
yes s (task_not_held t) = not (held_mark (task s t))
yes s (task_held t) = held_mark (task s t)
yes s (task_idle t) = t == running s || task_dormant (task s t)
yes s (packets_home t) = not (any_involves t s.packets)

-- What a no to the question is.
abbrev pub no : Question → Refusal
no task_runs = NoTaskRunning
no runner_ready = RunnerNotReady
no (task_number t) = NoSuchTask
no (task_known t) = NoSuchTask
no (unit_known u) = NoSuchUnit
no (packet_known n) = NoSuchPacket
no (packet_in_hands n) = NotInHands
no (priority_known p) = BadPriority
no (priority_alone t p) = PriorityTaken
no (number_unused t) = TaskInUse
no packet_free = NoPacketFree
no (task_not_held t) = AlreadyHeld
no (task_held t) = NotHeld
no (task_idle t) = TaskNotIdle
no (packets_home t) = PacketsOut

-- The first question with the answer no, in the order in which they are asked.
abbrev pub first_no : State → List Question → Option Refusal
first_no s [] = None
first_no s (q ∷ qs) = cond (yes s q) (first_no s qs) (Some (no q))

-- What a call of the running task asks first, and then if it names a task in use.
abbrev pub caller_asks : List Question
caller_asks = task_runs ∷ runner_ready ∷ []

abbrev pub task_asks : ℕ → List Question
task_asks t = task_runs ∷ runner_ready ∷ task_known t ∷ []

-- A task is created while the kernel is furnished: nobody calls, so it is not asked who does.
abbrev pub create_asks : ℕ → ℕ → List Question
create_asks t p = task_number t ∷ number_unused t ∷ priority_known p ∷ priority_alone t p ∷ []

abbrev pub create_call_asks : ℕ → ℕ → List Question
create_call_asks t p = task_runs ∷ runner_ready ∷ create_asks t p

abbrev pub delete_asks : ℕ → List Question
delete_asks t = task_runs ∷ runner_ready ∷ task_known t ∷ task_idle t ∷ packets_home t ∷ []

abbrev pub priority_asks : ℕ → ℕ → List Question
priority_asks t p = task_runs ∷ runner_ready ∷ task_known t ∷ priority_known p ∷ priority_alone t p ∷ []

abbrev pub hold_asks : ℕ → List Question
hold_asks t = task_runs ∷ runner_ready ∷ task_known t ∷ task_not_held t ∷ []

abbrev pub release_asks : ℕ → List Question
release_asks t = task_runs ∷ runner_ready ∷ task_known t ∷ task_held t ∷ []

abbrev pub set_flags_asks : ℕ → List Question
set_flags_asks t = task_asks t

abbrev pub test_flags_asks : List Question
test_flags_asks = caller_asks

abbrev pub claim_asks : List Question
claim_asks = task_runs ∷ runner_ready ∷ packet_free ∷ []

abbrev pub drop_asks : ℕ → List Question
drop_asks n = task_runs ∷ runner_ready ∷ packet_known n ∷ packet_in_hands n ∷ []

-- A positive address is a task, as is 0; a negative one is the unit of the opposite sign.
abbrev pub address_asks : ℤ → Question
address_asks (pos t) = task_known t
address_asks (negsuc u) = unit_known (suc u)

abbrev pub send_asks : ℤ → ℕ → List Question
send_asks a n = task_runs ∷ runner_ready ∷ packet_known n ∷ packet_in_hands n ∷ address_asks a ∷ []

abbrev pub wait_asks : List Question
wait_asks = task_runs ∷ []
