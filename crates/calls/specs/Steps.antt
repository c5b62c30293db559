-- What each call does to the state and answers. A call that is refused changes nothing.
use Rattle.std.specs.Prelude.{◌≡◌, ℕ, ◌-◌, true, false, cond, List, ℤ, pos, negsuc, Some, None, Ok, Err, Option, Result, bit_and, bit_or}
use Rattle.chain.specs.Chain.{first}
use Rattle.packets.specs.View.{filled}
use Rattle.tasks.specs.declared.rows.Condition.{Condition}
use Rattle.tasks.specs.declared.rows.Task.{Task}
use Rattle.tables.specs.State.{State, task, free, queue}
use Rattle.tables.specs.Running.{running}
use Rattle.tables.specs.Moves.{take_free, put_free, to_queue, take_queued, add_task, remove_task, set_condition, set_held, set_flags, set_priority}
use Rattle.calls.specs.declared.Answer.{Answer}
use Rattle.calls.specs.declared.Call.{Call}
use Rattle.calls.specs.declared.Call.TheVariants.{Create, Delete, ChangePriority, Hold, Release, SetFlags, TestFlags, Claim, Drop, Send, Wait}
use Rattle.calls.specs.declared.Refusal.{Refusal}
use Rattle.calls.specs.Questions.{Question, first_no, create_asks, create_call_asks, delete_asks, priority_asks, hold_asks, release_asks, set_flags_asks, test_flags_asks, claim_asks, drop_asks, send_asks, wait_asks}

-- The answer with that outcome in state s names the task that runs there.
abbrev pub named : State → Result ℕ Refusal → Answer
named s r = record { outcome = r; running = running s }

-- The answer names the task that runs in the state that the call leaves.
abbrev pub answered : State → Result ℕ Refusal → State × Answer
answered s r = (s, named s r)

-- Either the call is refused, or its effect is the state and the value `done`.
abbrev pub decided : State → Option Refusal → State × ℕ → State × Answer
decided s (Some r) done = answered s (Err r)
decided s None done = answered done.0 (Ok done.1)

-- The running task t takes the first packet on its queue into its hands and is ready, or else waits.
abbrev pub waited : State → ℕ → State × ℕ
waited s t =
    cond (filled (queue s t)) (set_condition (take_queued s t) t Condition.Ready, first (queue s t)) (set_condition s t Condition.Waiting, 0)

-- The task of an address, 0 for a unit's.
abbrev pub task_of : ℤ → ℕ
task_of (pos t) = t
task_of (negsuc u) = 0

-- The task's flags, one to a bit.
abbrev pub flags_of : Option Task → ℕ
flags_of None = 0
flags_of (Some x) = x.flags

-- The bits are added to the flags of task t.
abbrev pub add_flags : State → ℕ → ℕ → State
add_flags s t bits = set_flags s t (bit_or (flags_of (task s t)) bits)

-- The flags of task t that are among the bits.
abbrev pub flags_among : State → ℕ → ℕ → ℕ
flags_among s t bits = bit_and (flags_of (task s t)) bits

-- These are cleared, and the other flags stay.
abbrev pub clear_flags : State → ℕ → ℕ → State
clear_flags s t bits = set_flags s t (flags_of (task s t) - flags_among s t bits)

-- What each call asks, in order.
abbrev pub asks : Call → List Question
asks (Create t p) = create_call_asks t p
asks (Delete t) = delete_asks t
asks (ChangePriority t p) = priority_asks t p
asks (Hold t) = hold_asks t
asks (Release t) = release_asks t
asks (SetFlags t bits) = set_flags_asks t
asks (TestFlags bits) = test_flags_asks
asks Claim = claim_asks
asks (Drop n) = drop_asks n
asks (Send a n kind x y) = send_asks a n
asks Wait = wait_asks

-- What each call does if every answer is yes: the state after it, and its value.
abbrev pub done : State → Call → State × ℕ
done s (Create t p) = (add_task s t p, 0)
done s (Delete t) = (remove_task s t, 0)
done s (ChangePriority t p) = (set_priority s t p, 0)
done s (Hold t) = (set_held s t true, 0)
done s (Release t) = (set_held s t false, 0)
done s (SetFlags t bits) = (add_flags s t bits, 0)
done s (TestFlags bits) = (clear_flags s (running s) bits, flags_among s (running s) bits)
done s Claim = (take_free s (running s), first (free s))
done s (Drop n) = (put_free s n, 0)
done s (Send a n kind x y) = (to_queue s n (task_of a) (pos (running s)) kind x y, 0)
done s Wait = waited s (running s)

abbrev pub step : State → Call → State × Answer
step s c = decided s (first_no s (asks c)) (done s c)

-- The call, its answer and the state that it leaves are what `step` says.
abbrev pub Steps : State → Call → Answer → State → Type 0
Steps s c r s' = ◌≡◌ {A = State × Answer} (s', r) (step s c)

-- The same, told by the outcome alone.
abbrev pub Comes : State → Call → Result ℕ Refusal → State → Type 0
Comes s c r s' = Steps s c (named s' r) s'

-- ---- before the kernel is started

abbrev pub create_decided : State → Option Refusal → State → State × Result (Unit {0}) Refusal
create_decided s (Some r) s' = (s, Err r)
create_decided s None s' = (s', Ok tt)

-- Furnishing creates tasks: dormant, not held, flags 0.
abbrev pub create : State → ℕ → ℕ → State × Result (Unit {0}) Refusal
create s t p = create_decided s (first_no s (create_asks t p)) (add_task s t p)

-- At the start one task is made ready: of all there are, the one of greatest priority.
abbrev pub start : State → State
start s = set_condition s (first s.order) Condition.Ready
