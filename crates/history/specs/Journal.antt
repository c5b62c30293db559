-- The journal of a history: what anyone can reckon from the accepted creates and then from each call with its arguments, its refusal
-- and its value. It sees nothing of the kernel's tables.
use Rattle.std.specs.Prelude.{ℕ, zero, suc, Bool, true, false, cond, not, ◌&&◌, ◌||◌, List, [], ◌∷◌, ◌++◌, ℤ, pos, negsuc, is_some, Some, None, Ok, Err, Option, Result, ◌==◌, nat_lt}
use Rattle.std.specs.Option.{option_map}
use Rattle.packets.specs.declared.rows.Place.{Place}
use Rattle.packets.specs.declared.rows.Place.TheVariants.{Free, Hands, Queue}
use Rattle.tasks.specs.declared.rows.Condition.{Condition}
use Rattle.tables.specs.Running.{is_ready}
use Rattle.calls.specs.declared.Call.{Call}
use Rattle.calls.specs.declared.Call.TheVariants.{Create, Delete, ChangePriority, Hold, Release, SetFlags, TestFlags, Claim, Drop, Send, Wait}
use Rattle.calls.specs.declared.Refusal.{Refusal}

-- What is noted of a task.
pub record Noted : Type 0 where
  pub priority : ℕ
  pub condition : Condition
  pub held : Bool

-- Tasks and packets by their numbers; for each task number the packets delivered to it and those that it took, both in order.
pub record Journal : Type 0 where
  pub tasks : ℕ → Option Noted
  pub places : ℕ → Place
  pub senders : ℕ → ℤ
  pub deliveries : ℕ → List ℕ
  pub taken : ℕ → List ℕ

-- x at number n, and what was there at every other.
abbrev pub noted : {X : Type 0} → ℕ → X → (ℕ → X) → ℕ → X
noted n x f m = cond (m == n) x (f m)

-- ---- who runs

abbrev pub rank : Option Noted → ℕ
rank None = 0
rank (Some x) = x.priority

abbrev pub on_queue : ℕ → Place → Bool
on_queue t Free = false
on_queue t (Hands k) = false
on_queue t (Queue k) = k == t

-- One of the packets 1 to n is on the queue of task t.
unfoldable pub queued_among : Journal → ℕ → ℕ → Bool
queued_among j t zero = false
queued_among j t (suc n) = on_queue t (j.places (suc n)) || queued_among j t n

abbrev pub may_run : Option Noted → Bool → Bool
may_run None queued = false
may_run (Some x) queued = not x.held && (is_ready x.condition || queued)

abbrev pub runnable : Journal → ℕ → Bool
runnable j t = may_run (j.tasks t) (queued_among j t 64)

-- Of the numbers 1 to n that are wanted, the one of greatest rank; 0 where none is wanted.
unfoldable pub greatest : (ℕ → Bool) → (ℕ → ℕ) → ℕ → ℕ
greatest wanted ranks zero = 0
greatest wanted ranks (suc n) =
    let r = greatest wanted ranks n in cond (wanted (suc n) && (r == 0 || nat_lt (ranks r) (ranks (suc n)))) (suc n) r

-- The runnable task of greatest priority, or 0.
abbrev pub runs : Journal → ℕ
runs j = greatest (runnable j) (λ t. rank (j.tasks t)) 32

-- ---- what a call enters

-- Task t is x now, or gone where that is none.
abbrev pub note_task : Journal → ℕ → Option Noted → Journal
note_task j t x =
    record { tasks = noted t x j.tasks; places = j.places; senders = j.senders; deliveries = j.deliveries; taken = j.taken }

abbrev pub change_task : Journal → ℕ → (Noted → Noted) → Journal
change_task j t f = note_task j t (option_map f (j.tasks t))

abbrev pub at_priority : ℕ → Noted → Noted
at_priority p x = record { priority = p; condition = x.condition; held = x.held }

abbrev pub in_condition : Condition → Noted → Noted
in_condition c x = record { priority = x.priority; condition = c; held = x.held }

abbrev pub with_mark : Bool → Noted → Noted
with_mark h x = record { priority = x.priority; condition = x.condition; held = h }

-- A task as it is created.
abbrev pub new_task : ℕ → Noted
new_task p = record { priority = p; condition = Condition.Dormant; held = false }

-- Packet n is at place p, from that sender.
abbrev pub move : Journal → ℕ → Place → ℤ → Journal
move j n p sender =
    record { tasks = j.tasks; places = noted n p j.places; senders = noted n sender j.senders; deliveries = j.deliveries; taken = j.taken }

-- Packet n is delivered to task t.
abbrev pub deliver : Journal → ℕ → ℕ → Journal
deliver j t n =
    record { tasks = j.tasks; places = j.places; senders = j.senders; deliveries = noted t (j.deliveries t ++ (n ∷ [])) j.deliveries; taken = j.taken }

-- Task t takes packet n.
abbrev pub take : Journal → ℕ → ℕ → Journal
take j t n =
    record { tasks = j.tasks; places = j.places; senders = j.senders; deliveries = j.deliveries; taken = noted t (j.taken t ++ (n ∷ [])) j.taken }

-- Packet n goes to the queue of the task of the address. No unit is there yet.
abbrev pub enter_send : Journal → ℕ → ℤ → ℕ → Journal
enter_send j r (pos t) n = deliver (move j n (Queue t) (pos r)) t n
enter_send j r (negsuc u) n = j

-- A wait of value 0 found no packet: the running task waits. Any other value is the packet that it took into its hands; it is ready.
abbrev pub enter_wait : Journal → ℕ → ℕ → Journal
enter_wait j r zero = change_task j r (in_condition Condition.Waiting)
enter_wait j r (suc k) =
    change_task (take (move j (suc k) (Hands r) (j.senders (suc k))) r (suc k)) r (in_condition Condition.Ready)

-- The call of the running task r was done, with the value v.
abbrev pub enter_done : Journal → ℕ → Call → ℕ → Journal
enter_done j r (Create t p) v = note_task j t (Some (new_task p))
enter_done j r (Delete t) v = note_task j t None
enter_done j r (ChangePriority t p) v = change_task j t (at_priority p)
enter_done j r (Hold t) v = change_task j t (with_mark true)
enter_done j r (Release t) v = change_task j t (with_mark false)
enter_done j r (SetFlags t bits) v = j
enter_done j r (TestFlags bits) v = j
enter_done j r Claim v = move j v (Hands r) (pos 0)
enter_done j r (Drop n) v = move j n Free (pos 0)
enter_done j r (Send address n kind first second) v = enter_send j r address n
enter_done j r Wait v = enter_wait j r v

-- A call that was refused changes nothing.
abbrev pub enter : Journal → Call → Result ℕ Refusal → Journal
enter j call (Ok v) = enter_done j (runs j) call v
enter j call (Err r) = j

-- ---- before the first call

-- No task, and every packet free.
abbrev pub blank : Journal
blank = record { tasks = λ t. None; places = λ n. Free; senders = λ n. pos 0; deliveries = λ t. []; taken = λ t. [] }

-- The accepted creates: task numbers with their priorities.
abbrev pub furnished : Journal → List (ℕ × ℕ) → Journal
furnished j [] = j
furnished j (c ∷ cs) = furnished (note_task j c.0 (Some (new_task c.1))) cs

-- At the start one task is noted as ready: of all that are noted, the one of greatest priority.
abbrev pub started : Journal → Journal
started j = change_task j (greatest (λ t. is_some (j.tasks t)) (λ t. rank (j.tasks t)) 32) (in_condition Condition.Ready)

abbrev pub opening : List (ℕ × ℕ) → Journal
opening creates = started (furnished blank creates)
