-- What a call comes to, said of each packet, each queue and each task: what it changes, and that it changes nothing else. Where a call
-- brings a task another place in the order, what every kernel keeps says which.
use Rattle.std.specs.Prelude.{◌≡◌, ℕ, ◌-◌, ◌<◌, ◌≤◌, Bool, true, false, ◌⊎◌, [], ◌∷◌, ◌++◌, pos, negsuc, Some, None, Ok, Err, Option, Result, ◌≢◌, bit_and, bit_or}
use Rattle.std.specs.Option.{option_map}
use Rattle.packets.specs.declared.rows.Packet.{Packet}
use Rattle.packets.specs.declared.rows.Place.{Place}
use Rattle.packets.specs.Places.{blank, involves}
use Rattle.packets.specs.View.{filled}
use Rattle.tasks.specs.declared.rows.Condition.{Condition}
use Rattle.tasks.specs.declared.rows.Task.{Task}
use Rattle.tables.specs.State.{State, task, used, packet, free, queue}
use Rattle.tables.specs.Running.{running}
use Rattle.tables.specs.Moves.{in_hands_of, new_task, in_condition, with_held, with_flags, with_priority}
use Rattle.tables.specs.Kept.{Kept}
use Rattle.calls.specs.declared.Call.{Call}
use Rattle.calls.specs.declared.Call.TheVariants.{Create, Delete, ChangePriority, Hold, Release, SetFlags, TestFlags, Claim, Drop, Send, Wait}
use Rattle.calls.specs.declared.Refusal.{Refusal}
use Rattle.calls.specs.Steps.{step, flags_of}

-- Packet n is p now, and every other packet is as it was.
pub record PacketBecomes (s s' : State) (n : ℕ) (p : Packet) : Type 0 where
  pub becomes : packet s' n ≡ p
  pub others : (m : ℕ) → (m ≢ n) → packet s' m ≡ packet s m

-- Every queue is as it was, but that of task t; where t is 0, every queue is, and the free packets may be others.
abbrev pub QueuesBut : State → State → ℕ → Type 0
QueuesBut s s' t = (u : ℕ) → (u ≢ t) → queue s' u ≡ queue s u

abbrev pub TasksStay : State → State → Type 0
TasksStay s s' = (s'.tasks ≡ s.tasks) × (s'.order ≡ s.order)

abbrev pub PacketsStay : State → State → Type 0
PacketsStay s s' = (s'.packets ≡ s.packets) × (s'.lists ≡ s.lists)

-- Task t is x now, or gone where that is none; every other task is as it was.
pub record TaskBecomes (s s' : State) (t : ℕ) (x : Option Task) : Type 0 where
  pub becomes : task s' t ≡ x
  pub others : (u : ℕ) → (u ≢ t) → task s' u ≡ task s u

-- Task t is what f makes of it, at the same place in the order; every other task is as it was.
pub record TaskChanges (s s' : State) (t : ℕ) (f : Task → Task) : Type 0 where
  pub becomes : task s' t ≡ option_map f (task s t)
  pub others : (u : ℕ) → (u ≢ t) → task s' u ≡ task s u
  pub order : s'.order ≡ s.order

-- Task t is in that condition now, and the same otherwise; every other task is as it was.
abbrev pub ConditionBecomes : State → State → ℕ → Condition → Type 0
ConditionBecomes s s' t c = TaskChanges s s' t (in_condition c)

-- Task t was not in use, and is now: dormant, not held, flags 0.
pub record Created (s s' : State) (t p : ℕ) : Type 0 where
  pub spare : task s t ≡ None
  pub task : TaskBecomes s s' t (Some (new_task p))
  pub packets : PacketsStay s s'

-- Task t ran or was dormant, and is gone; no packet is in its hands, on its queue or bears it as sender.
pub record Deleted (s s' : State) (t : ℕ) : Type 0 where
  pub known : used s t ≡ true
  pub idle : (t ≡ running s) ⊎ (option_map (λ x. x.condition) (task s t) ≡ Some Condition.Dormant)
  pub home : (n : ℕ) → 0 < n → n ≤ 64 → involves t (packet s n) ≡ false
  pub task : TaskBecomes s s' t None
  pub packets : PacketsStay s s'

-- Task t has priority p now, and is the same otherwise.
pub record Reranked (s s' : State) (t p : ℕ) : Type 0 where
  pub known : used s t ≡ true
  pub task : TaskBecomes s s' t (option_map (with_priority p) (task s t))
  pub packets : PacketsStay s s'

-- Task t is held now, or not held any more, and the same otherwise.
pub record Held (s s' : State) (t : ℕ) (h : Bool) : Type 0 where
  pub known : used s t ≡ true
  pub task : TaskChanges s s' t (with_held h)
  pub packets : PacketsStay s s'

-- Task t has those flags now, and is the same otherwise.
pub record Flagged (s s' : State) (t bits : ℕ) : Type 0 where
  pub known : used s t ≡ true
  pub task : TaskChanges s s' t (with_flags bits)
  pub packets : PacketsStay s s'

-- v is the running task's flags among the bits; none of these is left, and every other flag is as it was.
pub record Tested (s s' : State) (bits v : ℕ) : Type 0 where
  pub among : v ≡ bit_and (flags_of (task s (running s))) bits
  pub flagged : Flagged s s' (running s) (flags_of (task s (running s)) - v)
  pub none_left : bit_and (flags_of (task s' (running s))) bits ≡ 0
  pub others_stay : (other : ℕ) → bit_and bits other ≡ 0 → bit_and (flags_of (task s' (running s))) other ≡ bit_and (flags_of (task s (running s))) other

-- The first free packet, v, is in the running task's hands, its other fields 0.
pub record Claimed (s s' : State) (v : ℕ) : Type 0 where
  pub runs : used s (running s) ≡ true
  pub first : free s ≡ v ∷ free s'
  pub packet : PacketBecomes s s' v (blank (Place.Hands (running s)))
  pub queues : QueuesBut s s' 0
  pub tasks : TasksStay s s'

-- Packet n was in the running task's hands, and is the last of the free ones, its other fields 0.
pub record Dropped (s s' : State) (n : ℕ) : Type 0 where
  pub held : (packet s n).place ≡ Place.Hands (running s)
  pub last : free s' ≡ free s ++ (n ∷ [])
  pub packet : PacketBecomes s s' n (blank Place.Free)
  pub queues : QueuesBut s s' 0
  pub tasks : TasksStay s s'

-- Packet n was in the running task's hands, and is the last on the queue of task t, from the running task, with the type and words that
-- were given.
pub record Sent (s s' : State) (t n kind first second : ℕ) : Type 0 where
  pub held : (packet s n).place ≡ Place.Hands (running s)
  pub runs : used s (running s) ≡ true
  pub known : used s t ≡ true
  pub last : queue s' t ≡ queue s t ++ (n ∷ [])
  pub packet : PacketBecomes s s' n (record { place = Place.Queue t; sender = pos (running s); kind = kind; first = first; second = second })
  pub queues : QueuesBut s s' t
  pub tasks : TasksStay s s'

-- The first packet on the queue of task t, v, is in its hands, with sender, type and words as they were, and the task is ready.
pub record Took (s s' : State) (t v : ℕ) : Type 0 where
  pub first : queue s t ≡ v ∷ queue s' t
  pub packet : PacketBecomes s s' v (in_hands_of t (packet s v))
  pub queues : QueuesBut s s' t
  pub known : used s t ≡ true
  pub task : ConditionBecomes s s' t Condition.Ready

-- Task t is waiting, and no packet and no list has changed.
pub record Waits (s s' : State) (t v : ℕ) : Type 0 where
  pub none : v ≡ 0
  pub packets : s'.packets ≡ s.packets
  pub lists : s'.lists ≡ s.lists
  pub known : used s t ≡ true
  pub task : ConditionBecomes s s' t Condition.Waiting

abbrev pub Told : State → Call → Result ℕ Refusal → State → Type 0
Told s c (Err r) s' = s' ≡ s
Told s (Create t p) (Ok v) s' = (v ≡ 0) × Created s s' t p
Told s (Delete t) (Ok v) s' = (v ≡ 0) × Deleted s s' t
Told s (ChangePriority t p) (Ok v) s' = (v ≡ 0) × Reranked s s' t p
Told s (Hold t) (Ok v) s' = (v ≡ 0) × Held s s' t true
Told s (Release t) (Ok v) s' = (v ≡ 0) × Held s s' t false
Told s (SetFlags t bits) (Ok v) s' = (v ≡ 0) × Flagged s s' t (bit_or (flags_of (task s t)) bits)
Told s (TestFlags bits) (Ok v) s' = Tested s s' bits v
Told s Claim (Ok v) s' = Claimed s s' v
Told s (Drop n) (Ok v) s' = (v ≡ 0) × Dropped s s' n
Told s (Send (pos t) n kind x y) (Ok v) s' = (v ≡ 0) × Sent s s' t n kind x y
-- there is no unit yet, so that no send to one is done
Told s (Send (negsuc u) n kind x y) (Ok v) s' = ⊥
Told s Wait (Ok v) s' =
    (filled (queue s (running s)) ≡ true → Took s s' (running s) v) × (filled (queue s (running s)) ≡ false → Waits s s' (running s) v)

-- Of every state that a kernel can have, and every call.
abbrev pub CallsDoAsTold : Type 0
CallsDoAsTold = (s : State) → Kept s → (c : Call) → Told s c (step s c).1.outcome (step s c).0
