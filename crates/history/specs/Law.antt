-- The law over histories: when the kernel is started and after every call, kernel and journal agree on where each packet is, on what
-- was delivered, on each task and on who runs.
use Rattle.std.specs.Prelude.{◌≡◌, ℕ, ◌<◌, ◌≤◌, true, false, List, [], ◌∷◌, ◌++◌, ℤ, Ok, Err, Result, ◌≢◌}
use Rattle.std.specs.Option.{option_map}
use Rattle.chain.specs.Times.{times}
use Rattle.packets.specs.declared.rows.Place.{Place}
use Rattle.packets.specs.Places.{stands, with_task, from_task}
use Rattle.tasks.specs.declared.rows.Task.{Task}
use Rattle.tables.specs.State.{State, task, used, packet, free, queue}
use Rattle.tables.specs.Running.{running}
use Rattle.tables.specs.Moves.{fresh}
use Rattle.tables.specs.Kept.{Kept}
use Rattle.calls.specs.declared.Answer.{Answer}
use Rattle.calls.specs.declared.Call.{Call}
use Rattle.calls.specs.declared.Refusal.{Refusal}
use Rattle.calls.specs.Steps.{Steps, start}
use Rattle.history.specs.declared.creations.Creation.{Creation}
use Rattle.history.specs.Journal.{Journal, Noted, runnable, runs, rank, enter, opening}
use Rattle.history.specs.History.{furnish}

-- Packet n is at place p, from that sender, and nothing else holds it: it is on the free list once if it is free, on the queue of a
-- task once if it is queued there, and otherwise on no list.
pub record IsAt (s : State) (n : ℕ) (p : Place) (sender : ℤ) : Type 0 where
  pub place : (packet s n).place ≡ p
  pub sender_is : (packet s n).sender ≡ sender
  pub on_free : times n (free s) ≡ stands p 0
  pub on_queues : (t : ℕ) → times n (queue s t) ≡ stands p t

-- Each packet is where the journal has it.
abbrev pub Places : State → Journal → Type 0
Places s j = (n : ℕ) → 0 < n → n ≤ 64 → IsAt s n (j.places n) (j.senders n)

-- For each task number, the packets that it took and then those on its queue are the packets delivered to it, in order.
abbrev pub Deliveries : State → Journal → Type 0
Deliveries s j = (t : ℕ) → 0 < t → j.taken t ++ queue s t ≡ j.deliveries t

-- A packet in hands or on a queue is with a task in use, and one that bears a sender bears a task in use; 0 is nobody.
pub record Owned (s : State) : Type 0 where
  pub holder : (n t : ℕ) → with_task t (packet s n).place ≡ true → used s t ≡ true
  pub sender : (n t : ℕ) → 0 < t → from_task t (packet s n).sender ≡ true → used s t ≡ true

-- What the journal notes of a task; it takes no note of flags.
abbrev pub note : Task → Noted
note x = record { priority = x.priority; condition = x.condition; held = x.held }

-- Each task is as the journal has it.
abbrev pub Tasks : State → Journal → Type 0
Tasks s j = (t : ℕ) → option_map note (task s t) ≡ j.tasks t

-- r is the runnable task of greatest priority by the journal's entries, and 0 exactly if none is runnable.
pub record Running (j : Journal) (r : ℕ) : Type 0 where
  pub reckoned : r ≡ runs j
  pub none : r ≡ 0 → (t : ℕ) → runnable j t ≡ false
  pub one : (r ≢ 0) → runnable j r ≡ true
  pub above : (t : ℕ) → (t ≢ r) → runnable j t ≡ true → rank (j.tasks t) < rank (j.tasks r)

-- The kernel keeps what it keeps at all times, and kernel and journal agree.
pub record Agree (s : State) (j : Journal) (r : ℕ) : Type 0 where
  pub kept : Kept s
  pub owned : Owned s
  pub places : Places s j
  pub deliveries : Deliveries s j
  pub tasks : Tasks s j
  pub running : Running j r

-- From the state s and the journal j on: each call leads by a step to the next state, and after it kernel and journal agree.
abbrev pub Lawful : State → Journal → List Call → List Answer → List State → Type 0
Lawful s j [] [] [] = Unit {0}
Lawful s j [] [] (s' ∷ more) = ⊥
Lawful s j [] (a ∷ more_answers) more = ⊥
Lawful s j (c ∷ cs) [] more = ⊥
Lawful s j (c ∷ cs) (a ∷ more_answers) [] = ⊥
Lawful s j (c ∷ cs) (a ∷ more_answers) (s' ∷ more) =
    Steps s c a s' × Agree s' (enter j c a.outcome) a.running × Lawful s' (enter j c a.outcome) cs more_answers more

-- The state after the last call, or s where there was none.
abbrev pub last_of : State → List State → State
last_of s [] = s
last_of s (s' ∷ more) = last_of s' more

-- The creates that were not refused.
abbrev pub with_accepted : Creation → Result (Unit {0}) Refusal → List (ℕ × ℕ) → List (ℕ × ℕ)
with_accepted c (Ok u) more = (c.task, c.priority) ∷ more
with_accepted c (Err r) more = more

abbrev pub accepted : List Creation → List (Result (Unit {0}) Refusal) → List (ℕ × ℕ)
accepted [] rs = []
accepted (c ∷ cs) [] = []
accepted (c ∷ cs) (r ∷ rs) = with_accepted c r (accepted cs rs)

-- Of the creates with their replies, the calls with their answers, and the state that the kernel is left in.
pub record Law (creates : List Creation) (replies : List (Result (Unit {0}) Refusal)) (calls : List Call) (answers : List Answer) (left : State) : Type 0 where
  -- they agree when the kernel is started
  pub begins : Agree (start (furnish fresh creates)) (opening (accepted creates replies)) (running (start (furnish fresh creates)))
  -- one state after each call
  pub states : List State
  pub lawful : Lawful (start (furnish fresh creates)) (opening (accepted creates replies)) calls answers states
  pub last : last_of (start (furnish fresh creates)) states ≡ left
