-- What every state of a history has: what a kernel keeps at all times, and that the running task is the runnable one of greatest priority.
use Rattle.std.specs.Prelude.{ℕ, ◌≤◌, List, length, take}
use Rattle.tables.specs.State.{State}
use Rattle.tables.specs.Running.{running, Greatest}
use Rattle.tables.specs.Kept.{Kept}
use Rattle.calls.specs.declared.Call.{Call}
use Rattle.history.specs.History.{after}

pub record Sound (s : State) : Type 0 where
  pub kept : Kept s
  pub greatest : Greatest s (running s)

-- The state s and those after each of the calls are sound.
abbrev pub SoundAlong : State → List Call → Type 0
SoundAlong s calls = (n : ℕ) → n ≤ length calls → Sound (after s (take n calls))
