-- What is so of a kernel at all times, in each phase, and of the answer to each call.
use Rattle.tables.specs.State.{State}
use Rattle.tables.specs.Running.{running, Greatest}
use Rattle.tables.specs.Kept.{Kept}
use Rattle.calls.specs.declared.Answer.{Answer}
use Rattle.calls.specs.declared.Call.{Call}
use Rattle.calls.specs.Steps.{Steps}
use Rattle.kernel.specs.declared.phases.Kernel.{Kernel}
use Rattle.kernel.specs.declared.phases.Furnishing.{Furnishing}
use Rattle.kernel.specs.declared.phases.Started.{Started}
use Rattle.kernel.specs.declared.phases.Stopped.{Stopped}
use Rattle.kernel.specs.View.{state}

-- Every kernel in the phase P has what every kernel keeps, and its running task is the runnable one of greatest priority, and 0 exactly
-- if no task is runnable.
pub record IsSound (P : Type 0) : Type 0 where
  pub kept : (k : Kernel P) → Kept (state k)
  pub greatest : (k : Kernel P) → Greatest (state k) (running (state k))

pub record KernelsAreSound : Type 0 where
  pub furnishing : IsSound Furnishing
  pub started : IsSound Started
  pub stopped : IsSound Stopped
  -- after each call the task that the answer names is the one that runs
  pub answers : (s : State) (c : Call) (a : Answer) (k : Kernel Started) → Steps s c a (state k) → Greatest (state k) a.running
