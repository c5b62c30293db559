-- What the state of a kernel has in each phase, and what the answer to a call has.
use Rattle.std.proofs.Common.{◌≡◌, ℕ, Option, Some, None, refl, sym, ap, ◌∙◌, subst}
use Rattle.tables.specs.State.{State}
use Rattle.tables.specs.Running.{running, Greatest}
use Rattle.tables.specs.Kept.{Kept}
use Rattle.tables.proofs.Runs.{sound}
use Rattle.calls.specs.declared.Answer.{Answer}
use Rattle.calls.specs.declared.Call.{Call}
use Rattle.calls.specs.declared.Refusal.{Refusal}
use Rattle.calls.specs.Questions.{first_no}
use Rattle.calls.specs.Steps.{Steps, decided, asks, done}
use Rattle.kernel.specs.declared.phases.Kernel.{Kernel}
use Rattle.kernel.specs.View.{state}
use Rattle.kernel.specs.Sound.{IsSound, KernelsAreSound}

pub state_kept : {P : Type 0} (k : Kernel P) → Kept (state k)
state_kept k = (sound k.tables.tasks k.tables.packets).kept

pub state_greatest : {P : Type 0} (k : Kernel P) → Greatest (state k) (running (state k))
state_greatest k = (sound k.tables.tasks k.tables.packets).greatest

-- an answer names the task that runs in the state that the call leaves
names_running : (s : State) (o : Option Refusal) (d : State × ℕ) → (decided s o d).1.running ≡ running (decided s o d).0
names_running s (Some r) d = refl
names_running s None d = refl

answer_greatest : {P : Type 0} (s : State) (c : Call) (a : Answer) (k : Kernel P) → Steps s c a (state k) → Greatest (state k) a.running
answer_greatest s c a k e =
    let is : a.running ≡ running (state k) = ap (λ x. x.1.running) e ∙ names_running s (first_no s (asks c)) (done s c) ∙ sym (ap (λ x. running x.0) e) in
    subst (Greatest (state k)) (sym is) (state_greatest k)

sound_phase : {P : Type 0} → IsSound P
sound_phase = record { kept = state_kept; greatest = state_greatest }

pub sound_kernels : KernelsAreSound
sound_kernels =
    record { furnishing = sound_phase; started = sound_phase; stopped = sound_phase; answers = answer_greatest }
