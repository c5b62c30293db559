-- Which task runs.
use Rattle.std.specs.Prelude.{◌≡◌, ℕ, ◌<◌, Bool, true, false, cond, not, ◌&&◌, ◌||◌, List, [], ◌∷◌, Some, None, Option, ◌≢◌}
use Rattle.packets.specs.View.{filled}
use Rattle.tasks.specs.declared.rows.Condition.{Condition}
use Rattle.tasks.specs.declared.rows.Condition.TheVariants.{Dormant, Ready, Waiting}
use Rattle.tasks.specs.declared.rows.Task.{Task}
use Rattle.tasks.specs.Use.{rank}
use Rattle.tables.specs.State.{State, task, queue}

abbrev pub is_ready : Condition → Bool
is_ready Dormant = false
is_ready Ready = true
is_ready Waiting = false

-- A held task may not run; of the others those may that are ready, or for which a packet is queued.
abbrev pub may_run : Option Task → Bool → Bool
may_run None queued = false
may_run (Some x) queued = not x.held && (is_ready x.condition || queued)

abbrev pub runnable : State → ℕ → Bool
runnable s t = may_run (task s t) (filled (queue s t))

abbrev pub first_runnable : State → List ℕ → ℕ
first_runnable s [] = 0
first_runnable s (t ∷ ts) = cond (runnable s t) t (first_runnable s ts)

-- The first task by falling priority that may run; 0 stands for none.
abbrev pub running : State → ℕ
running s = first_runnable s s.order

-- r is the runnable task of greatest priority, or 0 where no task is runnable.
pub record Greatest (s : State) (r : ℕ) : Type 0 where
  pub none : r ≡ 0 → (t : ℕ) → runnable s t ≡ false
  pub runs : (r ≢ 0) → runnable s r ≡ true
  pub above : (t : ℕ) → (t ≢ r) → runnable s t ≡ true → rank (task s t) < rank (task s r)
