-- The table of tasks as two lists: the tasks, and the order of those in use.
use Rattle.std.specs.Prelude.{ℕ, ◌-◌, Bool, List, [], ◌∷◌, map, replicate, Some, None, Option, slice_set}
use Rattle.chain.specs.Chain.{chain, by_rank, without}
use Rattle.tasks.specs.declared.rows.Task.{Task}
use Rattle.tasks.specs.declared.table.TaskTable.{TaskTable}
use Rattle.tasks.specs.Use.{rank, task_at, others_from}

-- The tasks as their numbers go, and the numbers of those in use by falling priority.
pub record View : Type 0 where
  pub tasks : List (Option Task)
  pub order : List ℕ

-- The first of the order, and then what follows each task in it.
abbrev pub links : TaskTable → List ℕ
links t = t.first ∷ map (λ r. r.next) t.rows

abbrev pub view : TaskTable → View
view t = record { tasks = map (λ r. r.item) t.rows; order = chain (links t) }

-- Task t. No task has the number 0, or one past 32.
abbrev pub task : View → ℕ → Option Task
task v t = task_at v.tasks t

abbrev pub priority_of : Option Task → Option ℕ
priority_of (Some x) = Some x.priority
priority_of None = None

-- A task in use other than t has priority p.
abbrev pub others_have : List (Option Task) → ℕ → ℕ → Bool
others_have tasks t p = others_from 1 tasks t p

-- No task is in use.
abbrev pub fresh : View
fresh = record { tasks = replicate 32 None; order = [] }

-- The tasks, of which t is x.
abbrev pub with_task : List (Option Task) → ℕ → Task → List (Option Task)
with_task tasks t x = slice_set tasks (t - 1) (Some x)

-- Task t comes into use as x.
abbrev pub added : View → ℕ → Task → View
added v t x = let tasks = with_task v.tasks t x in record { tasks = tasks; order = by_rank (map rank tasks) t v.order }

-- Task t is no longer in use.
abbrev pub removed : View → ℕ → View
removed v t = record { tasks = slice_set v.tasks (t - 1) None; order = without t v.order }

-- Task t leaves the order and comes back as x, in the place of x's priority.
abbrev pub replaced : View → ℕ → Task → View
replaced v t x = added (removed v t) t x

-- Task t becomes x, in its place.
abbrev pub written : View → ℕ → Task → View
written v t x = record { tasks = with_task v.tasks t x; order = v.order }
