-- What the order of the tasks goes by: which numbers are in use, and at which priorities.
use Rattle.std.specs.Prelude.{ℕ, suc, Bool, true, false, cond, not, ◌&&◌, List, [], ◌∷◌, Some, None, Option, ◌==◌, nat_le, nat_lt, slice_index_or}
use Rattle.chain.specs.Ranks.{rank_or_none}
use Rattle.chain.specs.declared.rows.Linked.{Linked}
use Rattle.tasks.specs.declared.rows.Task.{Task}

-- The task's priority, and 0 where there is none.
abbrev pub rank : Option Task → ℕ
rank = rank_or_none (λ x. x.priority)

-- 1 for a task, and 0 for none.
abbrev pub in_use : Option Task → ℕ
in_use (Some x) = 1
in_use None = 0

-- A row without a task.
abbrev pub empty : Linked (Option Task)
empty = record { item = None; next = 0 }

-- The row with the task x, and its link as it was.
abbrev pub holding : Linked (Option Task) → Task → Linked (Option Task)
holding r x = record { item = Some x; next = r.next }

-- The row without a task, and its link as it was.
abbrev pub cleared : Linked (Option Task) → Linked (Option Task)
cleared r = record { item = None; next = r.next }

-- A task can have the number n.
abbrev pub numbers : ℕ → Bool
numbers n = nat_lt 0 n && nat_le n 32

-- Task n. No task has the number 0, or one past the list.
abbrev pub task_at : List (Option Task) → ℕ → Option Task
task_at tasks n = slice_index_or (None ∷ tasks) n None

-- There is a task, and it has priority p.
abbrev pub has : Option Task → ℕ → Bool
has (Some x) p = x.priority == p
has None p = false

-- Task n, which is x, is another than t and has priority p.
abbrev pub other_has : ℕ → Option Task → ℕ → ℕ → Bool
other_has n x t p = not (n == t) && has x p

-- Of the tasks from number n on, one other than t has priority p.
abbrev pub others_from : ℕ → List (Option Task) → ℕ → ℕ → Bool
others_from n [] t p = false
others_from n (x ∷ xs) t p = cond (other_has n x t p) true (others_from (suc n) xs t p)
