-- The rows of a listing: a row for each task in use, by falling priority.
use Rattle.std.specs.Prelude.{ℕ, ◌+◌, Bool, cond, List, ◌++◌, map, length, drop, Some, None, Option, nat_le}
use Rattle.packets.specs.View.{filled}
use Rattle.tasks.specs.declared.rows.Condition.{Condition}
use Rattle.tasks.specs.declared.rows.Condition.TheVariants.{Dormant, Ready, Waiting}
use Rattle.tasks.specs.declared.rows.Task.{Task}
use Rattle.tables.specs.State.{State, task, queue}
use Rattle.listing.specs.declared.Listed.{Listed}

abbrev pub condition_value : Condition → ℕ
condition_value Ready = 0
condition_value Waiting = 4
condition_value Dormant = 12

-- The condition's value, and 1 more if a packet is queued, and 2 more if the task is held.
abbrev pub state_value : Task → Bool → ℕ
state_value x some = condition_value x.condition + cond some 1 0 + cond x.held 2 0

abbrev pub no_row : Listed
no_row = record { task = 0; priority = 0; state = 0; flags = 0; queued = 0 }

-- The row of task t, of which x is known and the packets queued for it; a number that is not in use has zeros.
abbrev pub row_from : ℕ → Option Task → List ℕ → Listed
row_from t None packets = no_row
row_from t (Some x) packets = record { task = t; priority = x.priority; state = state_value x (filled packets); flags = x.flags; queued = length packets }

abbrev pub row_of : State → ℕ → Listed
row_of s t = row_from t (task s t) (queue s t)

abbrev pub list_rows : State → List Listed
list_rows s = map (row_of s) s.order

-- The listing stands in the first rows, and later ones stay as they were; where there are fewer than 32, all do.
abbrev pub listed : State → List Listed → List Listed
listed s rows = cond (nat_le 32 (length rows)) (list_rows s ++ drop (length s.order) rows) rows

-- How many rows are written; nothing where there are fewer than 32.
abbrev pub list_count : State → List Listed → Option ℕ
list_count s rows = cond (nat_le 32 (length rows)) (Some (length s.order)) None
