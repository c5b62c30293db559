-- What the order of the tasks comes to.
use Rattle.std.specs.Prelude.{◌≡◌, ℕ, ◌<◌, length, Some, slice_index}
use Rattle.chain.specs.Times.{times}
use Rattle.tasks.specs.declared.rows.Task.{Task}
use Rattle.tasks.specs.Use.{rank, in_use}
use Rattle.tasks.specs.View.{View, task}

pub record ByFallingPriority (v : View) : Type 0 where
  -- Every task in use stands in the order once, and no other number does.
  pub each_once : (n : ℕ) → times n v.order ≡ in_use (task v n)
  -- Each has a smaller priority than those before it.
  pub falling : (i j : ℕ) → i < j → j < length v.order → rank (task v (slice_index v.order j)) < rank (task v (slice_index v.order i))
  -- Two tasks in use at the same priority are the same task.
  pub distinct : (s t : ℕ) (x y : Task) → task v s ≡ Some x → task v t ≡ Some y → x.priority ≡ y.priority → s ≡ t
