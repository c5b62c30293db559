-- What the order of a table comes to.
use Rattle.std.proofs.Common.{◌≡◌, ℕ, zero, suc, ◌<◌, true, List, [], ◌∷◌, map, length, get_or, Some, Option, sym, ap, ◌∙◌, arith}
use lib.ListN.{length-map}
use Rattle.chain.specs.Times.{times}
use Rattle.chain.specs.Chain.{Row, rank_of}
use Rattle.chain.specs.Falling.{falling}
use Rattle.chain.proofs.Times.{times_here}
use Rattle.chain.proofs.Falling.{falling_first, falling_once}
use Rattle.tasks.specs.declared.rows.Task.{Task}
use Rattle.tasks.specs.declared.table.TaskTable.{TaskTable}
use Rattle.tasks.specs.Use.{rank, in_use, task_at}
use Rattle.tasks.specs.View.{view, task, priority_of}
use Rattle.tasks.specs.Priorities.{ByFallingPriority}
use Rattle.tasks.proofs.Numbers.{rank_at, priority_known}
use Rattle.tasks.proofs.Links.{held}
use Rattle.tasks.proofs.Walk.{met_row}
use Rattle.tasks.proofs.Changes.{Holds, Falls, held_number}

times_get : (xs : List ℕ) (i : ℕ) → i < length xs → 0 < times (get_or xs i 0) xs
times_get [] i h = absurd (omega arith)
times_get (x ∷ xs) zero h = let e = times_here x xs in omega arith
times_get (x ∷ xs) (suc i) h = let e = times_get xs i (omega arith) in omega arith

falling_get : (ranks xs : List ℕ) → falling ranks xs ≡ true → (i j : ℕ) → i < j → j < length xs → rank_of ranks (get_or xs j 0) < rank_of ranks (get_or xs i 0)
falling_get ranks [] e i j l h = absurd (omega arith)
falling_get ranks (x ∷ xs) e i zero l h = absurd (omega arith)
falling_get ranks (x ∷ xs) e zero (suc j) l h = (falling_first ranks x xs e).0 (get_or xs j 0) (times_get xs j (omega arith))
falling_get ranks (x ∷ xs) e (suc i) (suc j) l h = falling_get ranks xs (falling_first ranks x xs e).1 i j (omega arith) (omega arith)

module _ (tasks : List (Option Task)) (xs : List ℕ) (holds : Holds tasks xs) (falls : Falls tasks xs) where
  ranked : (n : ℕ) → 0 < times n xs → rank_of (map rank tasks) n ≡ rank (task_at tasks n)
  ranked n m = rank_at tasks n (held_number tasks xs holds n m)

  falls_by_priority : (i j : ℕ) → i < j → j < length xs → rank (task_at tasks (get_or xs j 0)) < rank (task_at tasks (get_or xs i 0))
  falls_by_priority i j l h =
      let f = falling_get (map rank tasks) xs falls i j l h in
      let a = ranked (get_or xs j 0) (times_get xs j h) in
      let b = ranked (get_or xs i 0) (times_get xs i (omega arith)) in
      omega (arith, f, a, b)

  stands : (n : ℕ) (x : Task) → task_at tasks n ≡ Some x → 0 < times n xs
  stands n x e = let h = holds n ∙ ap in_use e in omega arith

  one_each : (s t : ℕ) (x y : Task) → task_at tasks s ≡ Some x → task_at tasks t ≡ Some y → x.priority ≡ y.priority → s ≡ t
  one_each s t x y p q e =
      falling_once (map rank tasks) xs falls s t (stands s x p) (stands t y q)
      (ranked s (stands s x p) ∙ ap rank p ∙ e ∙ sym (ranked t (stands t y q) ∙ ap rank q))

pub tasks_length : (t : TaskTable) → length (view t).tasks ≡ 32
tasks_length t = length-map t.rows held ∙ t.sized

-- a task in use has one of the numbers 1 to 32
pub used_row : (t : TaskTable) (n : ℕ) (x : Task) → task (view t) n ≡ Some x → Row 32 n
used_row t n x e = met_row t n (stands (view t).tasks (view t).order t.holds t.falls n x e)

pub at_priority_row : (t : TaskTable) (n p : ℕ) → priority_of (task (view t) n) ≡ Some p → Row 32 n
at_priority_row t n p e =
    met_row t n (let u = priority_known (task (view t) n) p e in let h = t.holds n in omega (arith, u.0))

pub by_falling_priority : (t : TaskTable) → ByFallingPriority (view t)
by_falling_priority t =
    let v = view t in
    record {
      each_once = t.holds;
      falling = falls_by_priority v.tasks v.order t.holds t.falls;
      distinct = one_each v.tasks v.order t.holds t.falls;
    }
