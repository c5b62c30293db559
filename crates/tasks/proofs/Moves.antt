-- What is known of a table, and its view, after a task was written, came into use or went.
use Rattle.std.proofs.Common.{◌≡◌, ℕ, ◌-◌, ◌<◌, true, false, List, ◌∷◌, map, length, is_some, set, Some, None, Option, sym, refl, ap, ◌∙◌, subst, ap₂, arith}
use mathlib.Core.List.{map-map}
use lib.ListN.{length-map}
use Rattle.chain.specs.Times.{times}
use Rattle.chain.specs.Chain.{chain, Ends, Row, by_rank, without, Kept}
use Rattle.chain.specs.Falling.{falling}
use Rattle.tasks.specs.declared.rows.Task.{Task}
use Rattle.tasks.specs.declared.table.TaskTable.{TaskTable}
use Rattle.tasks.specs.Use.{rank, in_use, task_at}
use Rattle.tasks.specs.View.{View, view, task, others_have, priority_of, added, removed, written}
use Rattle.tasks.proofs.Links.{link, relinked, held, with_held, emptied, tasks_kept, links_same, tasks_set}
use Rattle.tasks.proofs.Links as rows_of
use Rattle.tasks.proofs.Numbers.{some_used}
use Rattle.tasks.proofs.Others.{others_set}
use Rattle.tasks.proofs.Walk.{met_row}
use Rattle.tasks.proofs.Priorities.{at_priority_row}
use Rattle.tasks.proofs.Changes as changes

holds_at : (tasks tasks' : List (Option Task)) (xs xs' : List ℕ) → tasks' ≡ tasks → xs' ≡ xs → changes.Holds tasks xs → changes.Holds tasks' xs'
holds_at tasks tasks' xs xs' p q holds n = ap (times n) q ∙ holds n ∙ sym (ap (λ z. in_use (task_at z n)) p)

falls_at : (tasks tasks' : List (Option Task)) (xs xs' : List ℕ) → tasks' ≡ tasks → xs' ≡ xs → changes.Falls tasks xs → changes.Falls tasks' xs'
falls_at tasks tasks' xs xs' p q falls = ap₂ (λ ts ys. falling (map rank ts) ys) p q ∙ falls

abbrev as_view : List (Option Task) → List ℕ → View
as_view ts xs = record { tasks = ts; order = xs }

pub used_number : (s : TaskTable) (t : ℕ) → is_some (task (view s) t) ≡ true → Row 32 t
used_number s t used = met_row s t (let u = some_used (task (view s) t) used in let h = s.holds t in omega arith)

row_here : (s : TaskTable) (t : ℕ) → Row 32 t → Row (length (view s).tasks) t
row_here s t row = let l = length-map s.rows held in let z = s.sized in (row.0, omega (arith, row.1, l, z))

-- ---- row t is written

module _ (s : TaskTable) (t : ℕ) (x : Option Task) (rows : List rows_of.Row) (is : rows ≡ with_held s.rows t x) where
  order_same : chain (s.first ∷ map link rows) ≡ (view s).order
  order_same = ap (λ z. chain (s.first ∷ map link z)) is ∙ ap (λ z. chain (s.first ∷ z)) (links_same s.rows t x)

  pub still_ends : Ends (s.first ∷ map link rows)
  still_ends = subst (λ z. Ends (s.first ∷ z)) (sym (ap (map link) is ∙ links_same s.rows t x)) s.ends

  tasks_are : map held rows ≡ set (view s).tasks (t - 1) x
  tasks_are = ap (map held) is ∙ tasks_set s.rows t x

  -- and then linked anew
  module _ (rows' : List rows_of.Row) (h : ℕ) (kept : Kept relinked rows rows') where
    tasks_after : map held rows' ≡ set (view s).tasks (t - 1) x
    tasks_after = tasks_kept rows rows' kept ∙ tasks_are

    order_put : chain (h ∷ map link rows') ≡ by_rank (map (λ y. rank (held y)) rows) t (chain (s.first ∷ map link rows)) → chain (h ∷ map link rows') ≡ by_rank (map rank (set (view s).tasks (t - 1) x)) t (view s).order
    order_put e =
        e ∙ ap₂ (λ ranks xs. by_rank ranks t xs) (sym (map-map rank held rows) ∙ ap (map rank) tasks_are) order_same

    order_taken : chain (h ∷ map link rows') ≡ without t (chain (s.first ∷ map link rows)) → chain (h ∷ map link rows') ≡ without t (view s).order
    order_taken e = e ∙ ap (without t) order_same

-- ---- task t is in use no longer

module _ (s : TaskTable) (t : ℕ) (used : is_some (task (view s) t) ≡ true) where
  pub still_inside : 0 < times t (chain (s.first ∷ map link (emptied s.rows t)))
  still_inside =
      let e = ap (times t) (order_same s t None (emptied s.rows t) refl) in
      let h = s.holds t in
      let u = some_used (task (view s) t) used in
      omega arith

  pub emptied_ends : Ends (s.first ∷ map link (emptied s.rows t))
  emptied_ends = still_ends s t None (emptied s.rows t) refl

  row : Row (length (view s).tasks) t
  row = row_here s t (used_number s t used)

  module _ (rows' : List rows_of.Row) (h : ℕ) (kept : Kept relinked (emptied s.rows t) rows') (took : chain (h ∷ map link rows') ≡ without t (chain (s.first ∷ map link (emptied s.rows t)))) where
    tasks_left : map held rows' ≡ set (view s).tasks (t - 1) None
    tasks_left = tasks_after s t None (emptied s.rows t) refl rows' h kept

    order_left : chain (h ∷ map link rows') ≡ without t (view s).order
    order_left = order_taken s t None (emptied s.rows t) refl rows' h kept took

    pub removed_holds : changes.Holds (map held rows') (chain (h ∷ map link rows'))
    removed_holds = holds_at _ _ _ _ tasks_left order_left (changes.removed_holds (view s).tasks (view s).order s.holds s.falls t row)

    pub removed_falls : changes.Falls (map held rows') (chain (h ∷ map link rows'))
    removed_falls = falls_at _ _ _ _ tasks_left order_left (changes.removed_falls (view s).tasks (view s).order s.holds s.falls t row)

    pub removed_view : as_view (map held rows') (chain (h ∷ map link rows')) ≡ removed (view s) t
    removed_view = ap₂ as_view tasks_left order_left

-- its priority is as free for it as before
pub still_alone : (s s' : TaskTable) (t p : ℕ) → view s' ≡ removed (view s) t → is_some (task (view s) t) ≡ true → others_have (view s).tasks t p ≡ false → others_have (view s').tasks t p ≡ false
still_alone s s' t p is used alone =
    ap (λ z. others_have z.tasks t p) is ∙ others_set (view s).tasks t None p (used_number s t used).0 ∙ alone

module _ (s : TaskTable) (t : ℕ) (x : Task) (rows : List rows_of.Row) (is : rows ≡ with_held s.rows t (Some x)) where
  -- ---- task t is written

  module _ (same : priority_of (task (view s) t) ≡ Some x.priority) where
    pub written_holds : changes.Holds (map held rows) (chain (s.first ∷ map link rows))
    written_holds = holds_at _ _ _ _ (tasks_are s t (Some x) rows is) (order_same s t (Some x) rows is) (changes.written_holds (view s).tasks (view s).order s.holds s.falls t x (row_here s t (at_priority_row s t x.priority same)) same)

    pub written_falls : changes.Falls (map held rows) (chain (s.first ∷ map link rows))
    written_falls = falls_at _ _ _ _ (tasks_are s t (Some x) rows is) (order_same s t (Some x) rows is) (changes.written_falls (view s).tasks (view s).order s.holds s.falls t x (row_here s t (at_priority_row s t x.priority same)) same)

  pub written_view : as_view (map held rows) (chain (s.first ∷ map link rows)) ≡ written (view s) t x
  written_view = ap₂ as_view (tasks_are s t (Some x) rows is) (order_same s t (Some x) rows is)

  -- ---- task t comes into use

  module _ (row : Row 32 t) (spare : task (view s) t ≡ None) where
    pub still_outside : times t (chain (s.first ∷ map link rows)) ≡ 0
    still_outside = ap (times t) (order_same s t (Some x) rows is) ∙ changes.outside (view s).tasks (view s).order s.holds s.falls t x (row_here s t row) spare

    module _ (rows' : List rows_of.Row) (h : ℕ) (kept : Kept relinked rows rows') (put : chain (h ∷ map link rows') ≡ by_rank (map (λ y. rank (held y)) rows) t (chain (s.first ∷ map link rows))) where
      pub added_holds : changes.Holds (map held rows') (chain (h ∷ map link rows'))
      added_holds = holds_at _ _ _ _ (tasks_after s t (Some x) rows is rows' h kept) (order_put s t (Some x) rows is rows' h kept put) (changes.added_holds (view s).tasks (view s).order s.holds s.falls t x (row_here s t row) spare)

      pub added_falls : others_have (view s).tasks t x.priority ≡ false → changes.Falls (map held rows') (chain (h ∷ map link rows'))
      added_falls alone = falls_at _ _ _ _ (tasks_after s t (Some x) rows is rows' h kept) (order_put s t (Some x) rows is rows' h kept put) (changes.added_falls (view s).tasks (view s).order s.holds s.falls t x (row_here s t row) spare alone)

      pub added_view : as_view (map held rows') (chain (h ∷ map link rows')) ≡ added (view s) t x
      added_view = ap₂ as_view (tasks_after s t (Some x) rows is rows' h kept) (order_put s t (Some x) rows is rows' h kept put)
