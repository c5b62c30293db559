-- The task that runs, and what every kernel keeps.
use Rattle.std.proofs.Common.{◌≡◌, ℕ, ◌<◌, ◌≤◌, Bool, true, false, cond, ◌≢◌, List, [], ◌∷◌, map, Some, None, Option, sym, refl, ap, ◌∙◌, subst, ⊎_elim, arith}
use lib.ListN.{length-map}
use Rattle.std.specs.List.{find}
use Rattle.std.specs.Option.{IfSome, IfNone}
use Rattle.std.proofs.lemmas.Bool.{cond-true, cond-false, cond_both, both_ways, cases_eq, cases_Bool}
use Rattle.chain.specs.Times.{times}
use Rattle.chain.specs.Chain.{rank_of}
use Rattle.chain.specs.Falling.{falling}
use Rattle.chain.proofs.Times.{times_here, times_cases}
use Rattle.chain.proofs.Falling.{falling_first}
use Rattle.packets.proofs.Moves.{table_placed}
use Rattle.tasks.specs.declared.rows.Task.{Task}
use Rattle.tasks.specs.declared.table.TaskTable.{TaskTable}
use Rattle.tasks.specs.Use.{rank, in_use}
use Rattle.tasks.specs.View.{view as task_view}
use Rattle.tasks.proofs.Numbers.{rank_at, some_task}
use Rattle.tasks.proofs.Priorities.{by_falling_priority, tasks_length}
use Rattle.tasks.proofs.Walk.{met_row}
use Rattle.packets.specs.declared.table.PacketTable.{PacketTable}
use Rattle.packets.specs.View.{view as packet_view}
use Rattle.tables.specs.State.{State, joined, task}
use Rattle.tables.specs.Running.{may_run, runnable, first_runnable, running, Greatest}
use Rattle.tables.specs.Kept.{Kept}
use Rattle.tables.specs.Sound.{AreSound}

-- ---- the first runnable task of a falling list

pub first_on : (s : State) (xs : List ℕ) → first_runnable s xs ≢ 0 → (runnable s (first_runnable s xs) ≡ true) × (0 < times (first_runnable s xs) xs)
first_on s [] ne = absurd (ne refl)
first_on s (x ∷ xs) ne =
    cond_both (runnable s x) x (first_runnable s xs) (λ z. z ≢ 0 → (runnable s z ≡ true) × (0 < times z (x ∷ xs)))
    (λ e _. (e, let h = times_here x xs in omega arith)) (λ _ n. let r = first_on s xs n in (r.0, omega (arith, r.1))) ne

-- a task that may run is not passed over
first_none : (s : State) (xs : List ℕ) → first_runnable s xs ≡ 0 → times 0 xs ≡ 0 → (t : ℕ) → 0 < times t xs → runnable s t ≡ false
first_none s [] e z t m = absurd (omega arith)
first_none s (x ∷ xs) e z t m =
    ⊎_elim (λ yes. let q : x ≡ 0 = sym (cond-true (runnable s x) x (first_runnable s xs) yes) ∙ e in let h = times_here x xs in let w = ap (λ k. times k (x ∷ xs)) q in absurd (omega arith))
    (λ no. ⊎_elim (λ q. ap (runnable s) (sym q) ∙ no) (first_none s xs (sym (cond-false (runnable s x) x (first_runnable s xs) no) ∙ e) (omega arith) t) (times_cases t x xs m)) (cases_Bool (runnable s x))

first_above : (s : State) (ranks xs : List ℕ) → falling ranks xs ≡ true → (t : ℕ) → 0 < times t xs → t ≢ first_runnable s xs → runnable s t ≡ true → rank_of ranks t < rank_of ranks (first_runnable s xs)
first_above s ranks [] f t m ne r = absurd (omega arith)
first_above s ranks (x ∷ xs) f t m ne r =
    let d = falling_first ranks x xs f in
    cond_both (runnable s x) x (first_runnable s xs) (λ z. t ≢ z → rank_of ranks t < rank_of ranks z)
    (λ _ n. ⊎_elim (λ q. absurd (n (sym q))) (d.0 t) (times_cases t x xs m))
    (λ no n. ⊎_elim (λ q. absurd (both_ways (runnable s x) no (ap (runnable s) q ∙ r))) (λ h. first_above s ranks xs d.1 t h n r) (times_cases t x xs m)) ne

-- what is found down a list is the first there that may run
pub found_one : (s : State) (xs : List ℕ) → IfSome (find (runnable s) xs) (λ t. t ≡ first_runnable s xs)
found_one s [] = tt
found_one s (x ∷ xs) =
    elim (runnable s x) as (λ b. IfSome (cond b (Some x) (find (runnable s) xs)) (λ t. t ≡ cond b x (first_runnable s xs))) [
      | true ↦ refl
      | false ↦ found_one s xs
    ]

pub found_none : (s : State) (xs : List ℕ) → IfNone (find (runnable s) xs) (first_runnable s xs ≡ 0)
found_none s [] = refl
found_none s (x ∷ xs) =
    elim (runnable s x) as (λ b. IfNone (cond b (Some x) (find (runnable s) xs)) (cond b x (first_runnable s xs) ≡ 0)) [
      | true ↦ tt
      | false ↦ found_none s xs
    ]

-- ---- of a kernel's tables

pub may_use : (x : Option Task) (q : Bool) → may_run x q ≡ true → in_use x ≡ 1
may_use None q e = absurd (both_ways false refl e)
may_use (Some x) q e = refl

module _ (tasks : TaskTable) (packets : PacketTable) where
  abbrev state : State
  state = joined (task_view tasks) (packet_view packets)

  ordered : (t : ℕ) → runnable state t ≡ true → 0 < times t state.order
  ordered t e = let h = (by_falling_priority tasks).each_once t in let u = may_use (task state t) _ e in omega (arith, h, u)

  no_zero : times 0 state.order ≡ 0
  no_zero = (by_falling_priority tasks).each_once 0

  number : (t : ℕ) → 0 < times t state.order → 0 < t
  number t m = (met_row tasks t m).0

  ranked : (t : ℕ) → 0 < times t state.order → rank_of (map rank state.tasks) t ≡ rank (task state t)
  ranked t m = rank_at state.tasks t (number t m)

  pub greatest : (r : ℕ) → r ≡ running state → Greatest state r
  greatest r e =
      let xs = state.order in
      record {
        none = λ z t. ⊎_elim (λ yes. first_none state xs (sym e ∙ z) no_zero t (ordered t yes)) (λ no. no) (cases_Bool (runnable state t));
        runs = λ ne. ap (runnable state) e ∙ (first_on state xs (λ q. ne (e ∙ q))).0;
        above = λ t ne run. ⊎_elim (λ z. absurd (both_ways (runnable state t) (first_none state xs z no_zero t (ordered t run)) run))
            (λ nz. let m = ordered t run in
            let o = (first_on state xs nz).1 in
            let b = first_above state (map rank state.tasks) xs tasks.falls t m (λ q. ne (q ∙ sym e)) run in
            let c = ranked t m in let d = ranked (running state) o in
            subst (λ z. rank (task state t) < rank (task state z)) (sym e) (omega (arith, b, c, d))) (cases_eq (first_runnable state xs) 0);
      }

  pub running_bound : (r : ℕ) → r ≡ running state → r ≤ 32
  running_bound r e =
      ⊎_elim (λ z. omega (arith, e, z)) (λ nz. let w = met_row tasks (running state) (first_on state state.order nz).1 in omega (arith, e, w.1)) (cases_eq (first_runnable state state.order) 0)

  pub kept : Kept state
  kept =
      let order = by_falling_priority tasks in
      record {
        task_count = tasks_length tasks;
        packet_count = length-map packets.rows (λ r. r.item) ∙ packets.sized.0;
        list_count = length-map packets.heads _ ∙ packets.sized.1;
        priorities = λ t u a b e. let x = some_task (task state t) a in let y = some_task (task state u) b in order.distinct t u x.0 y.0 x.1 y.1 (sym (ap rank x.1) ∙ e ∙ ap rank y.1);
        ordered = order.each_once;
        falling = order.falling;
        placed = table_placed packets;
      }

pub sound : (tasks : TaskTable) (packets : PacketTable) → AreSound tasks packets
sound tasks packets = record { kept = kept tasks packets; greatest = greatest tasks packets _ refl }

pub are_sound : (tasks : TaskTable) (packets : PacketTable) → ∥ AreSound tasks packets ∥₁
are_sound tasks packets = ∣ sound tasks packets ∣₁
