-- The order holds the tasks in use by falling priority, and goes on to when one is written, comes into use or goes.
use Rattle.std.proofs.Common.{◌≡◌, ℕ, ◌-◌, ◌<◌, ◌≤◌, true, false, ◌≢◌, List, map, length, set, Some, None, Option, sym, ap, ◌∙◌, ⊎_elim, arith}
use Rattle.std.proofs.lemmas.Bool.{cases_eq, cases_lt}
use Rattle.chain.specs.Times.{times}
use Rattle.chain.specs.Chain.{Row, rank_of, by_rank, without}
use Rattle.chain.specs.Falling.{falling}
use Rattle.chain.proofs.Times.{hit_same, hit_other, times_apart, times-without}
use Rattle.chain.proofs.Ranks.{times-by_rank}
use Rattle.chain.proofs.Falling.{falling_same, falling-by_rank, falling-without}
use Rattle.tasks.specs.declared.rows.Task.{Task}
use Rattle.tasks.specs.Use.{rank, in_use, task_at}
use Rattle.tasks.specs.View.{with_task, others_have, priority_of}
use Rattle.tasks.proofs.Numbers.{task_same, task_other, rank_at, priority_known}
use Rattle.tasks.proofs.Others.{none_have}

abbrev pub Holds : List (Option Task) → List ℕ → Type 0
Holds tasks xs = (n : ℕ) → times n xs ≡ in_use (task_at tasks n)

at_most : (x : Option Task) → in_use x ≤ 1
at_most (Some x) = omega arith
at_most None = omega arith

abbrev pub Falls : List (Option Task) → List ℕ → Type 0
Falls tasks xs = falling (map rank tasks) xs ≡ true

-- 0 stands in no order
pub held_number : (tasks : List (Option Task)) (xs : List ℕ) → Holds tasks xs → (n : ℕ) → 0 < times n xs → 0 < n
held_number tasks xs holds n h =
    ⊎_elim (λ p. p) (λ z. let e : n ≡ 0 = omega arith in let a = ap (λ m. times m xs) e in let b = holds 0 in absurd (omega arith)) (cases_lt 0 n)

-- ---- number t gets another task, or none

module _ (tasks : List (Option Task)) (xs : List ℕ) (holds : Holds tasks xs) (t : ℕ) (x : Option Task) (row : Row (length tasks) t) where
  here : task_at (set tasks (t - 1) x) t ≡ x
  here = task_same tasks t x row

  other : (n : ℕ) → n ≢ t → task_at (set tasks (t - 1) x) n ≡ task_at tasks n
  other n ne = task_other tasks t x n row.0 ne

  other_rank : (n : ℕ) → 0 < times n xs → n ≢ t → rank_of (map rank (set tasks (t - 1) x)) n ≡ rank_of (map rank tasks) n
  other_rank n m ne =
      let h = held_number tasks xs holds n m in
      rank_at (set tasks (t - 1) x) n h ∙ ap rank (other n ne) ∙ sym (rank_at tasks n h)

  new_rank : rank_of (map rank (set tasks (t - 1) x)) t ≡ rank x
  new_rank = rank_at (set tasks (t - 1) x) t row.0 ∙ ap rank here

-- ---- task t is in use no longer

module _ (tasks : List (Option Task)) (xs : List ℕ) (holds : Holds tasks xs) (falls : Falls tasks xs) (t : ℕ) (row : Row (length tasks) t) where
  once : times t xs ≤ 1
  once = let h = holds t in let u = at_most (task_at tasks t) in omega arith

  pub removed_holds : Holds (set tasks (t - 1) None) (without t xs)
  removed_holds n =
      let w = times-without n t xs in
      ⊎_elim
      (λ e. let h = hit_same t n (sym e) in
      let o = ap (λ m. times m xs) e in
      let l = once in
      let u = ap (λ m. in_use (task_at (set tasks (t - 1) None) m)) e ∙ ap in_use (here tasks xs holds t None row) in
      omega arith)
      (λ ne. let h = hit_other t n (λ e. ne (sym e)) in
      let o = holds n in
      let u = ap in_use (other tasks xs holds t None row n ne) in
      omega arith) (cases_eq n t)

  pub removed_falls : Falls (set tasks (t - 1) None) (without t xs)
  removed_falls =
      falling_same (map rank tasks) (map rank (set tasks (t - 1) None)) (without t xs)
      (λ n m. let w = times-without n t xs in
      let ne : n ≢ t = λ e. let h = hit_same t n (sym e) in let o = ap (λ k. times k xs) e in let l = once in omega arith in
      other_rank tasks xs holds t None row n (omega arith) ne) (falling-without (map rank tasks) t xs falls)

module _ (tasks : List (Option Task)) (xs : List ℕ) (holds : Holds tasks xs) (falls : Falls tasks xs) (t : ℕ) (x : Task) (row : Row (length tasks) t) where
  -- ---- task t is written

  module _ (same : priority_of (task_at tasks t) ≡ Some x.priority) where
    pub written_holds : Holds (with_task tasks t x) xs
    written_holds n =
        let known = priority_known (task_at tasks t) x.priority same in
        ⊎_elim (λ e. ap (λ m. times m xs) e ∙ holds t ∙ known.0 ∙ sym (ap (λ m. in_use (task_at (with_task tasks t x) m)) e ∙ ap in_use (here tasks xs holds t (Some x) row)))
        (λ ne. holds n ∙ sym (ap in_use (other tasks xs holds t (Some x) row n ne))) (cases_eq n t)

    pub written_falls : Falls (with_task tasks t x) xs
    written_falls =
        let known = priority_known (task_at tasks t) x.priority same in
        falling_same (map rank tasks) (map rank (with_task tasks t x)) xs
        (λ n m. ⊎_elim
        (λ e. ap (rank_of (map rank (with_task tasks t x))) e ∙ new_rank tasks xs holds t (Some x) row ∙ sym (ap (rank_of (map rank tasks)) e ∙ rank_at tasks t row.0 ∙ known.1))
        (other_rank tasks xs holds t (Some x) row n m) (cases_eq n t)) falls

  -- ---- task t comes into use

  module _ (spare : task_at tasks t ≡ None) where
    pub outside : times t xs ≡ 0
    outside = holds t ∙ ap in_use spare

    pub added_holds : Holds (with_task tasks t x) (by_rank (map rank (with_task tasks t x)) t xs)
    added_holds n =
        let s = times-by_rank (map rank (with_task tasks t x)) t n xs in
        ⊎_elim
        (λ e. let h = hit_same t n (sym e) in
        let o = ap (λ m. times m xs) e ∙ outside in
        let u = ap (λ m. in_use (task_at (with_task tasks t x) m)) e ∙ ap in_use (here tasks xs holds t (Some x) row) in
        omega arith)
        (λ ne. let h = hit_other t n (λ e. ne (sym e)) in
        let o = holds n in
        let u = ap in_use (other tasks xs holds t (Some x) row n ne) in
        omega arith) (cases_eq n t)

    pub added_falls : others_have tasks t x.priority ≡ false → Falls (with_task tasks t x) (by_rank (map rank (with_task tasks t x)) t xs)
    added_falls alone =
        let ne : (n : ℕ) → 0 < times n xs → n ≢ t = λ n m. times_apart t n xs outside m in
        falling-by_rank (map rank (with_task tasks t x)) t xs
        (λ n m q. none_have tasks t x.priority n alone (ne n m) (let h = holds n in omega arith)
        (sym (rank_at tasks n (held_number tasks xs holds n m)) ∙ sym (other_rank tasks xs holds t (Some x) row n m (ne n m)) ∙ q ∙ new_rank tasks xs holds t (Some x) row))
        (falling_same (map rank tasks) (map rank (with_task tasks t x)) xs (λ n m. other_rank tasks xs holds t (Some x) row n m (ne n m)) falls)
