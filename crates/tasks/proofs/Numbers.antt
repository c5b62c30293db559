-- Tasks by their numbers.
use Rattle.std.proofs.Common.{◌≡◌, ℕ, zero, suc, ◌-◌, ◌<◌, true, false, ltb, leb, ◌≢◌, List, map, length, get_or, set, is_some, Some, None, Option, refl, ap, ◌∙◌, ⊎_elim, arith}
use lib.ListN.{get_or-map}
use Rattle.std.proofs.lemmas.List.{get_or-set_same, get_or-set_other, get_or_past}
use Rattle.std.proofs.lemmas.Bool.{both_ways, and_parts, and_cases, ltb-true, ltb-false, leb-true, leb-false}
use Rattle.chain.specs.Chain.{Row, rank_of}
use Rattle.tasks.specs.declared.rows.Task.{Task}
use Rattle.tasks.specs.Use.{numbers, rank, in_use, task_at}
use Rattle.tasks.specs.View.{priority_of}

pub task_get : (tasks : List (Option Task)) (n : ℕ) → 0 < n → task_at tasks n ≡ get_or tasks (n - 1) None
task_get tasks zero h = absurd (omega arith)
task_get tasks (suc k) h = let s : k ≡ suc k - 1 = omega arith in ap (λ z. get_or tasks z None) s

pub numbers_row : (n : ℕ) → numbers n ≡ true → Row 32 n
numbers_row n e = let p = and_parts (ltb 0 n) (leb n 32) e in (ltb-true 0 n p.0, leb-true n 32 p.1)

pub numbers_none : (tasks : List (Option Task)) (n : ℕ) → length tasks ≡ 32 → numbers n ≡ false → task_at tasks n ≡ None
numbers_none tasks zero l e = refl
numbers_none tasks (suc k) l e =
    ⊎_elim (λ p. let z = ltb-false 0 (suc k) p in absurd (omega arith)) (λ p. let z = leb-false (suc k) 32 p in get_or_past tasks k None (omega arith)) (and_cases (ltb 0 (suc k)) (leb (suc k) 32) e)

pub task_same : (tasks : List (Option Task)) (t : ℕ) (x : Option Task) → Row (length tasks) t → task_at (set tasks (t - 1) x) t ≡ x
task_same tasks t x r =
    task_get (set tasks (t - 1) x) t r.0 ∙ get_or-set_same tasks (t - 1) x None (omega (arith, r.0, r.1))

pub task_other : (tasks : List (Option Task)) (t : ℕ) (x : Option Task) (n : ℕ) → 0 < t → n ≢ t → task_at (set tasks (t - 1) x) n ≡ task_at tasks n
task_other tasks t x zero h ne = refl
task_other tasks t x (suc k) h ne =
    get_or-set_other tasks (t - 1) k x None (λ e. let s : suc k ≡ t = omega arith in ne s)

pub rank_at : (tasks : List (Option Task)) (n : ℕ) → 0 < n → rank_of (map rank tasks) n ≡ rank (task_at tasks n)
rank_at tasks zero h = absurd (omega arith)
rank_at tasks (suc k) h =
    let s : suc k - 1 ≡ k = omega arith in ap (λ z. get_or (map rank tasks) z 0) s ∙ get_or-map rank tasks k None

-- a task at a priority is in use, and that is its rank
pub priority_known : (x : Option Task) (p : ℕ) → priority_of x ≡ Some p → (in_use x ≡ 1) × (rank x ≡ p)
priority_known (Some x) p e = (refl, cc)
priority_known None p e = let z : ◌≡◌ {A = ℕ} 0 1 = cc in absurd (omega arith)

-- a task in use, said in each way
pub some_task : (o : Option Task) → is_some o ≡ true → (x : Task) × (o ≡ Some x)
some_task (Some x) e = (x, refl)
some_task None e = absurd (both_ways false refl e)

pub used_some : (x : Option Task) → in_use x ≡ 1 → is_some x ≡ true
used_some (Some x) e = refl
used_some None e = absurd (omega arith)

pub some_used : (x : Option Task) → is_some x ≡ true → in_use x ≡ 1
some_used (Some x) e = refl
some_used None e = absurd (both_ways false refl e)
