-- The search for another task at a priority.
use Rattle.std.proofs.Common.{◌≡◌, ℕ, zero, suc, ◌+◌, ◌-◌, ◌<◌, Bool, true, false, cond, not, ◌||◌, eqb, ◌≢◌, List, [], ◌∷◌, map, get_or, set, Some, None, Option, sym, refl, ap, ◌∙◌, ⊎_elim, add-one, arith}
use Rattle.std.proofs.lemmas.Bool.{cases_Bool, both_ways, cond-true, cond-false, eq-eqb, ne_eqb, and_from, and_left, not_from_true, not_from_false}
use Rattle.std.specs.List.{list_any, enumerate_from}
use Rattle.tasks.specs.declared.rows.Task.{Task}
use Rattle.tasks.specs.Use.{rank, in_use, task_at, has, other_has, others_from}
use Rattle.tasks.specs.View.{others_have}
use Rattle.tasks.proofs.Links.{Row, held}

has_rank : (x : Option Task) (p : ℕ) → 0 < in_use x → rank x ≡ p → has x p ≡ true
has_rank (Some x) p u e = eq-eqb x.priority p e
has_rank None p u e = absurd (omega arith)

-- where the search finds none, no task of another number has the priority
none_from : (m : ℕ) (tasks : List (Option Task)) (t p k : ℕ) → others_from m tasks t p ≡ false → m + k ≢ t → 0 < in_use (get_or tasks k None) → rank (get_or tasks k None) ≢ p
none_from m [] t p k e ne u q = omega arith
none_from m (x ∷ xs) t p zero e ne u q =
    let n : m ≢ t = λ d. ne (omega arith) in
    let b : other_has m x t p ≡ true = and_from (not (eqb m t)) (has x p) (not_from_false (eqb m t) (ne_eqb m t n)) (has_rank x p u q) in
    both_ways (others_from m (x ∷ xs) t p) e (cond-true (other_has m x t p) true (others_from (suc m) xs t p) b)
none_from m (x ∷ xs) t p (suc k) e ne u q =
    let on = others_from (suc m) xs t p in
    ⊎_elim (λ b. both_ways (others_from m (x ∷ xs) t p) e (cond-true (other_has m x t p) true on b))
    (λ b. none_from (suc m) xs t p k (sym (cond-false (other_has m x t p) true on b) ∙ e) (λ d. ne (omega arith)) u q) (cases_Bool (other_has m x t p))

pub none_have : (tasks : List (Option Task)) (t p n : ℕ) → others_have tasks t p ≡ false → n ≢ t → 0 < in_use (task_at tasks n) → rank (task_at tasks n) ≢ p
none_have tasks t p zero e ne u q = omega arith
none_have tasks t p (suc k) e ne u q = none_from 1 tasks t p k e (λ d. ne (omega arith)) u q

-- the search does not look at t itself
others_from-set : (m : ℕ) (tasks : List (Option Task)) (k : ℕ) (x : Option Task) (t p : ℕ) → m + k ≡ t → others_from m (set tasks k x) t p ≡ others_from m tasks t p
others_from-set m [] k x t p e = refl
others_from-set m (y ∷ ys) zero x t p e =
    let on = others_from (suc m) ys t p in
    let me : not (eqb m t) ≡ false = not_from_true (eqb m t) (eq-eqb m t (omega arith)) in
    ap (λ b. cond b true on) (and_left (not (eqb m t)) (has x p) me ∙ sym (and_left (not (eqb m t)) (has y p) me))
others_from-set m (y ∷ ys) (suc k) x t p e =
    ap (λ z. cond (other_has m y t p) true z) (others_from-set (suc m) ys k x t p (omega arith))

pub others_set : (tasks : List (Option Task)) (t : ℕ) (x : Option Task) (p : ℕ) → 0 < t → others_have (set tasks (t - 1) x) t p ≡ others_have tasks t p
others_set tasks t x p h = others_from-set 1 tasks (t - 1) x t p (omega arith)

test_or_on : (b z w : Bool) → z ≡ w → (b || z) ≡ cond b true w
test_or_on true z w e = refl
test_or_on false z w e = e

-- the search as a test of rows with their places
pub others_any : (k : ℕ) (rows : List Row) (t p : ℕ) → list_any (λ r. other_has (r.0 + 1) (held r.1) t p) (enumerate_from k rows) ≡ others_from (k + 1) (map held rows) t p
others_any k [] t p = refl
others_any k (r ∷ rows) t p = test_or_on (other_has (k + 1) (held r) t p) _ _ (others_any (k + 1) rows t p ∙ ap (λ m. others_from m (map held rows) t p) (add-one (k + 1)))
