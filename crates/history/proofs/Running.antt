-- The task that runs is the one that the journal reckons.
use Rattle.std.proofs.Common.{◌≡◌, ℕ, zero, suc, ◌<◌, ◌≤◌, Bool, true, false, ◌&&◌, ◌||◌, eqb, ltb, ◌≢◌, Some, None, Option, sym, refl, ap, ◌∙◌, ap₂, ⊎_elim, arith}
use Rattle.std.proofs.lemmas.Bool.{cases_eq, both_ways, cond_both, and_parts, and_cases, or_cases, or_parts, eqb-true, eqb-false, ltb-true, ltb-false}
use Rattle.std.specs.Option.{option_map}
use Rattle.chain.specs.Chain.{Row}
use Rattle.packets.specs.View.{filled}
use Rattle.tasks.specs.declared.rows.Task.{Task}
use Rattle.tasks.specs.Use as UseOf
use Rattle.tables.specs.State.{State, task, queue}
use Rattle.tables.specs.Running as kernel
use Rattle.tables.specs.Kept.{Kept}
use Rattle.history.specs.Journal.{Journal, rank, may_run, runnable, greatest, queued_among}
use Rattle.history.specs.Law.{note, Tasks, Running}
use Rattle.history.proofs.Places.{Says}
use Rattle.history.proofs.Queued.{queued_is}

-- ---- the greatest of the wanted

pub record Best (wanted : ℕ → Bool) (ranks : ℕ → ℕ) (n r : ℕ) : Type 0 where
  pub none : r ≡ 0 → (t : ℕ) → Row n t → wanted t ≡ false
  pub one : r ≢ 0 → (wanted r ≡ true) × Row n r
  pub most : (t : ℕ) → Row n t → wanted t ≡ true → ranks t ≤ ranks r

pub best : (wanted : ℕ → Bool) (ranks : ℕ → ℕ) (n : ℕ) → Best wanted ranks n (greatest wanted ranks n)
unfolding greatest
best wanted ranks zero =
    record {
      none = λ e t r. absurd (omega (arith, r.0, r.1));
      one = λ ne. absurd (ne refl);
      most = λ t r w. absurd (omega (arith, r.0, r.1));
    }
best wanted ranks (suc n) =
    let g = greatest wanted ranks n in
    let b = best wanted ranks n in
    let last : (t : ℕ) → Row (suc n) t → t ≢ suc n → Row n t = λ t r ne. (r.0, omega (arith, r.1, ne)) in
    cond_both (wanted (suc n) && (eqb g 0 || ltb (ranks g) (ranks (suc n)))) (suc n) g (Best wanted ranks (suc n))
    (λ yes. let p = and_parts (wanted (suc n)) (eqb g 0 || ltb (ranks g) (ranks (suc n))) yes in
    record {
      none = λ e t r. absurd (omega (arith, e));
      one = λ ne. (p.0, (omega arith, omega arith));
      most = λ t r w. ⊎_elim (λ q. let z = ap ranks q in omega (arith, z))
          (λ ne. ⊎_elim (λ z. absurd (both_ways (wanted t) (b.none (eqb-true g 0 z) t (last t r ne)) w))
          (λ l. let c = b.most t (last t r ne) w in let d = ltb-true (ranks g) (ranks (suc n)) l in omega (arith, c, d)) (or_cases (eqb g 0) (ltb (ranks g) (ranks (suc n))) p.1))
          (cases_eq t (suc n));
    })
    (λ no. let c = and_cases (wanted (suc n)) (eqb g 0 || ltb (ranks g) (ranks (suc n))) no in
    record {
      none = λ e t r. ⊎_elim
          (λ q. ap wanted q ∙ ⊎_elim (λ w. w) (λ o. absurd (eqb-false g 0 (or_parts (eqb g 0) (ltb (ranks g) (ranks (suc n))) o).0 e)) c)
          (λ ne. b.none e t (last t r ne)) (cases_eq t (suc n));
      one = λ ne. let o = b.one ne in (o.0, (o.1.0, omega (arith, o.1.1)));
      most = λ t r w. ⊎_elim
          (λ q. ⊎_elim (λ f. absurd (both_ways (wanted t) (ap wanted q ∙ f) w))
          (λ o. let z = ap ranks q in let l = ltb-false (ranks g) (ranks (suc n)) (or_parts (eqb g 0) (ltb (ranks g) (ranks (suc n))) o).1 in omega (arith, z, l)) c)
          (λ ne. b.most t (last t r ne) w) (cases_eq t (suc n));
    })

-- what has a rank above every other that is wanted is the greatest
pub best_is : (wanted : ℕ → Bool) (ranks : ℕ → ℕ) (n r : ℕ) → (r ≡ 0 → (t : ℕ) → wanted t ≡ false) → (r ≢ 0 → (wanted r ≡ true) × Row n r) → ((t : ℕ) → t ≢ r → wanted t ≡ true → ranks t < ranks r) → r ≡ greatest wanted ranks n
best_is wanted ranks n r none one above =
    let g = greatest wanted ranks n in
    let b = best wanted ranks n in
    ⊎_elim
    (λ z. ⊎_elim (λ gz. z ∙ sym gz) (λ ne. absurd (both_ways (wanted g) (none z g) (b.one ne).0)) (cases_eq g 0))
    (λ ne. let o = one ne in
    ⊎_elim (λ e. e)
    (λ other. absurd (⊎_elim (λ gz. both_ways (wanted r) (b.none gz r o.1) o.0)
    (λ gn. let a = above g (λ q. other (sym q)) (b.one gn).0 in let c = b.most r o.1 o.0 in omega (arith, a, c)) (cases_eq g 0))) (cases_eq r g))
    (cases_eq r 0)

-- ---- journal and kernel reckon alike

may_agree : (o : Option Task) (q : Bool) → may_run (option_map note o) q ≡ kernel.may_run o q
may_agree None q = refl
may_agree (Some x) q = refl

pub rank_agree : (o : Option Task) → rank (option_map note o) ≡ UseOf.rank o
rank_agree None = refl
rank_agree (Some x) = refl

module _ (s : State) (j : Journal) (k : Kept s) (tasks : Tasks s j) (says : Says s j) where
  pub ranks_are : (t : ℕ) → UseOf.rank (task s t) ≡ rank (j.tasks t)
  ranks_are t = sym (rank_agree (task s t)) ∙ ap rank (tasks t)

  pub runnable_is : (t : ℕ) → kernel.runnable s t ≡ runnable j t
  runnable_is zero = sym (may_agree (task s 0) (filled (queue s 0))) ∙ nobody (queued_among j 0 64) ∙ ap (λ o. may_run o (queued_among j 0 64)) (tasks 0)
    where
      nobody : (q : Bool) → false ≡ may_run None q
      nobody q = refl
  runnable_is (suc t) =
      sym (may_agree (task s (suc t)) (filled (queue s (suc t)))) ∙
      ap₂ may_run (tasks (suc t)) (sym (queued_is s j k says (suc t) (omega arith)))

  pub running_is : (r : ℕ) → r ≤ 32 → kernel.Greatest s r → Running j r
  running_is r bound g =
      let none : r ≡ 0 → (t : ℕ) → runnable j t ≡ false = λ e t. sym (runnable_is t) ∙ g.none e t in
      let one : r ≢ 0 → runnable j r ≡ true = λ ne. sym (runnable_is r) ∙ g.runs ne in
      let above : (t : ℕ) → t ≢ r → runnable j t ≡ true → rank (j.tasks t) < rank (j.tasks r) = λ t ne e. let a = g.above t ne (runnable_is t ∙ e) in omega (arith, a, ranks_are t, ranks_are r) in
      record {
        reckoned = best_is (runnable j) (λ t. rank (j.tasks t)) 32 r none (λ ne. (one ne, (omega (arith, ne), bound))) above;
        none = none;
        one = one;
        above = above;
      }
