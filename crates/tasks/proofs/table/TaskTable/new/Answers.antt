use Rattle.std.proofs.Common.{◌≡◌, ℕ, zero, suc, List, ◌∷◌, map, get_or, replicate, None, Option, sym, refl, ap, ◌∙◌, ap₂}
use Rattle.chain.specs.Times.{times}
use Rattle.chain.specs.Falling.{falling}
use Rattle.chain.proofs.Paths.{chain_none}
use Rattle.tasks.specs.declared.rows.Task.{Task}
use Rattle.tasks.specs.Use.{rank, in_use, task_at}
use Rattle.tasks.specs.View.{View}
use Rattle.tasks.proofs.Links.{link, held}
use Rattle.tasks.proofs.table.TaskTable.new.Goals as goal

none_used : (x : Option Task) → in_use x ≡ 0 → (m n : ℕ) → in_use (get_or (replicate m x) n None) ≡ 0
none_used x e zero n = refl
none_used x e (suc m) zero = e
none_used x e (suc m) (suc n) = none_used x e m n

none_at : (x : Option Task) → in_use x ≡ 0 → (m n : ℕ) → in_use (task_at (replicate m x) n) ≡ 0
none_at x e m zero = refl
none_at x e m (suc n) = none_used x e m n

pub invariant_of-result : goal.invariant_of-result
invariant_of-result c =
    let r = c.empty_row.result in
    let none = chain_none (0 ∷ map link (replicate 32 r)) refl in
    let spare = ap (λ z. in_use (held z)) c.empty_row.ensures in
    record { sized = refl; ends = none.1; holds = λ n. ap (times n) none.0 ∙ sym (none_at (held r) spare 32 n); falls = ap (falling (map rank (replicate 32 (held r)))) none.0 }

pub returns : goal.returns
returns c =
    let r = c.empty_row.result in
    let shown : List (Option Task) → List ℕ → View = λ ts xs. record { tasks = ts; order = xs } in
    ap₂ shown (ap (λ z. replicate 32 (held z)) c.empty_row.ensures) (chain_none (0 ∷ map link (replicate 32 r)) refl).0
