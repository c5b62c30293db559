-- Rows of the table that are written or linked anew.
use Rattle.std.proofs.Common.{◌≡◌, ℕ, ◌-◌, List, map, get_or, set, Option, sym, refl, ap, ◌∙◌}
use mathlib.Core.List.{map-map}
use Rattle.std.proofs.lemmas.List.{map-set}
use Rattle.chain.specs.Chain.{Kept}
use Rattle.chain.specs.declared.rows.Linked.{Linked}
use Rattle.chain.proofs.RowLinks.{map_kept}
use Rattle.tasks.specs.declared.rows.Task.{Task}
use Rattle.tasks.specs.Use.{empty, cleared}

abbrev pub Row : Type 0
Row = Linked (Option Task)

abbrev pub link : Row → ℕ
link r = r.next

abbrev pub relinked : Row → ℕ → Row
relinked r n = record { item = r.item; next = n }

abbrev pub held : Row → Option Task
held r = r.item

-- rows that differ in their links have the same tasks
pub tasks_kept : (rows rows' : List Row) → Kept relinked rows rows' → map held rows' ≡ map held rows
tasks_kept rows rows' e =
    sym (map-map held (λ r. relinked r 0) rows') ∙ ap (map held) e ∙ map-map held (λ r. relinked r 0) rows

-- ---- row t gets the task x or none, and keeps its link

abbrev pub with_held : List Row → ℕ → Option Task → List Row
with_held rows t x = set rows (t - 1) (record { item = x; next = (get_or rows (t - 1) empty).next })

abbrev pub emptied : List Row → ℕ → List Row
emptied rows t = set rows (t - 1) (cleared (get_or rows (t - 1) empty))

module _ (rows : List Row) (t : ℕ) (x : Option Task) where
  pub links_same : map link (with_held rows t x) ≡ map link rows
  links_same = map_kept rows link (t - 1) _ empty refl

  pub tasks_set : map held (with_held rows t x) ≡ set (map held rows) (t - 1) x
  tasks_set = map-set held rows (t - 1) _
