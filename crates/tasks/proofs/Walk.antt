-- Each number in the order of a table is that of a task.
use Rattle.std.proofs.Common.{◌≡◌, ℕ, suc, ◌<◌, List, [], ◌∷◌, length, arith}
use lib.ListN.{length-map}
use Rattle.chain.specs.Times.{times}
use Rattle.chain.specs.Chain.{Path, Row}
use Rattle.chain.proofs.Paths.{chain_path, path_row}
use Rattle.tasks.specs.declared.table.TaskTable.{TaskTable}
use Rattle.tasks.specs.Order.{AllRows}
use Rattle.tasks.specs.View.{view, links}

path_rows : (count : ℕ) (links : List ℕ) (a : ℕ) (xs : List ℕ) (b : ℕ) → length links ≡ suc count → Path links a xs b → AllRows count xs
path_rows count links a [] b l p = tt
path_rows count links a (x ∷ xs) b l p = ((p.1.0, omega (arith, p.1.1, l)), path_rows count links x xs b l p.2)

module _ (t : TaskTable) where
  sized : length (links t) ≡ 33
  sized = omega (arith, length-map t.rows (λ r. r.next), t.sized)

  pub order_rows : AllRows 32 (view t).order
  order_rows = path_rows 32 (links t) 0 (view t).order 0 sized (chain_path (links t) t.ends)

  pub met_row : (at : ℕ) → 0 < times at (view t).order → Row 32 at
  met_row at on = let r = path_row (links t) 0 (view t).order 0 at (chain_path (links t) t.ends) on in (r.0, omega (arith, r.1, sized))
