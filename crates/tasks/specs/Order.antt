-- Lists of row numbers.
use Rattle.std.specs.Prelude.{ℕ, List, [], ◌∷◌}
use Rattle.chain.specs.Chain.{Row}

-- Each number of the list is one of so many rows.
abbrev pub AllRows : ℕ → List ℕ → Type 0
AllRows count [] = Unit {0}
AllRows count (x ∷ xs) = Row count x × AllRows count xs
