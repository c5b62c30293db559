-- Rows by falling rank, of which no two have the same.
use Rattle.std.specs.Prelude.{ℕ, Bool, true, ◌&&◌, List, [], ◌∷◌, nat_lt}
use Rattle.chain.specs.Chain.{rank_of}

-- Every row has a smaller rank than r.
abbrev pub below : List ℕ → ℕ → List ℕ → Bool
below ranks r [] = true
below ranks r (x ∷ xs) = nat_lt (rank_of ranks x) r && below ranks r xs

-- Every row has a smaller rank than each before it.
abbrev pub falling : List ℕ → List ℕ → Bool
falling ranks [] = true
falling ranks (x ∷ xs) = below ranks (rank_of ranks x) xs && falling ranks xs
