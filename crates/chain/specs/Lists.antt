-- Several chains through the same rows, each from a head of its own. `heads` has the heads, and `links` the link of row n at place n - 1.
use Rattle.std.specs.Prelude.{◌≡◌, ℕ, List, ◌∷◌, map, slice_index}
use Rattle.chain.specs.Times.{times}
use Rattle.chain.specs.Chain.{chain, Ends}

-- The chain from head i. A head that is not there counts as 0, and its chain has no row.
abbrev pub list : List ℕ → List ℕ → ℕ → List ℕ
list heads links i = chain (slice_index heads i ∷ links)

-- All the chains.
abbrev pub lists : List ℕ → List ℕ → List (List ℕ)
lists heads links = map (λ h. chain (h ∷ links)) heads

-- Every chain ends.
abbrev pub AllEnd : List ℕ → List ℕ → Type 0
AllEnd heads links = (i : ℕ) → Ends (slice_index heads i ∷ links)

-- Row n stands on chain i just as often as `on n i` says.
abbrev pub Stand : List ℕ → List ℕ → (ℕ → ℕ → ℕ) → Type 0
Stand heads links on = (i n : ℕ) → times n (list heads links i) ≡ on n i
