use Rattle.std.proofs.Common.{◌≡◌, ℕ, List, ◌∷◌, ◌++◌, map}
use Rattle.chain.specs.Chain.{chain, last}
use Rattle.chain.proofs.Ranks.{Past}
use Rattle.chain.proofs.find_place.Given as goal

-- the rows passed so far, and the last of them
abbrev pub invariant-loop-at : goal.invariant-loop-at
invariant-loop-at g l = (front : List ℕ) × (front ++ l.at-iterator ≡ chain (l.head ∷ map g.R.Link.link l.rows)) × (l.before ≡ last 0 front) × Past (map g.R.Ranked.key l.rows) l.n front
