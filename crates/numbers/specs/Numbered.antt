-- Which words are numbers from 1 to the last.
use Rattle.std.specs.Prelude.{◌≡◌, ◌↔◌, ℕ, Result, IfOk, IsOk}
use Rattle.chain.specs.Chain.{Row}

-- A word that is such a number is read as it, and any other word is refused.
pub record Numbers {E : Type 0} (last word : ℕ) (r : Result ℕ E) : Type 0 where
  pub is : IfOk r (λ n. n ≡ word)
  pub when : IsOk r ↔ Row last word
