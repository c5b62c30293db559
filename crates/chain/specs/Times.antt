-- How often a number stands in a list. It stands there if that is not 0, and once if that is 1.
use Rattle.std.specs.Prelude.{ℕ, ◌+◌, cond, List, [], ◌∷◌, ◌==◌}

-- 1 if the two are the same number, else 0
abbrev pub hit : ℕ → ℕ → ℕ
hit x n = cond (x == n) 1 0

abbrev pub times : ℕ → List ℕ → ℕ
times n [] = 0
times n (x ∷ xs) = hit x n + times n xs
