-- Ranks of what may be nothing.
use Rattle.std.specs.Prelude.{ℕ, Some, None, Option}

abbrev pub rank_or_none : {T : Type 0} → (T → ℕ) → Option T → ℕ
rank_or_none key (Some x) = key x
rank_or_none key None = 0
