-- What a listing is answered.
use Rattle.std.specs.Prelude.{ℕ, List, Some, None, Ok, Err, Option, Result}
use Rattle.tables.specs.State.{State}
use Rattle.listing.specs.declared.Listed.{Listed}
use Rattle.listing.specs.Listed.{list_count}
use Rattle.calls.specs.declared.Refusal.{Refusal}
use Rattle.calls.specs.declared.Refusal.TheVariants.{TooFewRows}

abbrev pub counted : Option ℕ → Result ℕ Refusal
counted (Some n) = Ok n
counted None = Err TooFewRows

-- How many tasks were listed, or that there are too few rows.
abbrev pub list_answer : State → List Listed → Result ℕ Refusal
list_answer s rows = counted (list_count s rows)
