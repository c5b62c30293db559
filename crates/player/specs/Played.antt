-- The lines that a script gives when a newly started kernel plays it.
use Rattle.std.specs.Prelude.{ℕ, List, [], ◌∷◌, ◌++◌, map, Some, None, Option}
use Rattle.std.specs.List.{zip}
use Rattle.calls.specs.declared.Answer.{Answer}
use Rattle.calls.specs.declared.Call.{Call}
use Rattle.tables.specs.State.{State}
use Rattle.tables.specs.Running.{running}
use Rattle.tables.specs.Moves.{fresh}
use Rattle.calls.specs.Steps.{start}
use Rattle.history.specs.declared.creations.Creation.{Creation}
use Rattle.history.specs.History.{replies, furnish, answers, after}
use Rattle.history.specs.Law.{Law}
use Rattle.player.specs.declared.lines.Line.{Line}
use Rattle.player.specs.declared.lines.Line.TheVariants.{Made, Bad}
use Rattle.player.specs.declared.records.BadRecord.{BadRecord}
use Rattle.player.specs.Parsed.{Reading, parsed}

-- task 1 at priority 100 and task 2 at priority 200
abbrev pub creates : List Creation
creates = record { task = 1; priority = 100 } ∷ record { task = 2; priority = 200 } ∷ []

unfoldable pub opening : State
opening = start (furnish fresh creates)

-- the law over histories, of the history that these calls make and the state that they leave
abbrev pub Lawfully : List Call → State → Type 0
Lawfully calls left = Law creates (replies fresh creates) calls (answers opening calls) left

abbrev pub answer_line : Call × Answer → Line
answer_line pair = Made pair.0 pair.1

abbrev pub fault_line : BadRecord → ℕ → Line
fault_line bad task = Bad bad task

abbrev pub last_line : Option BadRecord → ℕ → List Line
last_line None task = []
last_line (Some bad) task = fault_line bad task ∷ []

-- the lines of a script that was read
abbrev pub lines_of : Reading → List Line
lines_of script =
    map answer_line (zip script.0 (answers opening script.0)) ++ last_line script.1 (running (after opening script.0))

abbrev pub played : List ℕ → List Line
played bs = lines_of (parsed bs)
