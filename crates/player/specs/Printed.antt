-- The text of a played script: a line's four numbers in decimal, parted by blanks and ended by a line feed.
use Rattle.std.specs.Prelude.{ℕ, List, ◌++◌, codes, decimal}
use Rattle.std.specs.List.{flat_map}
use Rattle.calls.specs.Numbers.{call_code, refusal_of, value_of}
use Rattle.player.specs.declared.lines.Line.{Line}
use Rattle.player.specs.declared.lines.Line.TheVariants.{Made, Bad}
use Rattle.player.specs.Decoded.{fault_number}
use Rattle.player.specs.Played.{played}

-- a code or 0, a refusal or 0, a value or 0, and the task that runs then
abbrev pub numbers_text : ℕ → ℕ → ℕ → ℕ → List ℕ
numbers_text code refusal value task =
    decimal code ++ (codes " " ++ (decimal refusal ++ (codes " " ++ (decimal value ++ (codes " " ++ decimal task)))))

abbrev pub line_text : Line → List ℕ
line_text (Made call answer) =
    numbers_text (call_code call) (refusal_of answer.outcome) (value_of answer.outcome) answer.running
line_text (Bad fault task) = numbers_text 0 (fault_number fault) 0 task

abbrev pub ended_line : Line → List ℕ
ended_line l = line_text l ++ codes "\n"

abbrev pub lines_text : List Line → List ℕ
lines_text ls = flat_map ended_line ls

abbrev pub text : List ℕ → List ℕ
text bs = lines_text (played bs)
