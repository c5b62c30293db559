use Rattle.std.proofs.Common.{◌≡◌, take, string_bytes}
use Rattle.player.specs.Printed.{lines_text}
use Rattle.player.proofs.printed.Given as goal

-- the text of the lines that were written
abbrev pub invariant-loop-line : goal.invariant-loop-line
invariant-loop-line l = string_bytes l.page ≡ lines_text (take l.line-index l.line-items)
