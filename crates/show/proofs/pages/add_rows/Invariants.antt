use Rattle.std.proofs.Common.{◌≡◌, ◌++◌, take, string_bytes}
use Rattle.std.specs.List.{flat_map}
use Rattle.show.specs.Shown.{row_line}
use Rattle.show.proofs.pages.add_rows.Given as goal

-- the lines of the rows that were written
abbrev pub invariant-loop-row : goal.invariant-loop-row
invariant-loop-row l = string_bytes l.page ≡ string_bytes l.fn.page ++ flat_map row_line (take l.row-index l.rows)
