use Rattle.std.proofs.Common.{◌≡◌, length, vec_items}
use Rattle.player.specs.Parsed.{parsed}
use Rattle.player.proofs.Parsing.{joined}
use Rattle.player.proofs.scripts.parse.Given as goal

abbrev pub invariant-loop-rest : goal.invariant-loop-rest
invariant-loop-rest l = joined (vec_items l.calls) (parsed l.rest) ≡ parsed l.bytes

abbrev pub decreases-loop-rest : goal.decreases-loop-rest
decreases-loop-rest l = length l.rest
