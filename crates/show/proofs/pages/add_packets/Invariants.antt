use Rattle.std.proofs.Common.{◌≡◌, ◌++◌, ◌-◌, ◌<◌, string_bytes}
use Rattle.kernel.specs.View.{state}
use Rattle.show.specs.Shown.{packet_lines}
use Rattle.show.proofs.pages.add_packets.Given as goal

-- the lines of the packets before n
abbrev pub invariant-loop-n : goal.invariant-loop-n
invariant-loop-n l = (0 < l.n) × (string_bytes l.page ≡ string_bytes l.fn.page ++ packet_lines (state l.fn.kernel) (l.n - 1))
