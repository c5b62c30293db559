use Rattle.std.proofs.Common.{◌≡◌, ◌-◌}
use Rattle.packets.specs.View.{view}
use Rattle.packets.proofs.Start.{stocked}
use Rattle.packets.proofs.table.PacketTable.free_all.Given as goal

abbrev pub invariant-loop-n : goal.invariant-loop-n
invariant-loop-n l = view l.self ≡ stocked (l.n - 1)
