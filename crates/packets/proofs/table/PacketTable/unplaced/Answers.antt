use Rattle.std.proofs.Common.{refl}
use Rattle.packets.proofs.Start.{start, start_ends, start_placed}
use Rattle.packets.proofs.table.PacketTable.unplaced.Goals as goal

pub invariant_of-result : goal.invariant_of-result
invariant_of-result c =
    record { sized = (refl, refl); ends = start_ends c.blank.result; placed = start_placed _ c.blank.ensures }

pub returns : goal.returns
returns c = start _ c.blank.ensures
