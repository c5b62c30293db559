use Rattle.std.proofs.Common.{◌∙◌, length-set}
use Rattle.packets.proofs.Moves.{put_written}
use Rattle.packets.proofs.table.PacketTable.enlist.Goals as goal

pub invariant_of-self : goal.invariant_of-self
invariant_of-self c =
    let t = c.args.self.now in
    let e = c.put_last.ensures in
    let i = c.index-i.ensures in
    let n = c.get-n.ensures in
    let p = put_written t c.put_last.new.rows _ _ _ _ _ _ c.args.to i.is i.bound n.is n.row c.requires.head c.requires.off c.requires.on c.put_last.auto.rows e.kept e.becomes in
    record {
      sized = (length-set c.put_last.new.rows _ _ ∙ c.put_last.auto.rows ∙ t.sized.0, length-set t.heads _ _ ∙ t.sized.1);
      ends = p.0;
      placed = p.1;
    }

pub returns : goal.returns
returns c =
    let e = c.put_last.ensures in
    let i = c.index-i.ensures in
    let n = c.get-n.ensures in
    (put_written c.args.self.now c.put_last.new.rows _ _ _ _ _ _ c.args.to i.is i.bound n.is n.row c.requires.head c.requires.off c.requires.on c.put_last.auto.rows e.kept e.becomes).2
