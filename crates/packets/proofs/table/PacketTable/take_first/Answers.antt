use Rattle.std.proofs.Common.{rules, sym, ◌∙◌, subst, ◌≡◌, true, length-set}
use Rattle.packets.specs.View.{view, filled, list}
use Rattle.packets.proofs.Moves.{take_ends, take_placed}
use Rattle.packets.proofs.table.PacketTable.take_first.Goals as goal

pub invariant_of-self : goal.invariant_of-self
invariant_of-self c =
    let t = c.args.self.now in
    let e = c.take_first.ensures in
    let len = c.take_first.auto.rows in
    let at = c.index-i.ensures in
    let some : filled (list (view t) c.index-i.result) ≡ true = subst (λ i. filled (list (view t) i) ≡ true) (sym at.is) c.requires.some in
    record {
      sized = (length-set c.take_first.new.rows _ _ ∙ len ∙ t.sized.0, length-set t.heads _ _ ∙ t.sized.1);
      ends = take_ends t c.take_first.new.rows _ _ _ len at.bound some (search rules) e.kept e.becomes;
      placed = take_placed t c.take_first.new.rows _ _ _ len at.bound some (search rules) e.kept e.becomes;
    }
