use Rattle.std.proofs.Common.{rules, ◌∙◌, sym}
use borrow.Author.Tests.{tests}
use Rattle.std.proofs.lemmas.Iterator.{YieldsList-from_slice}
use Rattle.std.proofs.lemmas.Iterator.Search.{any_from_yields_List}
use Rattle.packets.specs.Places.{involves}
use Rattle.packets.proofs.Moves.{any_held}
use Rattle.packets.proofs.table.PacketTable.involves.Goals as goal

pub returns : goal.returns
returns c =
    let rows = c.args.self.now.rows in
    any_from_yields_List (λ r. involves c.args.t r.item) _ _ _ c.any.ensures.ran (YieldsList-from_slice rows c.iter.ensures.rest) (λ x b q k. search (rules, tests)) ∙ sym (any_held (involves c.args.t) rows)
