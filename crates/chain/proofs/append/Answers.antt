use Rattle.std.proofs.Common.{◌∷◌, map, arith}
use Rattle.chain.proofs.Paths.{cut_last, cut_before, put_in, becomes_at}
use Rattle.chain.proofs.RowLinks.{place_row, row_place}
use Rattle.chain.proofs.append.Goals as goal

pub insert-requires : goal.insert-requires
insert-requires g c =
    let rows = c.args.rows.now in
    let links = c.args.head ∷ map g.R.Link.link rows in
    let cut = cut_last links _ c.requires.last c.requires.ends in
    record { before = place_row rows g.R.Link.link c.args.head _ (cut_before links _ _ _ _ cut (omega arith)); row = c.requires.row.1 }

pub returns : goal.returns
returns g c =
    let rows = c.args.rows.now in
    let links = c.args.head ∷ map g.R.Link.link rows in
    let cut = cut_last links _ c.requires.last c.requires.ends in
    let in_place = row_place rows g.R.Link.link c.args.head c.args.n c.requires.row.1 in
    record {
      becomes = becomes_at links _ _ _ _ c.insert.ensures.links (put_in links _ _ _ _ cut c.args.n c.requires.row.0 in_place c.requires.outside);
      kept = c.insert.ensures.kept;
    }
