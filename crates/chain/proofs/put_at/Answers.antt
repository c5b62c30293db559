use Rattle.std.proofs.Common.{◌≡◌, ◌∷◌, ◌++◌, map, sym, ap, ◌∙◌, arith}
use Rattle.chain.specs.Chain.{chain, by_rank}
use Rattle.chain.proofs.Paths.{cut_chain, cut_before, put_in, becomes_at, becomes_list}
use Rattle.chain.proofs.RowLinks.{place_row, row_place}
use Rattle.chain.proofs.put_at.Goals as goal

pub insert-requires : goal.insert-requires
insert-requires g c =
    let rows = c.args.rows.now in
    let links = c.args.head ∷ map g.R.Link.link rows in
    let at = c.requires.place in
    record { before = place_row rows g.R.Link.link c.args.head _ (cut_before links _ _ _ _ at.cut (omega arith)); row = c.requires.row.1 }

pub returns : goal.returns
returns g c =
    let rows = c.args.rows.now in
    let n = c.args.n in
    let links = c.args.head ∷ map g.R.Link.link rows in
    let ranks = map g.R.Ranked.key rows in
    let at = c.requires.place in
    let in_place = row_place rows g.R.Link.link c.args.head n c.requires.row.1 in
    let is : at.front ++ (n ∷ at.back) ≡ by_rank ranks n (chain links) = sym (ap (by_rank ranks n) (cut_chain links _ _ _ _ at.cut).0 ∙ at.put) in
    let put = put_in links _ _ _ _ at.cut n c.requires.row.0 in_place c.requires.outside in
    record {
      becomes = becomes_at links _ _ _ _ c.insert.ensures.links (becomes_list links _ _ _ _ is put);
      kept = c.insert.ensures.kept;
    }
