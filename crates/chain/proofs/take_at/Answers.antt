use Rattle.std.proofs.Common.{◌≢◌, ◌∷◌, map, ap, ◌∙◌, arith}
use Rattle.chain.specs.Chain.{next}
use Rattle.chain.proofs.Paths.{cut_before, cut_on, take_out, take_loose, becomes_at}
use Rattle.chain.proofs.RowLinks.{place_row}
use Rattle.chain.proofs.take_at.Goals as goal

pub remove-requires : goal.remove-requires
remove-requires g c =
    let rows = c.args.rows.now in
    let links = c.args.head ∷ map g.R.Link.link rows in
    let at = c.requires.place in
    let o = cut_on links _ _ _ _ at.cut (λ e. omega (arith, e, at.row)) in
    record {
      before = place_row rows g.R.Link.link c.args.head _ (cut_before links _ _ _ _ at.cut (omega arith));
      row = omega (arith, at.cut.at_is, place_row rows g.R.Link.link c.args.head _ o.row.1);
    }

pub returns : goal.returns
returns g c =
    let links = c.args.head ∷ map g.R.Link.link c.args.rows.now in
    let at = c.requires.place in
    let some : c.args.n ≢ 0 = λ e. omega (arith, e, at.row) in
    let is = c.remove.ensures.links in
    record {
      becomes = becomes_at links _ _ _ _ is (take_out links _ _ _ _ at.cut some (omega arith));
      loose = ap (λ z. next z c.args.n) is ∙ take_loose links _ _ _ _ at.cut (cut_on links _ _ _ _ at.cut some).row.1;
      kept = c.remove.ensures.kept;
    }
