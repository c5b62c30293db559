use Rattle.std.proofs.Common.{ap, ◌∙◌, arith}
use Rattle.chain.proofs.RowLinks.{links-set, map_kept}
use Rattle.chain.proofs.lead.Goals as goal

pub returns : goal.returns
returns g c =
    let m = g.R.Link in
    let laws = g.met.R.Link in
    let rows = c.args.rows.now in
    let e = c.set_next.ensures in
    record {
      links = links-set rows m.link c.args.head c.args.n c.args.to _ (omega arith) (ap m.link e ∙ laws.reads _ _);
      kept = map_kept rows (λ x. m.relinked x 0) _ _ _ (ap (λ x. m.relinked x 0) e ∙ laws.again _ _ _);
    }
