use Rattle.std.proofs.Common.{map, refl, arith}
use lib.ListN.{length-map}
use Rattle.chain.proofs.Walks.{along}
use Rattle.chain.proofs.walk.row_after.Goals as goal

pub follower-requires : goal.follower-requires
follower-requires g c =
    let rows = c.args.rows.now in
    let a = along (map g.R.Link.link rows) c.args.n _ c.requires.ends (λ e. omega (arith, e, c.requires.some)) refl in
    omega (arith, a.row.1, length-map rows g.R.Link.link)

pub returns : goal.returns
returns g c =
    let a = along (map g.R.Link.link c.args.rows.now) c.args.n _ c.requires.ends (λ e. omega (arith, e, c.requires.some)) c.follower.ensures in
    record { is = a.is; ends = a.ends }
