use Rattle.std.proofs.Common.{rules, None, map, ◌∷◌, sym, ap, ◌∙◌, subst}
use borrow.Author.Tests.{tests}
use Rattle.std.specs.Option.{unwrap_or}
use Rattle.std.proofs.lemmas.Iterator.Consumers.{YieldsList-from_first, YieldsList-at}
use Rattle.std.proofs.lemmas.Iterator.Search.{YieldsList-from_take_while}
use Rattle.chain.specs.Chain.{last, Before}
use Rattle.chain.proofs.Walks.{last_is, all_of, before_n, before_is}
use Rattle.chain.proofs.row_before.Goals as goal

pub returns : goal.returns
returns g c =
    let links = c.args.head ∷ map g.R.Link.link c.args.rows.now in
    let take_while = c.take_while.ensures in
    let ran = c.last.ensures.ran in
    let all =
    all_of ran.0 ran.1
    (YieldsList-from_take_while _ (before_n c.args.n) (YieldsList-at take_while.source (YieldsList-from_first (λ x. x) (λ w. w) _ c.new.ensures)) take_while.closure take_while.done (λ x b q k. search (rules, tests))) in
    let is = c.unwrap_or.ensures ∙ ap (λ o. unwrap_or o 0) ran.2 ∙ last_is None ran.0 ∙ ap (last 0) all in
    subst (Before links c.args.n) (sym is) (before_is links c.args.n c.requires.ends c.requires.inside)
