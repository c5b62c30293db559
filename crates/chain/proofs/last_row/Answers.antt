use Rattle.std.proofs.Common.{None, ap, ◌∙◌}
use Rattle.std.specs.Option.{unwrap_or}
use Rattle.std.proofs.lemmas.Iterator.Consumers.{YieldsList-from_first}
use Rattle.chain.specs.Chain.{last}
use Rattle.chain.proofs.Walks.{last_is, all_of}
use Rattle.chain.proofs.last_row.Goals as goal

pub returns : goal.returns
returns g c =
    let ran = c.last.ensures.ran in
    let all = all_of ran.0 ran.1 (YieldsList-from_first (λ x. x) (λ w. w) _ c.new.ensures) in
    c.unwrap_or.ensures ∙ ap (λ o. unwrap_or o 0) ran.2 ∙ last_is None ran.0 ∙ ap (last 0) all
