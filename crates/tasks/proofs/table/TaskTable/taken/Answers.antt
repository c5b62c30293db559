use Rattle.std.proofs.Common.{◌∙◌, ◌+◌, rules}
use borrow.Author.Tests.{tests}
use Rattle.std.proofs.lemmas.Iterator.{YieldsList-from_slice}
use Rattle.std.proofs.lemmas.Iterator.Consumers.{YieldsList-at, YieldsList-from_enumerate}
use Rattle.std.proofs.lemmas.Iterator.Search.{any_from_yields_List}
use Rattle.tasks.specs.Use.{other_has}
use Rattle.tasks.proofs.Links.{held}
use Rattle.tasks.proofs.Others.{others_any}
use Rattle.tasks.proofs.table.TaskTable.taken.Goals as goal

pub returns : goal.returns
returns c =
    let t = c.args.t in
    let p = c.args.priority in
    let rows = c.args.self.now.rows in
    any_from_yields_List (λ r. other_has (r.0 + 1) (held r.1) t p) _ _ _ c.any.ensures.ran
    (YieldsList-from_enumerate (YieldsList-at c.enumerate.ensures.source (YieldsList-from_slice rows c.iter.ensures.rest)) c.enumerate.ensures.count)
    (λ x b q k. search (rules, tests)) ∙
    others_any 0 rows t p
