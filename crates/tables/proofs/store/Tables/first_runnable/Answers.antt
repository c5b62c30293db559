use Rattle.std.proofs.Common.{rules, sym, ◌∙◌}
use borrow.Author.Tests.{tests}
use Rattle.std.proofs.lemmas.Iterator.Adapters.{option_map_id}
use Rattle.std.proofs.lemmas.Iterator.Consumers.{YieldsList-from_first}
use Rattle.std.proofs.lemmas.Iterator.Search.{find_from_yields_List}
use Rattle.tables.specs.Running.{runnable}
use Rattle.tables.specs.View.{view}
use Rattle.tables.proofs.Runs.{sound}
use Rattle.tables.proofs.store.Tables.first_runnable.Goals as goal

pub returns : goal.returns
returns c =
    let tb = c.args.self.now in
    record {
      is = sym (option_map_id _) ∙ find_from_yields_List (runnable (view tb)) _ _ _ c.find.ensures.ran (YieldsList-from_first (λ x. x) (λ o. o) _ c.order.ensures) (λ x b q k. search (rules, tests));
      greatest = (sound tb.tasks tb.packets).greatest;
    }
