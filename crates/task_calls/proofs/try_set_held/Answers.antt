use Rattle.std.proofs.Common.{rules, true, false}
use Rattle.std.specs.Bool.{if◌then◌else◌}
use Rattle.tables.specs.View.{view}
use Rattle.calls.specs.declared.Call.TheVariants.{Hold, Release}
use Rattle.calls.specs.Steps.{Comes}
use Rattle.task_calls.proofs.try_set_held.Goals as goal

pub returns-in_err-t : goal.returns-in_err-t
returns-in_err-t c =
    let s = view c.args.tables.now in
    elim c.args.held as (λ b. Comes s (if b then Hold c.args.task else Release c.args.task) c.from_residual.result s) [
      | true ↦ search rules
      | false ↦ search rules
    ]
