use Rattle.effects.proofs.Told.{calls_do_as_told}
use Rattle.effects.proofs.calls_do_as_told.Goals as goal

pub returns : goal.returns
returns c = calls_do_as_told
