use Rattle.tables.proofs.Runs.{sound}
use Rattle.tables.proofs.laws.tables_are_sound.Goals as goal

pub returns : goal.returns
returns c = sound
