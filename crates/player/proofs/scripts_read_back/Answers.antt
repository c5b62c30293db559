use Rattle.player.proofs.Encoding.{reads_back}
use Rattle.player.proofs.scripts_read_back.Goals as goal

pub returns : goal.returns
returns c = reads_back
