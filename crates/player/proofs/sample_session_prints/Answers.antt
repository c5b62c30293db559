use Rattle.std.proofs.Common.{refl}
use Rattle.std.specs.Fmt.{digits}
use Rattle.player.specs.Parsed.{parsed_within}
use Rattle.player.specs.Played.{opening}
use Rattle.player.proofs.sample_session_prints.Goals as goal

pub returns : goal.returns
unfolding parsed_within opening digits
returns c = record { created = refl; prints = refl }
