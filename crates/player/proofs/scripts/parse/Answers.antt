use Rattle.std.proofs.Common.{rules}
use Rattle.player.proofs.Decoding.{shorter}
use Rattle.player.proofs.Parsing.{ends, fails, goes}
use Rattle.player.proofs.scripts.parse.Goals as goal

pub loop-rest-smaller : goal.loop-rest-smaller
loop-rest-smaller c = shorter c.loop-rest.rest.now c.in-Ok.more.now c.in-Ok.call (search rules)

pub loop-rest-preserved : goal.loop-rest-preserved
loop-rest-preserved c =
    goes _ _ _ c.loop-rest.rest.now c.in-Ok.more.now c.in-Ok.call c.loop-rest.invariant (search rules) c.in_ok-push-in-Ok.ensures.items

pub returns-in-Err : goal.returns-in-Err
returns-in-Err c = fails _ _ c.loop-rest.rest.now c.in-Err.bad c.loop-rest.invariant (search rules) (search rules)

pub returns : goal.returns
returns c = ends _ _ c.loop-rest.rest.now c.loop-rest.invariant (search rules)
