use Rattle.std.proofs.Common.{refl, arith, take_all}
use Rattle.history.proofs.Turns.{replies_more, furnish_more}
use Rattle.history.proofs.make_creates.Goals as goal

pub loop-create-init : goal.loop-create-init
loop-create-init c =
    let room = c.in_ok-collected.ensures in
    (room.len, room.capacity, room.items, refl, take_all _ _)

pub loop-create-preserved : goal.loop-create-preserved
loop-create-preserved c =
    let inv = c.loop-create.invariant in
    let taken = c.loop-create-test.true in
    let created = c.create-reply.ensures in (
      omega arith,
      omega arith,
      replies_more _ _ _ (record { task = 0; priority = 0 }) _ _ _ taken inv.3 created _ _ inv.2 c.push_reserved.ensures.items,
      furnish_more _ _ _ (record { task = 0; priority = 0 }) _ _ _ taken inv.3 created,
      take_all _ _,
    )
