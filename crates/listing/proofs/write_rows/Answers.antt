use Rattle.std.proofs.Common.{length, ap, ◌∙◌, inl, arith}
use Rattle.tables.specs.View.{view}
use Rattle.listing.proofs.Rows.{order_room, none_written, room, row_written}
use Rattle.listing.proofs.write_rows.Goals as goal

pub loop-i-init : goal.loop-i-init
loop-i-init c =
    let same = c.into_iter-i-iterator.ensures.into_iter_gives in
    let none = ap (λ e. e.count) same ∙ c.enumerate-i-items.ensures.count in
    let all = ap (λ e. e.iter) same ∙ c.enumerate-i-items.ensures.source ∙ c.order.ensures in
    let few = order_room c.args.tables.now in
    ((tt, tt, inl (omega (arith, none, ap length all, few))), tt, none_written (view c.args.tables.now) c.args.rows.now _ _ all none)

pub bounds-rows-i : goal.bounds-rows-i
bounds-rows-i c =
    let steps = c.in-Some.ensures.steps in
    let r = room _ _ _ _ _ c.loop-i.invariant.2 in
    omega (arith, r, ap length steps.0, steps.1, order_room c.args.tables.now, c.requires, c.loop-i.auto.rows)

pub loop-i-preserved : goal.loop-i-preserved
loop-i-preserved c =
    let steps = c.in-Some.ensures.steps in
    let few = order_room c.args.tables.now in
    let r = room _ _ _ _ _ c.loop-i.invariant.2 in
    let left = ap length steps.0 in
    let w = c.loop-i.invariant.2 in
    ((tt, tt, inl (omega (arith, r, left, steps.2, few))), tt, row_written _ _ _ _ _ w _ _ steps.0 (omega (arith, r, left, few, c.requires)) _ _ _ steps.1 steps.2 c.row_of.ensures)

pub overflow_cast-result : goal.overflow_cast-result
overflow_cast-result c = let e = ap length c.order-2.ensures in let bound = c.count.ensures.bound in omega (arith, e, bound, order_room c.args.tables.now)
