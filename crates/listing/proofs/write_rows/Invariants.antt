use Rattle.tables.specs.View.{view}
use Rattle.listing.proofs.Rows.{Written}
use Rattle.listing.proofs.write_rows.Given as goal

abbrev pub invariant-loop-i : goal.invariant-loop-i
invariant-loop-i l =
    (goal.iterator-loop-i).can_next l.i-iterator × (goal.iterator-loop-i).is_finite l.i-iterator
    × Written (view l.tables) l.initial.rows l.rows l.i-iterator.iter l.i-iterator.count
