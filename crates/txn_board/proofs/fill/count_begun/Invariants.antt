use Rattle.std.proofs.Common.{◌≡◌, ◌+◌, ◌≤◌, length}
use Rattle.txn_model.specs.Coord.{count_new}
use Rattle.txn_board.proofs.fill.count_begun.Given as goal

abbrev pub invariant-loop-entry : goal.invariant-loop-entry
invariant-loop-entry l = (l.count + count_new l.rest ≡ count_new l.fn.log) × (l.count + length l.rest ≤ length l.fn.log)

abbrev pub decreases-loop-entry : goal.decreases-loop-entry
decreases-loop-entry l = length l.rest
