use Rattle.std.proofs.Common.{◌≤◌, ◌-◌}
use Rattle.txn_board_tests.specs.Sure.{Rests}
use Rattle.txn_board_tests.specs.Taken.{ended_up_to}
use Rattle.txn_board_tests.proofs.threads.take_part.Given as goal

abbrev pub invariant-loop-ended : goal.invariant-loop-ended
invariant-loop-ended g l = (l.ended ≤ l.fn.count) × Rests 1 (ended_up_to l.ended) l.seat

abbrev pub decreases-loop-ended : goal.decreases-loop-ended
decreases-loop-ended g l = l.fn.count - l.ended
