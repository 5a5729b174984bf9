use Rattle.std.proofs.Common.{◌≤◌, ◌-◌}
use Rattle.txn_board_tests.specs.Sure.{Rests}
use Rattle.txn_board_tests.specs.Taken.{decided_up_to, closed_up_to}
use Rattle.txn_board_tests.proofs.threads.coordinate.Given as goal

abbrev pub invariant-loop-begun : goal.invariant-loop-begun
invariant-loop-begun g l = (l.begun ≤ l.fn.count) × Rests 0 (decided_up_to l.begun) l.seat

abbrev pub decreases-loop-begun : goal.decreases-loop-begun
decreases-loop-begun g l = l.fn.count - l.begun

abbrev pub invariant-loop-closed : goal.invariant-loop-closed
invariant-loop-closed g l = (l.closed ≤ l.fn.count) × Rests 0 (closed_up_to l.fn.count l.closed) l.seat

abbrev pub decreases-loop-closed : goal.decreases-loop-closed
decreases-loop-closed g l = l.fn.count - l.closed
