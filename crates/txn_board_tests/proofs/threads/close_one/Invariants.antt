use Rattle.txn_board_tests.specs.Sure.{Rests}
use Rattle.txn_board_tests.specs.Taken.{closed_up_to}
use Rattle.txn_board_tests.proofs.threads.close_one.Given as goal

abbrev pub invariant-loop : goal.invariant-loop
invariant-loop g l = Rests 0 (closed_up_to l.fn.count l.fn.txn) l.seat
