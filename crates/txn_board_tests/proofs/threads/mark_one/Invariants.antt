use Rattle.txn_board_tests.specs.Sure.{Rests}
use Rattle.txn_board_tests.specs.Taken.{sent_up_to}
use Rattle.txn_board_tests.proofs.threads.mark_one.Given as goal

abbrev pub invariant-loop : goal.invariant-loop
invariant-loop g l = Rests 1 (sent_up_to l.fn.txn) l.seat
