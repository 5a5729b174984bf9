use Rattle.std.proofs.Common.{◌≡◌, length}
use Rattle.txn_board_tests.proofs.openings.begin.Given as goal

abbrev pub invariant-loop-txn : goal.invariant-loop-txn
invariant-loop-txn l = length l.lists ≡ length l.fn.lists
