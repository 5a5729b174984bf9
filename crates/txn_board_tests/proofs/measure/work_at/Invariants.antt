use Rattle.std.proofs.Common.{◌≡◌, []}
use Rattle.txn_board_tests.proofs.measure.work_at.Given as goal

abbrev pub invariant-loop-txn : goal.invariant-loop-txn
invariant-loop-txn g l = l.first.rows ≡ []
