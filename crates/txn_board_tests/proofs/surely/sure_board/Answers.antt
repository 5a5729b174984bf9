use Rattle.txn_board_tests.proofs.Shown.{lawful, fits}
use Rattle.txn_board_tests.proofs.surely.sure_board.Goals as goal

pub of_lists-requires-clause-lawful : goal.of_lists-requires-clause-lawful
of_lists-requires-clause-lawful c = λ p. lawful c.in_ok-lists.lists c.in_ok-lists.ensures

pub of_lists-requires-clause-window : goal.of_lists-requires-clause-window
of_lists-requires-clause-window c = λ p. fits c.in_ok-lists.lists c.in_ok-lists.ensures
