use Rattle.txn_board_tests.proofs.surely.sure_board.Given as goal

abbrev pub ghosts-decision_at : goal.ghosts-decision_at
ghosts-decision_at a = record { table = a.opened.table.shared.table_id; lists = a.opened.table.shared.key }
