use Rattle.txn_board_tests.proofs.openings.low_three.Given as goal

abbrev pub ghosts-ask : goal.ghosts-ask
ghosts-ask a = record { table = a.opened.table.shared.table_id; lists = a.opened.table.shared.key }
