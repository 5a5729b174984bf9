use Rattle.txn_board_tests.proofs.measure.measure.Given as goal

abbrev pub ghosts-work_at : goal.ghosts-work_at
ghosts-work_at g a = record { table = a.opened.table.shared.table_id; lists = a.opened.table.shared.key }
