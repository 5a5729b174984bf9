use Rattle.txn_board_tests.proofs.threads.parts_and_readers_share_a_board.Given as goal

abbrev pub ghosts-work : goal.ghosts-work
ghosts-work g a = record { table = a.opened.table.shared.table_id; lists = a.opened.table.shared.key }
