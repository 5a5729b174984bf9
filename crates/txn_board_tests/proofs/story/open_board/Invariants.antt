use Rattle.txn_board_tests.proofs.story.open_board.Given as goal

abbrev pub ghosts-with_board : goal.ghosts-with_board
ghosts-with_board a = record { table = a.opened.table.shared.table_id; lists = a.opened.table.shared.key }
