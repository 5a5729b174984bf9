use Rattle.txn_board_tests.proofs.fresh.turned_answers.Given as goal

abbrev pub ghosts-ask_turned : goal.ghosts-ask_turned
ghosts-ask_turned a = record { table = a.opened.table.shared.table_id; lists = a.opened.table.shared.key }
