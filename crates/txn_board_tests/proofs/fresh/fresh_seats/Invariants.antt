use Rattle.txn_board_tests.proofs.fresh.fresh_seats.Given as goal

abbrev pub ghosts-ask_fresh : goal.ghosts-ask_fresh
ghosts-ask_fresh a = record { table = a.opened.table.shared.table_id; lists = a.opened.table.shared.key }
