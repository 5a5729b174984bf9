use Rattle.txn_tests.proofs.tests.logs.each_status_is_replayed.Given as goal

abbrev pub ghosts-replayed : goal.ghosts-replayed
ghosts-replayed g a = record { name = a.blank.name; parts = a.blank.parts }
