use Rattle.txn_tests.proofs.tests.openings.told.Given as goal

abbrev pub ghosts-opened : goal.ghosts-opened
ghosts-opened a = record { name = a.blank.name; parts = a.blank.parts }
