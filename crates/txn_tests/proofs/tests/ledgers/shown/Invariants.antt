use Rattle.txn_tests.proofs.tests.ledgers.shown.Given as goal

abbrev pub ghosts-opened_record : goal.ghosts-opened_record
ghosts-opened_record a = record { name = a.blank.name; parts = a.blank.parts }
