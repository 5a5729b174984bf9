use Rattle.txn_tests.proofs.tests.topics.ledgers_stop_being_lawful.Given as goal

abbrev pub ghosts-three_steps : goal.ghosts-three_steps
ghosts-three_steps g a = record { name = a.blank.name; parts = a.blank.parts }
