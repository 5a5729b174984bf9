use Rattle.txn_tests.proofs.tests.logs.coordinator_stays_where_a_step_is_refused.Given as goal

abbrev pub ghosts-three_steps : goal.ghosts-three_steps
ghosts-three_steps g a = record { name = a.blank.name; parts = a.blank.parts }
