use Rattle.std.proofs.Common.{◌++◌}
use Rattle.txn_table.specs.Table.{AreEntries}
use Rattle.txn_table_tests.proofs.logs.stage_all.Given as goal

abbrev pub invariant-loop : goal.invariant-loop
invariant-loop l = AreEntries (l.table.front ++ l.ahead.items)
