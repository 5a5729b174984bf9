use Rattle.std.proofs.Common.{length, ◌-◌}
use Rattle.txn_table.specs.Table.{IsPassed}
use Rattle.txn_table.proofs.row.passed.Given as goal

abbrev pub invariant-loop-at : goal.invariant-loop-at
invariant-loop-at l = IsPassed l.rows l.at

abbrev pub decreases-loop-at : goal.decreases-loop-at
decreases-loop-at l = length l.rows - l.at
