use Rattle.std.proofs.Common.{◌++◌, take}
use Rattle.txn_table.specs.Table.{IsRowOf}
use Rattle.txn_table.proofs.ahead.row_ahead.Given as goal

abbrev pub invariant-loop-entry : goal.invariant-loop-entry
invariant-loop-entry l = IsRowOf (l.table.front ++ take l.entry-index l.ahead) l.txn l.row
