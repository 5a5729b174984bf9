use Rattle.txn_table.proofs.Following.{next_fits, ahead_more}
use Rattle.txn_table.proofs.ahead.row_ahead.Goals as goal

pub row_with-row-requires : goal.row_with-row-requires
row_with-row-requires c = next_fits c.args.table.now.front _ _ _ c.requires.entries c.loop-entry-test.true

pub loop-entry-preserved : goal.loop-entry-preserved
loop-entry-preserved c = ahead_more c.args.table.now.front c.args.ahead.now _ _ _ c.loop-entry.row _ c.requires c.loop-entry-test.true c.row_with-row.ensures c.loop-entry.invariant
