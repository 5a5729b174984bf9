use Rattle.txn_table.proofs.Laws.{next_fits, next_allowed}
use Rattle.txn_coordinator.proofs.replay.apply_all.Goals as goal

pub apply-requires-clause-fits : goal.apply-requires-clause-fits
apply-requires-clause-fits c = next_fits c.args.table.now.front _ _ _ c.requires.entries.entries c.loop-entry-test.true

pub apply-requires-clause-allowed : goal.apply-requires-clause-allowed
apply-requires-clause-allowed c = next_allowed c.args.table.now.front c.args.staged.now _ _ _ c.requires.entries c.loop-entry-test.true c.loop-entry.invariant.front
