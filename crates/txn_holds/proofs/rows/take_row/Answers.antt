use Rattle.indexmap.specs.IndexMap.{get}
use Rattle.txn_holds.specs.Rows.{same_key}
use Rattle.txn_holds.proofs.Keys.{row_gone}
use Rattle.txn_holds.proofs.rows.take_row.Goals as goal

pub returns-clause-rows : goal.returns-clause-rows
returns-clause-rows c = row_gone (get same_key c.args.rows.now) (get same_key c.swap_remove.new.self) c.args.txn c.swap_remove.ensures.updates.0
