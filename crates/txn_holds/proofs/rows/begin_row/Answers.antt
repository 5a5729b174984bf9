use Rattle.std.proofs.Common.{rules}
use Rattle.indexmap.specs.IndexMap.{get}
use Rattle.txn_holds.specs.Rows.{same_key}
use Rattle.txn_holds.proofs.Keys.{begun}
use Rattle.txn_holds.proofs.rows.begin_row.Goals as goal

pub returns-in-Ok-clause-rows : goal.returns-in-Ok-clause-rows
returns-in-Ok-clause-rows c = begun (get same_key c.args.rows.now) (get same_key c.insert.new.self) c.args.key (λ k. search rules) (search rules)
