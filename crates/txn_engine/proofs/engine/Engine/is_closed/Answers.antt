use Rattle.std.proofs.Common.{sym, ◌∙◌}
use Rattle.txn_engine.proofs.Closing.{closed_at}
use Rattle.txn_engine.proofs.engine.Engine.is_closed.Goals as goal

pub returns-clause-value : goal.returns-clause-value
returns-clause-value c = c.is_closed.ensures ∙ sym (closed_at _ c.self.invariant _ c.self.view_is c.args.txn c.status.result c.status.ensures)
