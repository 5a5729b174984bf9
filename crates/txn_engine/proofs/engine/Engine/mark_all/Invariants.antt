use Rattle.std.proofs.Common.{◌-◌, length}
use Rattle.txn_engine.proofs.MarkLoop.{MarksUpTo}
use Rattle.txn_engine.proofs.engine.Engine.mark_all.Given as goal

abbrev pub invariant-loop-at : goal.invariant-loop-at
invariant-loop-at g l = MarksUpTo g.D.Disk l.txn l.decision l.fn.self l.self l.fn.disk l.disk l.at

abbrev pub decreases-loop-at : goal.decreases-loop-at
decreases-loop-at g l = length l.self.topics - l.at
