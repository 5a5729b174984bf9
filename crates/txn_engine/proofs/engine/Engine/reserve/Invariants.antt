use Rattle.std.proofs.Common.{◌-◌, length}
use Rattle.txn_engine.proofs.Reserved.{ReservesUpTo}
use Rattle.txn_engine.proofs.engine.Engine.reserve.Given as goal

abbrev pub invariant-loop-at : goal.invariant-loop-at
invariant-loop-at l = ReservesUpTo l.fn.txn l.fn.self l.self l.at

abbrev pub decreases-loop-at : goal.decreases-loop-at
decreases-loop-at l = length l.self.topics - l.at
