use Rattle.std.proofs.Common.{arith, refl}
use Rattle.txn_records.proofs.EndLists.{ascends}
use Rattle.txn_records.proofs.ends.is_ascending.Goals as goal

pub returns : goal.returns
returns c = ((λ _. ascends c.args.ends.now (λ k d below. c.loop-i.invariant k d (omega arith))), (λ _. refl))
