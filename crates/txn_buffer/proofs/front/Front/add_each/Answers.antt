use Rattle.txn_buffer.proofs.Staged.{allowed_in_order}
use Rattle.txn_buffer.proofs.front.Front.add_each.Goals as goal

pub add-requires-clause-allowed : goal.add-requires-clause-allowed
add-requires-clause-allowed c =
    allowed_in_order c.args.self.now.entries c.loop-one.self.entries c.args.added.now c.loop-one.one-index c.one-item.result c.one-item.is c.loop-one-test.true c.loop-one.invariant.entries c.requires.lawful
