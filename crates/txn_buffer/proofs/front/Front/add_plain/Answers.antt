use Rattle.txn_buffer.proofs.Tables.{plain_grown}
use Rattle.txn_buffer.proofs.front.Front.add_plain.Goals as goal

pub invariant_of-self : goal.invariant_of-self
invariant_of-self c = plain_grown _ _ _ _ _ _ c.joined.ensures.entries c.self.invariant c.requires.kind c.joined.ensures.grammar
