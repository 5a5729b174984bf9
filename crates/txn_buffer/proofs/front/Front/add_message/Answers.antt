use Rattle.txn_buffer.proofs.Tables.{opened_grown, allowed_in}
use Rattle.txn_buffer.proofs.front.Front.add_message.Goals as goal

pub invariant_of-self : goal.invariant_of-self
invariant_of-self c =
    opened_grown _ _ _ _ _ _ _ _ c.push_back_reserved.ensures.items c.joined.ensures.entries c.self.invariant c.requires.kind
    (allowed_in _ _ _ c.self.view_is c.requires.allowed) c.joined.ensures.grammar
