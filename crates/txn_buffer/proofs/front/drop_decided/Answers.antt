use Rattle.std.proofs.Common.{◌<◌, length, arith, refl, sym, ◌∙◌}
use Rattle.txn_buffer.proofs.Tables.{waiting_stays, none_copied}
use Rattle.txn_buffer.proofs.front.drop_decided.Goals as goal

pub returns-then-is_none-clause-pending : goal.returns-then-is_none-clause-pending
returns-then-is_none-clause-pending c =
    let some : 0 < length c.loop-txn.pending.items = omega (arith, c.in-Some.ensures.variant.0 refl, c.loop-txn.pending.ok.0) in
    sym (waiting_stays _ c.loop-txn.pending.items c.in-Some.field-0.now some c.in-Some.ensures.lookup (none_copied c.get.result _ c.get.ensures.value c.if-is_none.ensures)) ∙ c.loop-txn.invariant.0
