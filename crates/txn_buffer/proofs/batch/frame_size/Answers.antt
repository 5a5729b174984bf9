use Rattle.std.proofs.Common.{arith}
use Rattle.txn_base.specs.Frames.{IsRecord}
use Rattle.txn_buffer.proofs.Adding.{at_each, body_more}
use Rattle.txn_buffer.proofs.batch.frame_size.Goals as goal

pub overflow_add-size : goal.overflow_add-size
overflow_add-size c =
    let one = at_each IsRecord _ _ _ c.record-item.is c.loop-record-test.true c.requires.each in omega (arith, one.no_longer, c.len.ensures)

pub overflow_add-size-in-loop-record : goal.overflow_add-size-in-loop-record
overflow_add-size-in-loop-record c =
    let one = at_each IsRecord _ _ _ c.record-item.is c.loop-record-test.true c.requires.each in
    omega (arith, one.no_longer, c.len.ensures, c.loop-record.invariant.1, c.requires.few, c.loop-record-test.true)

pub loop-record-preserved : goal.loop-record-preserved
loop-record-preserved c =
    let one = at_each IsRecord _ _ _ c.record-item.is c.loop-record-test.true c.requires.each in
    let more = body_more _ _ _ c.record-item.is c.loop-record-test.true in
    (omega (arith, more, c.len.ensures, c.loop-record.invariant.0), omega (arith, one.no_longer, c.len.ensures, c.loop-record.invariant.1))
