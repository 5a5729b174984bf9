use Rattle.txn_buffer.proofs.Adding.{at_each, batch_more, entries_more, grammar_more}
use Rattle.txn_buffer.specs.Adding.{IsPublished}
use Rattle.txn_buffer.proofs.batch.records_of.Goals as goal

pub record_of-requires : goal.record_of-requires
record_of-requires c = at_each IsPublished _ _ _ c.body-item.is c.loop-body-test.true c.requires

pub loop-body-preserved : goal.loop-body-preserved
loop-body-preserved c =
    let k = c.loop-body.invariant in
    record {
      batch = batch_more _ _ _ _ c.body-item.is c.loop-body-test.true _ _ _ c.in_ok-push.ensures.items k.batch c.in_ok-record.ensures.bytes;
      entries = entries_more _ _ _ _ c.body-item.is c.loop-body-test.true _ _ _ c.in_ok-push.ensures.items k.entries c.in_ok-record.ensures.entry;
      grammar = grammar_more c.args.txn _ _ _ c.body-item.is c.loop-body-test.true _ _ _ c.in_ok-push.ensures.items k.grammar c.in_ok-record.ensures.grammar;
    }
