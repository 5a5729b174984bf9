use Rattle.std.proofs.Common.{◌≡◌, take, map}
use Rattle.std.specs.Prelude.{All}
use Rattle.txn_base.specs.Bytes.{contents_of}
use Rattle.txn_base.specs.Decoded.{topic_entry_of}
use Rattle.txn_buffer.specs.Adding.{messages_of}
use Rattle.txn_buffer.specs.Record.{IsInGrammar}
use Rattle.txn_buffer.specs.View.{topic_batch}
use Rattle.txn_buffer.proofs.batch.records_of.Given as goal

abbrev pub invariant-loop-body : goal.invariant-loop-body
invariant-loop-body l =
    record {
      batch : contents_of l.batch.items ≡ topic_batch (messages_of l.txn (contents_of (take l.body-index l.bodies)));
      entries : map topic_entry_of (contents_of l.batch.items) ≡ messages_of l.txn (contents_of (take l.body-index l.bodies));
      grammar : All IsInGrammar (contents_of l.batch.items);
    }
