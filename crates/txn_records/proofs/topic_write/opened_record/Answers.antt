use Rattle.std.proofs.Common.{rules, ap, ◌∙◌, ◌≡◌}
use Rattle.txn_base.specs.declared.entry.TopicEntry.TheVariants as topic
use Rattle.txn_base.specs.Bytes.{only_bytes}
use Rattle.txn_base.specs.Decoded.{topic_entry_of}
use Rattle.txn_base.specs.Records.{topic_record}
use Rattle.txn_records.proofs.Topics.{opened_decoded}
use Rattle.txn_records.proofs.topic_write.opened_record.Goals as goal

pub returns-clause-entry : goal.returns-clause-entry
returns-clause-entry c =
    let bytes : c.put.new.self.bytes ≡ topic_record (topic.Opened c.args.txn (only_bytes c.args.body.now)) = search rules in
    ap topic_entry_of bytes ∙ opened_decoded c.args.txn c.args.body.now c.put_named.ensures.fits
