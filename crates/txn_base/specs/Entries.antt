-- Entries without what no ledger keeps.
use Rattle.txn_base.specs.declared.entry.TopicEntry.{TopicEntry}
use Rattle.txn_base.specs.declared.entry.TopicEntry.TheVariants as topic
use Rattle.txn_base.specs.Bytes.{only_bytes}

-- The entry whose body has no room behind it.
abbrev pub bare : TopicEntry → TopicEntry
bare (topic.Plain body) = topic.Plain (only_bytes body.bytes)
bare (topic.Opened x body) = topic.Opened x (only_bytes body.bytes)
bare (topic.Commit x) = topic.Commit x
bare (topic.Abort x) = topic.Abort x
