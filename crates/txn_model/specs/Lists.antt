-- The lists of a world as pairs of a part and its entries.
use Rattle.std.specs.Prelude.{ℕ, List}
use Rattle.txn_base.specs.declared.entry.TopicEntry.{TopicEntry}
use Rattle.txn_base.specs.declared.entry.AckEntry.{AckEntry}
use Rattle.txn_model.specs.declared.world.TopicList.{TopicList}
use Rattle.txn_model.specs.declared.world.AckList.{AckList}

-- The part of a topic, and its entries; the part of a subscription, and its entries.
abbrev pub topic_pair : TopicList → ℕ × List TopicEntry
topic_pair l = (l.part, l.entries)

abbrev pub ack_pair : AckList → ℕ × List AckEntry
ack_pair l = (l.part, l.entries)
