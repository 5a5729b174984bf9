-- What is said of the entries of a topic's ledger beside their bytes.
use Rattle.std.specs.Prelude.{◌≡◌, ℕ, List, []}
use Rattle.txn_base.specs.declared.txn.TxnId.{TxnId}
use Rattle.txn_base.specs.declared.txn.Decision.{Decision}
use Rattle.txn_base.specs.declared.txn.Decision.TheVariants as decision
use Rattle.txn_base.specs.declared.core_entry.CoreEntry.{CoreEntry}
use Rattle.txn_base.specs.declared.core_entry.CoreEntry.TheVariants as core
use Rattle.txn_base.specs.declared.entry.TopicEntry.{TopicEntry}
use Rattle.txn_base.specs.declared.entry.TopicEntry.TheVariants as topic
use Rattle.txn_base.specs.Bytes.{only_bytes}
use Rattle.txn_base.specs.Decoded.{topic_entry_of}
use Rattle.txn_base.specs.Entries.{bare}
use Rattle.txn_base.specs.Records.{IsTopicRecord, IsTopicEntry, topic_record}
use Rattle.txn_records.specs.declared.topic.InPlace.{InPlace}
use Rattle.txn_records.specs.declared.topic.InPlace.TheVariants as in_place

-- The skeleton of an entry: what it is, apart from its body.
abbrev pub topic_skeleton : TopicEntry → CoreEntry
topic_skeleton (topic.Plain body) = core.Plain
topic_skeleton (topic.Opened x body) = core.Inside x
topic_skeleton (topic.Commit x) = core.Marker x decision.Commit
topic_skeleton (topic.Abort x) = core.Marker x decision.Abort

-- An entry is a message, and no marker.
abbrev pub IsMessage : TopicEntry → Type 0
IsMessage (topic.Plain body) = Unit {0}
IsMessage (topic.Opened x body) = Unit {0}
IsMessage (topic.Commit x) = ⊥
IsMessage (topic.Abort x) = ⊥

-- The body of a message; a marker has none.
abbrev pub message_body : TopicEntry → List ℕ
message_body (topic.Plain body) = body.bytes
message_body (topic.Opened x body) = body.bytes
message_body (topic.Commit x) = []
message_body (topic.Abort x) = []

-- The marker that ends a transaction so.
abbrev pub marker_entry : TxnId → Decision → TopicEntry
marker_entry x decision.Commit = topic.Commit x
marker_entry x decision.Abort = topic.Abort x

-- The entry whose body was read in place.
abbrev pub entry_in_place : InPlace → TopicEntry
entry_in_place (in_place.Plain body) = topic.Plain (only_bytes body.now)
entry_in_place (in_place.Opened x body) = topic.Opened x (only_bytes body.now)
entry_in_place (in_place.Commit x) = topic.Commit x
entry_in_place (in_place.Abort x) = topic.Abort x

-- The entry of a record's bytes is the one that it is the record of.
abbrev pub TopicRecordsDecode : Type 0
TopicRecordsDecode = (bytes : List ℕ) (entry : TopicEntry) → IsTopicRecord bytes entry → topic_entry_of bytes ≡ bare entry

-- A record stands for one entry.
abbrev pub TopicRecordsAreOne : Type 0
TopicRecordsAreOne =
    (bytes : List ℕ) (a b : TopicEntry) → IsTopicRecord bytes a → IsTopicRecord bytes b → bare a ≡ bare b

-- The record of an entry is read as that entry.
abbrev pub TopicRecordsReadBack : Type 0
TopicRecordsReadBack = (entry read : TopicEntry) → IsTopicEntry entry → IsTopicRecord (topic_record entry) read → bare read ≡ bare entry
