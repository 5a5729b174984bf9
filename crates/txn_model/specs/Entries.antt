-- A topic's entries and messages, by named parts.
use Rattle.std.specs.Prelude.{ℕ, List, [], Option, Some, None}
use Rattle.txn_base.specs.Bytes.{only_bytes}
use Rattle.txn_base.specs.declared.txn.TxnId.{TxnId}
use Rattle.txn_base.specs.declared.messages.Message.{Message}
use Rattle.txn_base.specs.declared.entry.TopicEntry.{TopicEntry}
use Rattle.txn_base.specs.declared.entry.TopicEntry.TheVariants as topic

-- The bytes of a message, which are none for a marker.
abbrev pub message_body : TopicEntry → List ℕ
message_body (topic.Plain body) = body.bytes
message_body (topic.Opened x body) = body.bytes
message_body _ = []

-- The transaction of a message, which is none for a plain one and for a marker.
abbrev pub inside_of : TopicEntry → Option TxnId
inside_of (topic.Opened x body) = Some x
inside_of _ = None

-- A message of this text, plain or in a transaction.
abbrev pub message_entry : Option TxnId → List ℕ → TopicEntry
message_entry None body = topic.Plain (only_bytes body)
message_entry (Some x) body = topic.Opened x (only_bytes body)

-- At place k, the message with this body; the message of this entry.
abbrev pub message_at : ℕ → List ℕ → Message
message_at k body = record { place = k; body = body }

abbrev pub message_of : ℕ → TopicEntry → Message
message_of k e = message_at k (message_body e)
