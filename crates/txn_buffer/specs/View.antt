-- What a clause sees of a topic.
use Rattle.std.specs.Prelude.{◌≡◌, ℕ, Bool, false, List, [], ◌++◌, if◌then◌else◌, length, take, map, All}
use Rattle.txn_base.specs.declared.entry.TopicEntry.{TopicEntry}
use Rattle.txn_base.specs.declared.limits.Limits.{Limits}
use Rattle.txn_base.specs.declared.part.PartState.{PartState}
use Rattle.txn_base.specs.declared.part.PartState.TheVariants.{Whole, Mending}
use Rattle.txn_base.specs.Content.{LedgerContent, landed, begun}
use Rattle.txn_base.specs.Decoded.{topic_entries}
use Rattle.txn_base.specs.Frames.{Batch, records}
use Rattle.txn_base.specs.Records.{topic_record}
use Rattle.txn_buffer.specs.Record.{IsInGrammar}

-- what its ledger holds; the front, its own list, of the entries that were replayed or added since; its number; whether it
-- is rebuilt; for how many ends room was reserved; and the bounds
pub record TopicView : Type 0 where
  pub content : LedgerContent
  pub front : List TopicEntry
  pub part : ℕ
  pub whole : Bool
  pub reserved : ℕ
  pub limits : Limits

-- How many records its ledger has, without those in flight.
abbrev pub topic_total : TopicView → ℕ
topic_total v = length (records v.content.batches)

-- Whole, or how many of the records were replayed.
abbrev pub state_of : TopicView → PartState
state_of v = if v.whole then Whole else Mending (length v.front) (topic_total v)

-- Where the topic is what its ledger holds: the front is the entries of the first records, each of which is in the grammar.
pub record IsFrontOf (v : TopicView) : Type 0 where
  pub entries : v.front ≡ take (length v.front) (topic_entries v.content.batches)
  pub grammar : All IsInGrammar (take (length v.front) (records v.content.batches))

-- The records of these entries, as one batch.
abbrev pub topic_batch : List TopicEntry → Batch
topic_batch entries = map topic_record entries

-- The topic with these entries more, in its ledger and in its front, and room reserved for so many ends.
abbrev pub with_entries : TopicView → List TopicEntry → ℕ → TopicView
with_entries v entries ends =
    record { content = landed v.content (topic_batch entries); front = v.front ++ entries; part = v.part; whole = v.whole; reserved = ends; limits = v.limits }

-- The topic whose append of these entries failed: they are in flight, and its state was thrown away.
abbrev pub with_failed_entries : TopicView → List TopicEntry → TopicView
with_failed_entries v entries =
    record { content = begun v.content (topic_batch entries); front = []; part = v.part; whole = false; reserved = 0; limits = v.limits }
