-- A record of a topic's ledger, within its grammar.
use Rattle.std.specs.Prelude.{◌≡◌, List, [], ◌∷◌, slice_index_or}
use Rattle.txn_base.specs.declared.core_entry.CoreEntry.{CoreEntry}
use Rattle.txn_base.specs.declared.entry.TopicEntry.{TopicEntry}
use Rattle.txn_base.specs.Content.{LedgerContent, settled}
use Rattle.txn_base.specs.Decoded.{topic_entry_of}
use Rattle.txn_base.specs.Frames.{Record, Batch, records}
use Rattle.txn_base.specs.Records.{IsTopicRecord}
use Rattle.txn_model.specs.Skeletons.{topic_skeleton}

-- The record is in the grammar of a topic's ledger.
abbrev pub IsInGrammar : Record → Type 0
IsInGrammar bytes = IsTopicRecord bytes (topic_entry_of bytes)

-- The record is in no grammar of a topic's ledger.
abbrev pub IsOutside : Record → Type 0
IsOutside bytes = (entry : TopicEntry) → IsTopicRecord bytes entry → ⊥

-- One record, as batches.
abbrev pub one_record : Record → List Batch
one_record bytes = (bytes ∷ []) ∷ []

-- One record, as a ledger's content.
abbrev pub only_record : Record → LedgerContent
only_record bytes = record { key = record { part = 0; row = 0 }; batches = one_record bytes; standing = settled }

-- The entry of the first record of these batches.
abbrev pub first_entry : List Batch → TopicEntry
first_entry batches = topic_entry_of (slice_index_or (records batches) 0 [])

-- These batches are one record, which is in the grammar, and this is the skeleton of its entry.
pub record IsOne (batches : List Batch) (entry : CoreEntry) : Type 0 where
  pub bytes : Record
  pub one : batches ≡ one_record bytes
  pub grammar : IsInGrammar bytes
  pub skeleton : entry ≡ topic_skeleton (topic_entry_of bytes)
