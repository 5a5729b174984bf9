-- A topic's record stands for one entry.
use Rattle.std.proofs.Common.{◌≡◌, ℕ, List, [], refl, sym, ap, ◌∙◌, subst}
use Rattle.txn_base.specs.declared.txn.TxnId.{TxnId}
use Rattle.txn_base.specs.declared.txn.Decision.{Decision}
use Rattle.txn_base.specs.declared.txn.Decision.TheVariants as decision
use Rattle.txn_base.specs.declared.entry.TopicEntry.{TopicEntry}
use Rattle.txn_base.specs.declared.entry.TopicEntry.TheVariants as topic
use Rattle.txn_base.specs.Bytes.{only_bytes}
use Rattle.txn_base.specs.Decoded.{topic_entry_of}
use Rattle.txn_base.specs.Entries.{bare}
use Rattle.txn_base.specs.Records.{IsTopicRecord, IsTopicEntry, IsTxnId, topic_record}
use Rattle.txn_records.specs.Topics.{marker_entry, topic_skeleton, TopicRecordsDecode, TopicRecordsAreOne, TopicRecordsReadBack}
use Rattle.txn_records.proofs.Numbers.{txn_read}

-- the entry of a message's record, whatever its body
pub opened_decoded : (x : TxnId) (body : List ℕ) → IsTxnId x → topic_entry_of (topic_record (topic.Opened x (only_bytes body))) ≡ topic.Opened x (only_bytes body)
opened_decoded x body is = ap (λ (y : TxnId). topic.Opened y (only_bytes body)) (txn_read x body is)

-- the entry of a marker's record
pub marker_decoded : (x : TxnId) (end : Decision) → IsTopicEntry (marker_entry x end) → topic_entry_of (topic_record (marker_entry x end)) ≡ marker_entry x end
marker_decoded x decision.Commit is = ap topic.Commit (txn_read x [] is)
marker_decoded x decision.Abort is = ap topic.Abort (txn_read x [] is)

-- the entry of a record that was written
pub topic_decoded : (entry : TopicEntry) → IsTopicEntry entry → topic_entry_of (topic_record entry) ≡ bare entry
topic_decoded (topic.Plain body) is = refl
topic_decoded (topic.Opened x body) is = opened_decoded x body.bytes is.0
topic_decoded (topic.Commit x) is = ap topic.Commit (txn_read x [] is)
topic_decoded (topic.Abort x) is = ap topic.Abort (txn_read x [] is)

pub topic_decodes : TopicRecordsDecode
topic_decodes bytes entry is = ap topic_entry_of is.bytes_are ∙ topic_decoded entry is.fits

pub topic_one : TopicRecordsAreOne
topic_one bytes a b one two = sym (topic_decodes bytes a one) ∙ topic_decodes bytes b two

pub topic_reads_back : TopicRecordsReadBack
topic_reads_back entry read fits is = sym (topic_decodes (topic_record entry) read is) ∙ topic_decoded entry fits

-- a record is that of the entry that is read off its bytes
pub topic_again : (bytes : List ℕ) (entry : TopicEntry) → IsTopicRecord bytes entry → IsTopicRecord bytes (topic_entry_of bytes)
topic_again bytes entry is = subst (IsTopicRecord bytes) (sym (topic_decodes bytes entry is)) (without_room entry is)
  where
    without_room : (entry : TopicEntry) → IsTopicRecord bytes entry → IsTopicRecord bytes (bare entry)
    without_room (topic.Plain body) is = record { bytes_are = is.bytes_are; fits = record { text = is.fits.text; size = is.fits.size } }
    without_room (topic.Opened x body) is = record { bytes_are = is.bytes_are; fits = (is.fits.0, record { text = is.fits.1.text; size = is.fits.1.size }) }
    without_room (topic.Commit x) is = is
    without_room (topic.Abort x) is = is

-- and so is its skeleton
pub skeleton_again : (bytes : List ℕ) (entry : TopicEntry) → IsTopicRecord bytes entry → topic_skeleton entry ≡ topic_skeleton (topic_entry_of bytes)
skeleton_again bytes entry is = sym (ap topic_skeleton (topic_decodes bytes entry is) ∙ bare_skeleton entry)
  where
    bare_skeleton : (entry : TopicEntry) → topic_skeleton (bare entry) ≡ topic_skeleton entry
    bare_skeleton (topic.Plain body) = refl
    bare_skeleton (topic.Opened x body) = refl
    bare_skeleton (topic.Commit x) = refl
    bare_skeleton (topic.Abort x) = refl
