-- The door: what other crates take of this crate's proofs.

-- A topic's record is that of the entry that is read off its bytes; and the entry of a marker's record.
pub use Rattle.txn_records.proofs.Topics.{topic_again, marker_decoded}
