-- The door: what other crates take of this crate's proofs.

-- The records of a batch of messages, and of a marker, are those of its entries.
pub use Rattle.txn_buffer.proofs.BatchRecords.{batch_records, marker_records}
