-- The door: what other crates take of this crate's proofs.

-- The records of a batch of one entry are those of the entry.
pub use Rattle.txn_coordinator.proofs.BatchRecords.{entry_records}
-- The parts of a transaction after one entry more; and each transaction is the same as itself.
pub use Rattle.txn_table.proofs.Laws.{in_parts-push, same_itself}
-- The entries after one that may follow.
pub use Rattle.txn_table.proofs.Laws.{lawful_more}
