-- The door: what other crates take of this crate's proofs.

-- What a lawful list of entries is after one that may follow; and that each of its entries may follow those before it.
pub use Rattle.txn_table.proofs.Rows.{entries_more, lawful_more}
pub use Rattle.txn_table.proofs.Following.{next_fits, next_allowed}
-- A decision, by the status.
pub use Rattle.txn_table.proofs.Finding.{decision_by_status}
-- The parts of a transaction after one entry more; and each transaction is the same as itself.
pub use Rattle.txn_table.proofs.Entry.{in_parts-push, same_itself}
-- The record of an entry is read as that entry, also behind others.
pub use Rattle.txn_table.proofs.Records.{coord_back}
pub use Rattle.txn_table.proofs.Applied.{records-push, coord_entries-push}
-- What deadlines say of a log where they are those of its open transactions: which of these is the first that is due, that none
-- is, and how many are.
pub use Rattle.txn_table.proofs.Awaited.{first_waiting, none_waiting, due_waiting}
