-- The door: what other crates take of this crate's proofs.

-- A transaction that has a status and isn't closed lies in the window; so does one of which a reader is told such a status.
pub use Rattle.txn_board.proofs.Sentences.{open_within, told_within}
-- The low watermark of the coordinator's log is the model's.
pub use Rattle.txn_board.proofs.Watermark.{low_same}
