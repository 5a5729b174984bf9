-- The door: what other crates take of this crate's proofs.

-- Calls on a disk follow each other: before the first one; a step that says less; one call more; and what holds of each
-- image at any moment since.
pub use Rattle.txn_base.proofs.Moments.{started, weaker, goes_on, at_any_moment}
-- A log of which nothing is in doubt stands for its batches in each image; a log through calls that change nothing; and each
-- image begins with its batches.
pub use Rattle.txn_base.proofs.Logs.{not_settled, settled_stands, same_backed, same_settles, begins_with}
-- Bytes stand for one list of batches, and aren't damaged then.
pub use Rattle.txn_base.proofs.Unique.{stands_one, stands_not_damaged}
-- What is written behind its length is read off in one way; and how long the records of a batch are.
pub use Rattle.txn_base.proofs.Unique.{counted_one, body_long, body_length, body_small}
