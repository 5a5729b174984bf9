-- The door: what other crates take of this crate's proofs.

-- The front of a list that is lawful by itself is so too; and one of the coordinator is a lawful log then.
pub use Rattle.txn_core.proofs.Alone.{alone_front, alone_log}
-- A test for a decision finds the one that there is, and no other.
pub use Rattle.txn_core.proofs.Asked.{decision_is, decision_test}
-- Steps keep what every step keeps, and no list gets shorter; those of two lists in a row are those of the one and then of
-- the other; and lists that are lawful together are a start.
pub use Rattle.txn_core.proofs.Keeping.{run_keeps, run_longer, run-append, opened_kept}
-- What a stop leaves of kept lists is lawful together.
pub use Rattle.txn_core.proofs.Stops.{stop_lawful}
