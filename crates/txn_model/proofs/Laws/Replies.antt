-- Laws of the replies to lines.

-- Replies that tell of a fault are at most as many as the count of faults rose by.
pub use Rattle.txn_model.proofs.Faults.{replies_paid}
