-- Laws of tests that hold together.

-- No test fails and passes.
pub use Rattle.txn_model.proofs.Bools.{no_true}
-- Both tests pass where the first and the second do.
pub use Rattle.txn_model.proofs.Bools.{and_l, and_r, and_both}
-- One of two tests passes where the first or the second does.
pub use Rattle.txn_model.proofs.Bools.{or_l, or_r, or_cases}
