-- Laws of worlds.

-- A world extends itself, and what extends it is extended in turn; with a batch it extends what it was.
pub use Rattle.txn_model.proofs.Grows.{extends_same, extends_both, batch_grows}
-- Where of allowed flights some are kept, the world stays lawful; a batch is such a choice; and no flights are allowed ones.
pub use Rattle.txn_model.proofs.Chosen.{lawful_choice}
pub use Rattle.txn_model.proofs.FlightsOver.{batch_choice, no_flights_allowed}
