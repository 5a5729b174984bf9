-- Laws of the states of the table.

-- A state stays lawful where neither world nor flights change, nor which parts are rebuilt, and where an allowed batch is settled
-- or fails; and where a part's flight is kept or dropped, whether the part is rebuilt then or not.
pub use Rattle.txn_model.proofs.LawfulSteps.{same_state, settled_state, failed_state, resolved_state, rebuilt_state}
-- Recovery keeps a lawful state, its names, its markers and what is whole; its part is whole then; and the coordinator's log
-- stays where another part is recovered.
pub use Rattle.txn_model.proofs.LawfulMoves.{Keeps, all_keep, all_whole, rebuilds_keeps}
pub use Rattle.txn_model.proofs.Moves.{rebuilds_coord}
-- What recovery leaves as it is, over any state; and what a request uses hangs on the names alone.
pub use Rattle.txn_model.proofs.Moves.{Stays, rebuilds_stays, all_stay, all_are_whole, uses_same}
-- So do the markers of a decided transaction at named parts, and each of these has its marker then.
pub use Rattle.txn_model.proofs.LawfulMoves.{AreNamed, Marked, marks_keep}
-- So does whatever a request is told.
pub use Rattle.txn_model.proofs.LawfulMoves.{from_keeps}
