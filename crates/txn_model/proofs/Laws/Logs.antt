-- Laws of the coordinator's log.

-- Transactions that pass the test are equal.
pub use Rattle.txn_model.proofs.Statuses.{txn_equal}
-- In a lawful log the status of a transaction is what its decision and its closing make it; it is open where there is neither.
pub use Rattle.txn_model.proofs.Statuses.{last_by, status_by, Agrees, lawful_agrees, open_means}
-- No decision was logged before one in a lawful log.
pub use Rattle.txn_model.proofs.Statuses.{undecided_before}
-- Where more parts are named, what was allowed or lawful with fewer still is.
pub use Rattle.txn_model.proofs.FirstStates.{more_allowed, more_follow}
-- Parts and decisions stay, whatever follows; and a closed transaction gets no part more in a lawful log.
pub use Rattle.txn_model.proofs.LawfulGrowth.{parts_stay, decision_stays, closed_parts}
