-- Laws of what the table adds.

-- What a row adds that isn't refused, what decides, what marks and what closes is for a part of its kind, and allowed.
pub use Rattle.txn_model.proofs.Grants.{Granted, row_granted, decision_granted}
pub use Rattle.txn_model.proofs.LawfulMoves.{marker_granted}
pub use Rattle.txn_model.proofs.LawfulMoves.{closing_allowed}
pub use Rattle.txn_model.proofs.GrantedEntries.{close_allowed}
-- The parts of a transaction are named in a lawful world; and a named part has the list of its kind.
pub use Rattle.txn_model.proofs.LawfulMoves.{parts_are_named}
pub use Rattle.txn_model.proofs.Grants.{topic_part, sub_part}
-- Where no row comes, none of its tests is met; and the first rows speak of the names alone.
pub use Rattle.txn_model.proofs.Refused.{first_none, rest_none, when_none, early_same}
