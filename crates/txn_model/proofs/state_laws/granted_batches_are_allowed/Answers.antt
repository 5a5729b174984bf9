use Rattle.txn_model.proofs.Grants.{decision_granted, row_granted}
use Rattle.txn_model.proofs.LawfulMoves.{marker_granted}
use Rattle.txn_model.proofs.LawfulMoves.{closing_allowed, parts_are_named}
use Rattle.txn_model.proofs.state_laws.granted_batches_are_allowed.Goals as goal

pub returns-clause-row : goal.returns-clause-row
returns-clause-row c = λ limits t r l e k. (row_granted limits t r l e k).allowed

pub returns-clause-row_part : goal.returns-clause-row_part
returns-clause-row_part c = λ limits t r l e k. (row_granted limits t r l e k).fits

pub returns-clause-decision : goal.returns-clause-decision
returns-clause-decision c = λ t x d l. (decision_granted t x d l).allowed

pub returns-clause-marker : goal.returns-clause-marker
returns-clause-marker c = λ t x d p l low high k. (marker_granted t x d p l low high k).allowed

pub returns-clause-marker_part : goal.returns-clause-marker_part
returns-clause-marker_part c = λ t x d p l low high k. (marker_granted t x d p l low high k).fits

pub returns-clause-closing : goal.returns-clause-closing
returns-clause-closing c = closing_allowed

pub returns-clause-parts : goal.returns-clause-parts
returns-clause-parts c = parts_are_named
