use Rattle.txn_model.proofs.Chosen.{lawful_kept}
use Rattle.txn_model.proofs.FirstStates.{first_lawful}
use Rattle.txn_model.proofs.LawfulMoves.{from_keeps, replies_keep}
use Rattle.txn_model.proofs.state_laws.states_stay_lawful.Goals as goal

pub returns-clause-first : goal.returns-clause-first
returns-clause-first c = first_lawful

pub returns-clause-request : goal.returns-clause-request
returns-clause-request c = λ limits s r told s' l h. from_keeps limits s r told s' l h

pub returns-clause-lines : goal.returns-clause-lines
returns-clause-lines c = λ limits s kinds told s' l h. replies_keep limits s kinds told s' l h

pub returns-clause-kept : goal.returns-clause-kept
returns-clause-kept c = λ t stays s. lawful_kept t.world t.flights stays s.lawful s.flights
