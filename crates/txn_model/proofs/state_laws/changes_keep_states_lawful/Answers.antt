use Rattle.txn_model.proofs.LawfulSteps.{same_state, settled_state, failed_state, resolved_state, rebuilt_state}
use Rattle.txn_model.proofs.state_laws.changes_keep_states_lawful.Goals as goal

pub returns-clause-settled : goal.returns-clause-settled
returns-clause-settled c = settled_state

pub returns-clause-failed : goal.returns-clause-failed
returns-clause-failed c = failed_state

pub returns-clause-resolved : goal.returns-clause-resolved
returns-clause-resolved c = resolved_state

pub returns-clause-rebuilt : goal.returns-clause-rebuilt
returns-clause-rebuilt c = rebuilt_state

pub returns-clause-same : goal.returns-clause-same
returns-clause-same c = same_state
