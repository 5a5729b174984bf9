use Rattle.txn_core.proofs.Moves.{both_reach, same_steps}
use Rattle.txn_core.proofs.TableSteps.{settled_steps, failed_steps, resolved_steps, rebuilt_steps}
use Rattle.txn_core.proofs.core_laws.changes_of_the_table_are_steps.Goals as goal

pub returns-clause-settled : goal.returns-clause-settled
returns-clause-settled c = settled_steps

pub returns-clause-failed : goal.returns-clause-failed
returns-clause-failed c = failed_steps

pub returns-clause-resolved : goal.returns-clause-resolved
returns-clause-resolved c = λ p stays t l. resolved_steps p t l stays

pub returns-clause-rebuilt : goal.returns-clause-rebuilt
returns-clause-rebuilt c = rebuilt_steps

pub returns-clause-same : goal.returns-clause-same
returns-clause-same c = same_steps

pub returns-clause-both : goal.returns-clause-both
returns-clause-both c = both_reach
