use Rattle.txn_core.proofs.Lines.{request_steps, lines_steps, rests_mirror}
use Rattle.txn_core.proofs.core_laws.lines_are_steps.Goals as goal

pub returns-clause-request : goal.returns-clause-request
returns-clause-request c = request_steps

pub returns-clause-lines : goal.returns-clause-lines
returns-clause-lines c = lines_steps

pub returns-clause-start : goal.returns-clause-start
returns-clause-start c = λ n t none. rests_mirror n t none
