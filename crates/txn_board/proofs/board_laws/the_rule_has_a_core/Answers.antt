use Rattle.txn_board.proofs.Steps.{kept, begins_as}
use Rattle.txn_board.proofs.board_laws.the_rule_has_a_core.Goals as goal

pub returns-clause-kept : goal.returns-clause-kept
returns-clause-kept c = kept

pub returns-clause-longer : goal.returns-clause-longer
returns-clause-longer c = begins_as
