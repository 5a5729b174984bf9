use Rattle.txn_board.proofs.Sentences.{settles_by, drops_by, starts_by}
use Rattle.txn_board.proofs.board_laws.rows_change_by_core_steps.Goals as goal

pub returns-clause-settle : goal.returns-clause-settle
returns-clause-settle c = settles_by

pub returns-clause-drop : goal.returns-clause-drop
returns-clause-drop c = drops_by

pub returns-clause-start : goal.returns-clause-start
returns-clause-start c = starts_by
