use Rattle.txn_board.proofs.Seating.{opens}
use Rattle.txn_board.proofs.Sentences.{blank_opens}
use Rattle.txn_board.proofs.board_laws.lawful_lists_open_a_board.Goals as goal

pub returns-clause-rule : goal.returns-clause-rule
returns-clause-rule c = opens

pub returns-clause-empty : goal.returns-clause-empty
returns-clause-empty c = blank_opens
