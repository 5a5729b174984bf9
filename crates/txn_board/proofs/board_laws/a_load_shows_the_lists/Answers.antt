use Rattle.std.proofs.Common.{refl}
use Rattle.txn_board.specs.Words.{word_at}
use Rattle.txn_board.specs.Rows.{low_in}
use Rattle.txn_board.proofs.Telling.{stood}
use Rattle.txn_board.proofs.Closings.{found_row}
use Rattle.txn_board.proofs.board_laws.a_load_shows_the_lists.Goals as goal

pub returns-clause-bits : goal.returns-clause-bits
returns-clause-bits c = λ lists x w n v f inside p small. stood lists f.board f.rule x w p n inside small f.stood

pub returns-clause-row : goal.returns-clause-row
returns-clause-row c = λ lists x w n v f inside. found_row lists (word_at (low_in lists) x w) n v x w inside refl f
