use Rattle.std.proofs.Common.{sym}
use Rattle.txn_board.proofs.Watermark.{low_same}
use Rattle.txn_board.proofs.Sentences.{open_within}
use Rattle.txn_board.proofs.board_laws.the_watermark_is_the_coordinators.Goals as goal

pub returns-clause-low : goal.returns-clause-low
returns-clause-low c = low_same

pub returns-clause-unclosed : goal.returns-clause-unclosed
returns-clause-unclosed c = λ lists s h x st is. open_within lists s h x st (sym is)
