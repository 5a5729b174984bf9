use Rattle.txn_board.proofs.Sentences.{told_within}
use Rattle.txn_board.proofs.board_laws.an_open_one_lies_in_the_window.Goals as goal

pub returns : goal.returns
returns g c = λ lists x st may unclosed loads v w r. told_within g.T.Promise.made lists x st loads v w may r unclosed
