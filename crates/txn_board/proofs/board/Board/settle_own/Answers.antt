use Rattle.txn_board.proofs.Settling.{settles_quiet}
use Rattle.txn_board.proofs.board.Board.settle_own.Goals as goal

pub step-requires-clause-allowed : goal.step-requires-clause-allowed
step-requires-clause-allowed g c = λ p id. settles_quiet g.N.Naming.lists id c.args.seat.now (c.requires p)
