use Rattle.txn_board.proofs.Settling.{drops}
use Rattle.txn_board.proofs.board.Board.drop_flight.Goals as goal

pub step-requires-clause-allowed : goal.step-requires-clause-allowed
step-requires-clause-allowed g c = λ p id. drops g.N.Naming.lists id c.args.seat.now (c.requires p)
