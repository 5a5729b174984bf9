use Rattle.txn_board.proofs.Startings.{starts_own}
use Rattle.txn_board.proofs.board.Board.start_own.Goals as goal

pub step-requires-clause-allowed : goal.step-requires-clause-allowed
step-requires-clause-allowed g c = λ p id. starts_own g.N.Naming.lists id c.args.seat.now 0 c.args.own (c.requires.row p) (c.requires.window p)
