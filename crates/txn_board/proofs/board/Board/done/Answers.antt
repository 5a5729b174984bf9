use Rattle.txn_board.proofs.Telling.{done_told}
use Rattle.txn_board.proofs.board.Board.done.Goals as goal

pub returns-clause-told : goal.returns-clause-told
returns-clause-told g c = done_told g.T.Promise.made g.N.Naming.lists c.args.txn c.look.result c.args.seat.now c.look.new.seat c.look.ensures.told c.look.ensures.view
