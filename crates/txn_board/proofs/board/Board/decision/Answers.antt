use Rattle.std.proofs.Common.{rules}
use Rattle.txn_board.proofs.Telling.{decision_told}
use Rattle.txn_board.proofs.board.Board.decision.Goals as goal

pub returns-clause-told : goal.returns-clause-told
returns-clause-told g c = decision_told g.T.Promise.made g.N.Naming.lists c.args.txn _ c.look-dec.result c.args.seat.now c.look-dec.new.seat c.look-dec.ensures.told c.look-dec.ensures.view (search rules)
