use Rattle.std.proofs.Common.{rules}
use Rattle.txn_board.proofs.Telling.{part_told}
use Rattle.txn_board.proofs.board.Board.registered.Goals as goal

pub returns-then-part-lt64-clause-told : goal.returns-then-part-lt64-clause-told
returns-then-part-lt64-clause-told g c =
    part_told g.T.Promise.made g.N.Naming.lists c.args.txn c.args.part _ c.look-reg.result c.args.seat.now c.look-reg.new.seat c.look-reg.ensures.told c.look-reg.ensures.view (search rules)

pub returns-else-part-lt64-clause-told : goal.returns-else-part-lt64-clause-told
returns-else-part-lt64-clause-told g c =
    part_told g.T.Promise.made g.N.Naming.lists c.args.txn c.args.part _ c.look-reg.result c.args.seat.now c.look-reg.new.seat c.look-reg.ensures.told c.look-reg.ensures.view (search rules)
