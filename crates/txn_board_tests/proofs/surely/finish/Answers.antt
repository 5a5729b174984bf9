use Rattle.std.proofs.Common.{sym, subst}
use Rattle.txn_board.specs.declared.view.View.{View}
use Rattle.txn_board.specs.Rows.{HasSeatRow}
use Rattle.txn_board_tests.specs.Sure.{closed_log, marked}
use Rattle.txn_board_tests.proofs.Shown.{both_rows}
use Rattle.txn_board_tests.proofs.surely.finish.Goals as goal

pub close_with-requires : goal.close_with-requires
close_with-requires g c = λ p lt. subst (λ (v : View). HasSeatRow p v.rows) (sym c.join.ensures) (both_rows g.N.Naming.lists closed_log (marked c.args.decision) c.args.coord c.args.part p c.requires.lists c.requires.coord c.requires.part lt)
