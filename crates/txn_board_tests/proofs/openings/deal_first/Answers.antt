use Rattle.std.proofs.Common.{◌<◌, length, sym, subst}
use Rattle.txn_board.specs.declared.view.View.{View}
use Rattle.txn_board_tests.proofs.Dealing.{any_rows}
use Rattle.txn_board_tests.proofs.openings.deal_first.Goals as goal

pub deal-requires : goal.deal-requires
deal-requires g c = subst (λ (v : View). 0 < length v.rows) (sym c.requires.all) (any_rows g.N.Naming.lists c.requires.log)
