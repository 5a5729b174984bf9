use Rattle.std.proofs.Common.{rules, ◌≡◌, None, refl, ap}
use Rattle.std.specs.Result.{result_err}
use Rattle.txn_base.specs.declared.txn.Decision.TheVariants.{Commit}
use Rattle.txn_base.specs.declared.core_entry.CoreEntry.TheVariants as core
use Rattle.txn_model.specs.Deadlines.{txn}
use Rattle.txn_board.specs.declared.view.View.{View}
use Rattle.txn_board_tests.specs.Sure.{decided_log}
use Rattle.txn_board_tests.proofs.Shown.{within, may_close, closing_starts, flying, settles_to}
use Rattle.txn_board_tests.proofs.surely.close.Goals as goal

pub start_close-requires : goal.start_close-requires
start_close-requires g c = λ p. may_close g.N.Naming.lists c.args.coord.now c.requires.lists c.requires.seat

pub settle_done-requires : goal.settle_done-requires
settle_done-requires g c =
    let is : result_err c.start_close.result ≡ None = search rules in
    let k = closing_starts _ g.N.Naming.lists 0 (within g.N.Naming.lists c.requires.lists) (result_err c.start_close.result) None Commit decided_log c.args.coord.now c.start_close.new.seat c.requires.seat refl is c.start_close.ensures.within in
    λ p. record { part = 0; decision = Commit; settling = flying 0 decided_log (core.Committed (txn 0)) c.start_close.new.seat k }

pub returns : goal.returns
returns g c =
    let is : result_err c.start_close.result ≡ None = search rules in
    let k = closing_starts _ g.N.Naming.lists 0 (within g.N.Naming.lists c.requires.lists) (result_err c.start_close.result) None Commit decided_log c.args.coord.now c.start_close.new.seat c.requires.seat refl is c.start_close.ensures.within in
    λ t. settles_to 0 decided_log (core.Committed (txn 0)) c.start_close.new.seat c.settle_done.new.seat k (ap (λ (u : View). u.rows) c.settle_done.ensures.view)
