use Rattle.std.proofs.Common.{rules, arith, ◌∷◌, ◌≡◌, true, [], refl, ap}
use Rattle.txn_base.specs.declared.core_entry.CoreEntry.TheVariants as core
use Rattle.txn_model.specs.Deadlines.{txn}
use Rattle.txn_board.specs.declared.view.View.{View}
use Rattle.txn_board.specs.Rows.{parts_in}
use Rattle.txn_board_tests.specs.Sure.{sent}
use Rattle.txn_board_tests.proofs.Shown.{within, resting, inside_starts, may_drop, drops_to}
use Rattle.txn_board_tests.proofs.surely.lose.Goals as goal

pub start_in-requires : goal.start_in-requires
start_in-requires g c = λ p. record { may = resting (parts_in g.N.Naming.lists) 1 sent (core.Inside (txn 0) ∷ []) c.args.part.now c.requires.seat refl refl; part = λ e. omega (arith, e) }

pub drop_flight-requires : goal.drop_flight-requires
drop_flight-requires g c =
    let is : c.start_in.result ≡ true = search rules in
    let k = inside_starts _ g.N.Naming.lists 0 (within g.N.Naming.lists c.requires.lists) c.start_in.result true sent c.args.part.now c.start_in.new.seat c.requires.seat is c.start_in.ensures.within in
    λ p. may_drop 1 sent (core.Inside (txn 0)) c.start_in.new.seat k

pub returns : goal.returns
returns g c =
    let is : c.start_in.result ≡ true = search rules in
    let k = inside_starts _ g.N.Naming.lists 0 (within g.N.Naming.lists c.requires.lists) c.start_in.result true sent c.args.part.now c.start_in.new.seat c.requires.seat is c.start_in.ensures.within in
    λ t. drops_to 1 sent (core.Inside (txn 0)) c.start_in.new.seat c.drop_flight.new.seat k (ap (λ (u : View). u.rows) c.drop_flight.ensures.view)
