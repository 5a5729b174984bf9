use Rattle.std.proofs.Common.{rules, arith, ◌∷◌, ◌≡◌, true, [], refl, ap}
use Rattle.txn_base.specs.declared.core_entry.CoreEntry.TheVariants as core
use Rattle.txn_model.specs.Deadlines.{txn}
use Rattle.txn_board.specs.declared.view.View.{View}
use Rattle.txn_board.specs.Rows.{parts_in}
use Rattle.txn_board_tests.proofs.Shown.{within, resting, inside_starts, flying, settles_to}
use Rattle.txn_board_tests.proofs.surely.send.Goals as goal

pub start_in-requires : goal.start_in-requires
start_in-requires g c = λ p. record { may = resting (parts_in g.N.Naming.lists) 1 [] (core.Inside (txn 0) ∷ []) c.args.part.now c.requires.seat refl refl; part = λ e. omega (arith, e) }

pub settle_own-requires : goal.settle_own-requires
settle_own-requires g c =
    let is : c.start_in.result ≡ true = search rules in
    let k = inside_starts _ g.N.Naming.lists 0 (within g.N.Naming.lists c.requires.lists) c.start_in.result true [] c.args.part.now c.start_in.new.seat c.requires.seat is c.start_in.ensures.within in
    λ p. record { part = 1; entry = core.Inside (txn 0); settling = flying 1 [] (core.Inside (txn 0)) c.start_in.new.seat k; quiet = refl }

pub returns : goal.returns
returns g c =
    let is : c.start_in.result ≡ true = search rules in
    let k = inside_starts _ g.N.Naming.lists 0 (within g.N.Naming.lists c.requires.lists) c.start_in.result true [] c.args.part.now c.start_in.new.seat c.requires.seat is c.start_in.ensures.within in
    λ t. settles_to 1 [] (core.Inside (txn 0)) c.start_in.new.seat c.settle_own.new.seat k (ap (λ (u : View). u.rows) c.settle_own.ensures.view)
