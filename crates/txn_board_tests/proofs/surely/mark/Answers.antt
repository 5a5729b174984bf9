use Rattle.std.proofs.Common.{rules, ◌≡◌, Some, [], ◌∷◌, refl, ap}
use Rattle.txn_base.specs.declared.core_entry.CoreEntry.TheVariants as core
use Rattle.txn_model.specs.Deadlines.{txn}
use Rattle.txn_board.specs.declared.view.View.{View}
use Rattle.txn_board.specs.Rows.{parts_in}
use Rattle.txn_board_tests.specs.Sure.{sent}
use Rattle.txn_board_tests.proofs.Shown.{within, resting, marker_starts, flying, settles_to}
use Rattle.txn_board_tests.proofs.surely.mark.Goals as goal

pub start_marker-requires : goal.start_marker-requires
start_marker-requires g c = λ p d. resting (parts_in g.N.Naming.lists) 1 sent (core.Marker (txn 0) d ∷ []) c.args.part.now c.requires.seat refl refl

pub settle_done-requires : goal.settle_done-requires
settle_done-requires g c =
    let d = c.in_ok-decision.decision in
    let is : c.start_marker.result ≡ Some d = search rules in
    let k = marker_starts _ g.N.Naming.lists 0 (within g.N.Naming.lists c.requires.lists) c.start_marker.result (Some d) sent c.args.part.now c.start_marker.new.seat c.requires.seat is c.start_marker.ensures.within in
    λ p. record { part = 1; decision = d; settling = flying 1 sent (core.Marker (txn 0) d) c.start_marker.new.seat k }

pub returns : goal.returns
returns g c =
    let d = c.in_ok-decision.decision in
    let is : c.start_marker.result ≡ Some d = search rules in
    let k = marker_starts _ g.N.Naming.lists 0 (within g.N.Naming.lists c.requires.lists) c.start_marker.result (Some d) sent c.args.part.now c.start_marker.new.seat c.requires.seat is c.start_marker.ensures.within in
    settles_to 1 sent (core.Marker (txn 0) d) c.start_marker.new.seat c.settle_done.new.seat k (ap (λ (u : View). u.rows) c.settle_done.ensures.view)
