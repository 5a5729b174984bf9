use Rattle.std.proofs.Common.{rules, ◌≡◌, Some}
use Rattle.txn_board.specs.declared.words.Word.TheVariants.{Decided}
use Rattle.txn_board.specs.Calls.{start_place}
use Rattle.txn_board.proofs.Startings.{starts_marker, placed}
use Rattle.txn_board.proofs.board.Board.start_marker.Goals as goal

pub step-dec-requires-clause-allowed : goal.step-dec-requires-clause-allowed
step-dec-requires-clause-allowed g c =
    let lists = g.N.Naming.lists in
    let at : start_place lists c.args.txn Decided ≡ Some c.in_ok-place.place = search rules in
    let k = placed lists c.args.txn Decided c.in_ok-place.place at in
    λ p id. starts_marker lists id c.args.seat.now c.in_ok-place.place c.args.txn k.0 k.1 (c.requires p)
