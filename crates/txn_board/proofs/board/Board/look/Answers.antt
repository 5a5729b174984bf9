use Rattle.std.proofs.Common.{rules, ◌<◌, ◌+◌, ◌-◌, ◌*◌, refl, sym, ◌∙◌, arith}
use Rattle.txn_board.specs.Rows.{loaded}
use Rattle.txn_board.proofs.Marks.{offset_small}
use Rattle.txn_board.proofs.Steps.{looks, guarded_found}
use Rattle.txn_board.proofs.board.Board.look.Goals as goal

pub load-requires : goal.load-requires
load-requires g c =
    let b = c.args.self.now in
    let me = c.seat.inside.seat.me in
    let id = c.seat.inside.seat.id in
    let lists = g.N.Naming.lists in
    let place = 3 * (c.args.txn - b.low) + c.offset_of-2.result in
    let in_window : c.args.txn - b.low < 65536 = search rules in (
      c.seat.invariant.0 ∙ sym b.named,
      omega (arith, in_window, b.count, c.offset_of-2.ensures, offset_small c.args.word),
      guarded_found g.T.Promise.made b.table.shared.key lists b.lists_are b.table.shared.table_id.slots id me place (λ n. loaded place n me.0) (λ n. refl) (λ p s h seat. looks lists s h id me.0 seat place),
    )
