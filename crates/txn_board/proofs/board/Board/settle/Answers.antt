use Rattle.std.proofs.Common.{refl, sym, ◌∙◌, subst, arith}
use Rattle.std.specs.Int.Bits.{bit_or}
use Rattle.txn_board.specs.Rows.{settle_view}
use Rattle.txn_board.specs.Calls.{IsSetting}
use Rattle.txn_board.proofs.Steps.{guarded_settled, or_keeps}
use Rattle.txn_board.proofs.Settling.{settles_mark}
use Rattle.txn_board.proofs.board.Board.settle.Goals as goal

pub fetch_or-requires : goal.fetch_or-requires
fetch_or-requires g c =
    let b = c.args.self.now in
    let me = c.seat.inside.seat.me in
    let id = c.seat.inside.seat.id in
    let lists = g.N.Naming.lists in
    let place = c.bit_of-place.result.0 in
    let mask = c.bit_of-place.result.1 in (
      c.seat.invariant.0 ∙ sym b.named,
      omega (arith, b.count, c.bit_of-place.ensures.place),
      guarded_settled g.T.Promise.made b.table.shared.key lists b.lists_are b.table.shared.table_id.slots id me place (λ n. bit_or n mask) (or_keeps id me.0 place mask (settle_view me.0) refl)
          (λ p. settles_mark lists id me.0 c.args.mark place mask (subst (IsSetting c.args.mark) (sym c.seat.view_is) (c.requires.first p)) c.bit_of-place.ensures.bits),
    )
