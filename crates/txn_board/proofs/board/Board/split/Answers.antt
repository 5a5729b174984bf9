use Rattle.std.proofs.Common.{sym, ◌∙◌, arith}
use Rattle.txn_board.proofs.Seating.{deals, deal_keeps}
use Rattle.txn_board.proofs.board.Board.split.Goals as goal

pub split_seat-seat-requires : goal.split_seat-seat-requires
split_seat-seat-requires g c =
    let b = c.args.self.now in (
      c.seat.invariant.0 ∙ sym b.named,
      omega (arith, b.count),
      λ s h seat. (deal_keeps c.seat.inside.seat.id c.seat.inside.seat.me.0 s h.0 seat, λ p. deals b.table.shared.key c.seat.inside.seat.id c.seat.inside.seat.me.0 s (h.1 p) seat),
    )
