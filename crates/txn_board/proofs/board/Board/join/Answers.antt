use Rattle.std.proofs.Common.{sym, ◌∙◌, arith}
use Rattle.txn_board.proofs.Seating.{joins, join_keeps}
use Rattle.txn_board.proofs.board.Board.join.Goals as goal

pub join_seat-requires : goal.join_seat-requires
join_seat-requires g c =
    let b = c.args.self.now in (
      c.seat.invariant.0 ∙ sym b.named,
      c.other.invariant.0 ∙ sym b.named,
      c.other.invariant.1,
      omega (arith, b.count),
      λ s h seat n there. (
        join_keeps c.seat.inside.seat.id c.seat.inside.seat.me.0 c.other.inside.seat.id c.other.inside.seat.me.0 s h.0 seat n there,
        λ p. joins b.table.shared.key c.seat.inside.seat.id c.seat.inside.seat.me.0 c.other.inside.seat.id c.other.inside.seat.me.0 s (h.1 p) seat n there,
      ),
    )
