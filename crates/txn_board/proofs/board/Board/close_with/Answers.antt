use Rattle.std.proofs.Common.{sym, subst, List, ◌<◌, length}
use Rattle.txn_base.specs.declared.core_entry.CoreEntry.{CoreEntry}
use Rattle.txn_core.specs.Together.{AreLawful}
use Rattle.txn_board.specs.declared.view.View.{View}
use Rattle.txn_board.specs.Rows.{parts_in, HasSeatRow, kept_rows}
use Rattle.txn_board.proofs.Seating.{closes}
use Rattle.txn_board.proofs.board.Board.close_with.Goals as goal

pub returns : goal.returns
returns g c =
    let b = c.args.self in
    let f = c.close_with.ensures.values.2 in
    let v : View = c.seat.inside.seat.me.0 in
    λ p stays.
    subst (λ (k : List (List CoreEntry)). AreLawful (parts_in k) (kept_rows c.args.seat.rows stays)) b.lists_are
    (subst (λ (u : View). AreLawful (parts_in b.table.shared.key) (kept_rows u.rows stays)) c.seat.view_is
    (closes b.table.shared.key f.0 c.seat.inside.seat.id v (f.1.0.1 p) f.1.1
    (λ q lt. subst (λ (u : View). HasSeatRow q u.rows) (sym c.seat.view_is) (c.requires q (subst (λ (k : List (List CoreEntry)). q < length k) b.lists_are lt)))
    stays))
