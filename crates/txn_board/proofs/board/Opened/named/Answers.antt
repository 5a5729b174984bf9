use Rattle.std.proofs.Common.{◌+◌, ◌≤◌, ℕ, List, length, sym, ap, ◌∙◌, subst, arith}
use Rattle.txn_board.specs.declared.view.View.{View}
use Rattle.txn_board.specs.Rows.{AreFrom}
use Rattle.txn_board.proofs.Seating.{from_opening, count_from}
use Rattle.txn_board.proofs.board.Opened.named.Goals as goal

pub invariant_of-result : goal.invariant_of-result
invariant_of-result g c =
    let o = c.args.self in
    let lists = o.table.shared.key in (
      o.seat_fits ∙ c.requires.table,
      ap (λ (m : View × List (ℕ × ℕ)). m.1) o.seat_is,
      subst (λ (m : View × List (ℕ × ℕ)). AreFrom 0 m.0.rows) (sym o.seat_is) (from_opening 0 lists),
      subst (λ (m : View × List (ℕ × ℕ)). 0 + length m.0.rows ≤ 63) (sym o.seat_is) (omega (arith, count_from 0 lists, o.few)),
    )
