use Rattle.std.proofs.Common.{◌≡◌, ◌*◌, ◌-◌, ◌≤◌, length, take}
use Rattle.txn_board.specs.Words.{WordsSay}
use Rattle.txn_board.specs.Rows.{list_in}
use Rattle.txn_board.proofs.fill.note_lists.Given as goal

abbrev pub invariant-loop-part : goal.invariant-loop-part
invariant-loop-part l = (length l.words ≡ 3 * l.fn.count) × (l.part ≤ length l.fn.lists) × WordsSay 0 l.fn.count l.words (list_in (take l.part l.fn.lists))

abbrev pub decreases-loop-part : goal.decreases-loop-part
decreases-loop-part l = length l.fn.lists - l.part
