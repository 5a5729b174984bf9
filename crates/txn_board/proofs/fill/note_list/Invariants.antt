use Rattle.std.proofs.Common.{◌≡◌, ◌*◌, ◌-◌, ◌≤◌, ℕ, List, length, take}
use Rattle.txn_base.specs.declared.core_entry.CoreEntry.{CoreEntry}
use Rattle.txn_board.specs.Words.{WordsSay, with_more}
use Rattle.txn_board.proofs.fill.note_list.Given as goal

abbrev pub invariant-loop-at : goal.invariant-loop-at
invariant-loop-at l =
    (length l.words ≡ 3 * l.fn.count) × (l.at ≤ length l.fn.entries)
    × ((lists : ℕ → List CoreEntry) → WordsSay 0 l.fn.count l.fn.words lists → WordsSay 0 l.fn.count l.words (with_more lists l.fn.part (take l.at l.fn.entries)))

abbrev pub decreases-loop-at : goal.decreases-loop-at
decreases-loop-at l = length l.fn.entries - l.at
