use Rattle.std.proofs.Common.{◌≡◌, ◌-◌, ◌≤◌, ℕ, List}
use Rattle.txn_base.specs.declared.core_entry.CoreEntry.{CoreEntry}
use Rattle.txn_model.specs.Coord.{count_new}
use Rattle.txn_board.specs.Words.{WordsSay, has_closing}
use Rattle.txn_board.proofs.Watermark.{open_from}
use Rattle.txn_board.proofs.fill.low_watermark.Given as goal

abbrev pub invariant-loop-low : goal.invariant-loop-low
invariant-loop-low l =
    (l.low ≤ l.fn.begun)
    × ((lists : ℕ → List CoreEntry) (count : ℕ) → l.fn.begun ≤ count → WordsSay 0 count l.fn.words lists → l.fn.begun ≡ count_new (lists 0) → open_from (has_closing (lists 0)) (l.fn.begun - l.low) l.low ≡ open_from (has_closing (lists 0)) l.fn.begun 0)

abbrev pub decreases-loop-low : goal.decreases-loop-low
decreases-loop-low l = l.fn.begun - l.low
