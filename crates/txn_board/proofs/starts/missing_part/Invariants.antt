use Rattle.std.proofs.Common.{◌≡◌, ◌-◌, ◌≤◌}
use Rattle.txn_board.proofs.Closings.{missing_from}
use Rattle.txn_board.proofs.starts.missing_part.Given as goal

abbrev pub invariant-loop-part : goal.invariant-loop-part
invariant-loop-part l = (1 ≤ l.part) × (l.part ≤ 64) × (missing_from l.fn.reg l.fn.done (64 - l.part) l.part ≡ missing_from l.fn.reg l.fn.done 63 1)

abbrev pub decreases-loop-part : goal.decreases-loop-part
decreases-loop-part l = 64 - l.part
