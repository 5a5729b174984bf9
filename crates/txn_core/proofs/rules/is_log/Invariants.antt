use Rattle.std.proofs.Common.{◌≡◌, ◌-◌, ◌≤◌, [], take, drop, length}
use Rattle.txn_model.specs.Words.{all_follow}
use Rattle.txn_model.specs.Coord.{coord_allows}
use Rattle.txn_core.proofs.rules.is_log.Given as goal

abbrev pub invariant-loop-at : goal.invariant-loop-at
invariant-loop-at l = (all_follow (coord_allows 62) (take l.at l.fn.log) (drop l.at l.fn.log) ≡ all_follow (coord_allows 62) [] l.fn.log) × (l.at ≤ length l.fn.log)

abbrev pub decreases-loop-at : goal.decreases-loop-at
decreases-loop-at l = length l.fn.log - l.at
