use Rattle.std.proofs.Common.{◌≡◌, ◌+◌, ◌≤◌, ◌++◌, length, take}
use Rattle.txn_coordinator.proofs.replay.apply_all.Given as goal

abbrev pub invariant-loop-entry : goal.invariant-loop-entry
invariant-loop-entry l = record { front : l.table.front ≡ l.initial.table.front ++ take l.entry-index l.staged; room : length l.staged ≤ l.table.room + l.entry-index }
