use Rattle.std.proofs.Common.{◌≡◌, take}
use Rattle.txn_memdisk.specs.Change.{undone}
use Rattle.txn_memdisk.proofs.change.undo_all.Given as goal

abbrev pub invariant-loop-i : goal.invariant-loop-i
invariant-loop-i l = undone (take l.i l.pending) l.bytes.items ≡ undone l.pending l.initial.bytes.items
