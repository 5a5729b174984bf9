use Rattle.std.proofs.Common.{take}
use Rattle.txn_memdisk.specs.Places.{Misses}
use Rattle.txn_memdisk.proofs.files.find.Given as goal

abbrev pub invariant-loop-i : goal.invariant-loop-i
invariant-loop-i l = Misses (take l.i l.files) l.id
