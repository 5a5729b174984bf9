use Rattle.std.proofs.Common.{◌≡◌, ◌++◌, take, drop}
use Rattle.txn_memdisk.specs.Faults.{counted_at}
use Rattle.txn_memdisk.proofs.fault.fires_at.Given as goal

abbrev pub invariant-loop-fault : goal.invariant-loop-fault
invariant-loop-fault l = l.faults ≡ counted_at l.file l.op (take l.fault-index l.initial.faults) ++ drop l.fault-index l.initial.faults
