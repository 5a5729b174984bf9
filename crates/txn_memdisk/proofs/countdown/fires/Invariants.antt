use Rattle.std.proofs.Common.{◌≡◌, ◌++◌, take, drop}
use Rattle.txn_memdisk.specs.Countdown.{counted_down}
use Rattle.txn_memdisk.proofs.countdown.fires.Given as goal

abbrev pub invariant-loop-wait : goal.invariant-loop-wait
invariant-loop-wait l = l.waits ≡ counted_down (take l.wait-index l.initial.waits) ++ drop l.wait-index l.initial.waits
