use Rattle.std.proofs.Common.{◌<◌, length, arith}
use Rattle.txn_memdisk.specs.Faults.{fault_counted}
use Rattle.txn_memdisk.proofs.Counted.{one_more}
use Rattle.txn_memdisk.proofs.fault.fires_at.Goals as goal

pub loop-fault-preserved : goal.loop-fault-preserved
loop-fault-preserved c =
    let below : c.loop-fault.fault-index < length c.args.faults.now = omega arith in
    one_more (fault_counted c.args.file c.args.op) c.args.faults.now c.loop-fault.faults c.loop-fault.fault-index _ c.counted.result c.loop-fault.invariant below c.counted.ensures
