use Rattle.std.proofs.Common.{ℕ, ◌-◌, ◌<◌, length, arith}
use Rattle.txn_memdisk.proofs.Counted.{one_more}
use Rattle.txn_memdisk.proofs.countdown.fires.Goals as goal

pub loop-wait-preserved : goal.loop-wait-preserved
loop-wait-preserved c =
    let below : c.loop-wait.wait-index < length c.args.waits.now = omega arith in
    one_more (λ (n : ℕ). n - 1) c.args.waits.now c.loop-wait.waits c.loop-wait.wait-index 0 c.saturating_sub.result c.loop-wait.invariant below c.saturating_sub.ensures
