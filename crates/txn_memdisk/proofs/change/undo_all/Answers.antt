use Rattle.std.proofs.Common.{◌<◌, ◌≤◌, ◌∙◌, length, arith}
use Rattle.txn_memdisk.proofs.Undoing.{undone_less}
use Rattle.txn_memdisk.proofs.change.undo_all.Goals as goal

pub loop-i-preserved : goal.loop-i-preserved
loop-i-preserved c =
    let some : 0 < c.loop-i.i = omega arith in
    let below : c.loop-i.i ≤ length c.args.pending.now = omega arith in
    undone_less c.args.pending.now c.loop-i.i c.index-pending-i.result c.loop-i.bytes.items _ some below c.in_ok-undo_one.ensures ∙ c.loop-i.invariant
