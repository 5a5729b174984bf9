use Rattle.std.proofs.Common.{◌∙◌, arith, length-drop}
use Rattle.txn_base.proofs.Puts.{puts_more, rest_is}
use Rattle.txn_base.proofs.sink.put_all.Goals as goal

pub loop-done-preserved : goal.loop-done-preserved
loop-done-preserved g c =
    let bound = rw rest_is at c.in_ok-count.ensures.bound in
    record {
      within = omega (arith, length-drop c.loop-done.done c.args.bytes.now, bound);
      put = puts_more _ _ _ c.args.bytes.now c.loop-done.done c.in_ok-count.count c.loop-done.invariant.put c.in_ok-count.ensures.bytes;
      beside = c.in_ok-count.ensures.beside ∙ c.loop-done.invariant.beside;
      later = omega arith;
    }
