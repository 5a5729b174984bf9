use Rattle.std.proofs.Common.{length, ap, arith}
use Rattle.txn_base.specs.Frames.{Batch}
use Rattle.txn_ledger.specs.Bodies.{batch_in}
use Rattle.txn_ledger.proofs.Bodies.{frame_length}
use Rattle.txn_ledger.proofs.Tied.{scanned_landed}
use Rattle.txn_ledger.proofs.found.Found.add_frame.Goals as goal

pub returns-clause-scanned : goal.returns-clause-scanned
returns-clause-scanned c =
    let batch : Batch = batch_in c.args.body.now in
    let is = c.if-not-branch.false in
    scanned_landed _ _ _ c.requires.scanned batch (c.in_ok-add_records.ensures.batch is) _ (c.in_ok-add_records.ensures.positions is) _ c.of.ensures _
    (omega (arith, frame_length batch, ap length (c.in_ok-add_records.ensures.filled is)))
    (omega (arith, c.requires.bound))
