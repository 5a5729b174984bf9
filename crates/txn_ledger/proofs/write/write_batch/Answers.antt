use Rattle.std.proofs.Common.{rules}
use Rattle.txn_ledger.proofs.Append.{closed, appends, in_doubt, stands}
use Rattle.txn_ledger.proofs.write.write_batch.Goals as goal

pub write_frame-requires-clause-closed : goal.write_frame-requires-clause-closed
write_frame-requires-clause-closed g c = closed c.args.carrier.now.content c.requires.settled c.args.end c.requires.ends c.args.file c.requires.file _ c.requires.backed

pub returns-in_err-write_frame-clause-images : goal.returns-in_err-write_frame-clause-images
returns-in_err-write_frame-clause-images g c =
    appends c.args.carrier.now.content c.requires.settled c.args.end c.requires.ends c.args.file c.requires.file g.D.Disk _ c.requires.batch _ c.requires.tail _ _ c.requires.backed c.write_frame.ensures.images

pub returns-clause-images : goal.returns-clause-images
returns-clause-images g c =
    appends c.args.carrier.now.content c.requires.settled c.args.end c.requires.ends c.args.file c.requires.file g.D.Disk _ c.requires.batch _ c.requires.tail _ _ c.requires.backed c.write_frame.ensures.images

pub returns-in_err-write_frame-clause-err : goal.returns-in_err-write_frame-clause-err
returns-in_err-write_frame-clause-err g c =
    let doubt =
    in_doubt c.args.carrier.now.content c.requires.settled c.args.end c.requires.ends c.args.file c.requires.file g.D.Disk _ c.requires.batch _ c.requires.tail _ _ c.requires.backed c.write_frame.ensures.images in
    search rules

pub returns-clause-ok : goal.returns-clause-ok
returns-clause-ok g c =
    stands c.args.carrier.now.content c.requires.settled c.args.end c.requires.ends c.args.file c.requires.file g.D.Disk _ c.requires.batch _ c.requires.tail _ _ c.requires.backed c.write_frame.ensures.images c.in_ok-write_frame.ensures.opened
