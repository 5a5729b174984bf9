use Rattle.txn_base.proofs.Laws.{begins_with}
use Rattle.txn_tests.proofs.tests.topics.read_63.Goals as goal

pub read-requires-clause-reads : goal.read-requires-clause-reads
read-requires-clause-reads g c = λ told.
    let on = g.R.RecordLog in
    begins_with on.stands on.exactly on.begins g.met.R.RecordLog.stands_begins (g.D.Disk.image c.args.disk.now) c.args.topic.now.content c.requires.backed _ (g.met.D.Disk.seen_is_image _ told)
