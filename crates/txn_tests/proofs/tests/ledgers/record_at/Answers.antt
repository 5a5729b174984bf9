use Rattle.txn_base.proofs.Laws.{begins_with}
use Rattle.txn_tests.proofs.tests.ledgers.record_at.Goals as goal

pub get-requires-clause-reads : goal.get-requires-clause-reads
get-requires-clause-reads g c = λ told.
    let on = g.R.RecordLog in
    begins_with on.stands on.exactly on.begins g.met.R.RecordLog.stands_begins (g.D.Disk.image c.args.disk.now) (on.content c.args.log.now) c.requires.backed _ (g.met.D.Disk.seen_is_image _ told)
