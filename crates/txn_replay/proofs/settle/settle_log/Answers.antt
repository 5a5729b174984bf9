use Rattle.txn_base.proofs.Laws.{begins_with}
use Rattle.txn_replay.proofs.settle.settle_log.Goals as goal

pub returns-then-is_settled-clause-reads : goal.returns-then-is_settled-clause-reads
returns-then-is_settled-clause-reads g c = λ told. let on = g.R.RecordLog in
    begins_with on.stands on.exactly on.begins g.met.R.RecordLog.stands_begins (g.D.Disk.image c.args.disk.now) (on.content c.args.log.now) c.requires.backed _ (g.met.D.Disk.seen_is_image _ told)

pub returns-in-Ok-clause-reads : goal.returns-in-Ok-clause-reads
returns-in-Ok-clause-reads g c = λ told. let on = g.R.RecordLog in
    begins_with on.stands on.exactly on.begins g.met.R.RecordLog.stands_begins (g.D.Disk.image c.settle.new.disk) (on.content c.settle.new.self) c.settle.ensures.backed _ (g.met.D.Disk.seen_is_image _ told)

pub returns-in-Err-clause-reads : goal.returns-in-Err-clause-reads
returns-in-Err-clause-reads g c = λ told. let on = g.R.RecordLog in
    begins_with on.stands on.exactly on.begins g.met.R.RecordLog.stands_begins (g.D.Disk.image c.settle.new.disk) (on.content c.settle.new.self) c.settle.ensures.backed _ (g.met.D.Disk.seen_is_image _ told)
