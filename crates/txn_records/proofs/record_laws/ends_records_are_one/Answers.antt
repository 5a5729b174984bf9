use Rattle.txn_records.proofs.SnapshotBatch.{ends_record_one}
use Rattle.txn_records.proofs.record_laws.ends_records_are_one.Goals as goal

pub returns : goal.returns
returns c = ends_record_one
