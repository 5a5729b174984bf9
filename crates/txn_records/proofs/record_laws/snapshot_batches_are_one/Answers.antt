use Rattle.txn_records.proofs.SnapshotBatch.{snapshot_one}
use Rattle.txn_records.proofs.record_laws.snapshot_batches_are_one.Goals as goal

pub returns : goal.returns
returns c = snapshot_one
