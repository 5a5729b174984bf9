use Rattle.txn_records.proofs.SnapshotBatch.{snapshot_reads_back}
use Rattle.txn_records.proofs.record_laws.snapshots_read_back.Goals as goal

pub returns : goal.returns
returns c = snapshot_reads_back
