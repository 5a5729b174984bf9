-- The laws of the records of snapshots.
use Rattle.std.specs.Prelude.{◌≡◌, ℕ, List}
use Rattle.txn_base.specs.declared.txn.TxnId.{TxnId}
use Rattle.txn_base.specs.declared.txn.Decision.{Decision}
use Rattle.txn_base.specs.declared.snapshot.Snapshot.{Snapshot}
use Rattle.txn_base.specs.Frames.{Batch}
use Rattle.txn_base.specs.Records.{IsEndsRecord}
use Rattle.txn_base.specs.Snapshots.{IsSnapshot, IsSnapshotBatch, snapshot_batch}

-- A record of ends stands for one list of them.
abbrev pub EndsRecordsAreOne : Type 0
EndsRecordsAreOne = (bytes : List ℕ) (a b : List (TxnId × Decision)) → IsEndsRecord bytes a → IsEndsRecord bytes b → a ≡ b

-- A batch stands for one snapshot.
abbrev pub SnapshotBatchesAreOne : Type 0
SnapshotBatchesAreOne = (batch : Batch) (a b : Snapshot) → IsSnapshotBatch batch a → IsSnapshotBatch batch b → a ≡ b

-- The batch of a snapshot is read as that snapshot.
abbrev pub SnapshotsReadBack : Type 0
SnapshotsReadBack = (snap read : Snapshot) → IsSnapshot snap → IsSnapshotBatch (snapshot_batch snap) read → read ≡ snap
