-- The batch of a snapshot file: a head, then the ends in records of 3,000, the last of which may have fewer.
use Rattle.std.specs.Prelude.{◌≡◌, ℕ, zero, suc, ◌<◌, ◌≤◌, ◌⊎◌, List, [], ◌∷◌, length, take, drop, All, AllPairs}
use Rattle.txn_base.specs.declared.txn.TxnId.{TxnId}
use Rattle.txn_base.specs.declared.txn.Decision.{Decision}
use Rattle.txn_base.specs.declared.snapshot.Snapshot.{Snapshot}
use Rattle.txn_base.specs.Frames.{Batch, Record}
use Rattle.txn_base.specs.Records.{IsWord, IsEnd, head_record, ends_record}

-- By the most significant number, then the least, x comes before y.
abbrev pub ComesBefore : TxnId → TxnId → Type 0
ComesBefore x y = (x.most < y.most) ⊎ ((x.most ≡ y.most) × (x.least < y.least))

-- The piece of this number, from 0, of the ends.
abbrev pub ends_piece : List (TxnId × Decision) → ℕ → List (TxnId × Decision)
ends_piece ends zero = take 3000 ends
ends_piece ends (suc piece) = ends_piece (drop 3000 ends) piece

-- The records of the ends, where so many are to come at most.
abbrev pub ends_records : ℕ → List (TxnId × Decision) → List Record
ends_records zero ends = []
ends_records (suc more) [] = []
ends_records (suc more) (end ∷ ends) = ends_record (take 3000 (end ∷ ends)) ∷ ends_records more (drop 3000 (end ∷ ends))

-- A batch has at most 64 records, so at most 63 of ends.
abbrev pub snapshot_batch : Snapshot → Batch
snapshot_batch snap = head_record snap.entries snap.limit (length snap.ends) ∷ ends_records 63 snap.ends

-- The numbers fit, and the ends ascend strictly and fit a batch.
pub record IsSnapshot (snap : Snapshot) : Type 0 where
  pub entries_fit : IsWord snap.entries
  pub limit_fits : IsWord snap.limit
  pub few : length snap.ends ≤ 189000
  pub each : All IsEnd snap.ends
  pub ascending : AllPairs (λ a b. ComesBefore a.0 b.0) snap.ends

-- This batch is that of this snapshot.
pub record IsSnapshotBatch (batch : Batch) (snap : Snapshot) : Type 0 where
  pub records_are : batch ≡ snapshot_batch snap
  pub fits : IsSnapshot snap
