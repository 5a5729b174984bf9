-- What is read of the records of a snapshot.
use Rattle.std.specs.Prelude.{◌≡◌, ◌⊎◌, ◌<◌, ◌^◌, ℕ, List, ◌++◌, length, All}
use Rattle.std.specs.List.{flat_map}
use Rattle.byteorder.specs.Endian.{big_bytes}
use Rattle.txn_base.specs.declared.txn.TxnId.{TxnId}
use Rattle.txn_base.specs.declared.txn.Decision.{Decision}
use Rattle.txn_base.specs.declared.snapshot.Snapshot.{Snapshot}
use Rattle.txn_base.specs.Snapshots.{ends_records}
use Rattle.txn_base.specs.Records.{IsEnd, IsHeadRecord, IsEndsRecord, end_bytes, ends_record}

-- Behind those that stood there, the ends that these bytes are.
pub record AddsEnds (before after : List (TxnId × Decision)) (bytes : List ℕ) : Type 0 where
  pub ends : List (TxnId × Decision)
  pub after_is : after ≡ before ++ ends
  pub bytes_are : bytes ≡ flat_map end_bytes ends
  pub each : All IsEnd ends

-- Behind those that stood there, so many ends, of which these bytes are the record.
pub record AddsRecord (before after : List (TxnId × Decision)) (bytes : List ℕ) (count : ℕ) : Type 0 where
  pub ends : List (TxnId × Decision)
  pub after_is : after ≡ before ++ ends
  pub bytes_are : bytes ≡ ends_record ends
  pub count_is : length ends ≡ count
  pub each : All IsEnd ends

-- The ends behind their count.
abbrev pub counted_ends : List (TxnId × Decision) → List ℕ
counted_ends ends = big_bytes 2 (length ends) ++ flat_map end_bytes ends

-- How many records of ends a snapshot has.
abbrev pub piece_count : Snapshot → ℕ
piece_count snap = length (ends_records 63 snap.ends)

-- These bytes are so many ends.
pub record AreEnds (bytes : List ℕ) (count : ℕ) : Type 0 where
  pub ends : List (TxnId × Decision)
  pub bytes_are : bytes ≡ flat_map end_bytes ends
  pub count_is : length ends ≡ count
  pub each : All IsEnd ends

-- These bytes are a count and so many ends.
pub record AreCounted (bytes : List ℕ) : Type 0 where
  pub ends : List (TxnId × Decision)
  pub bytes_are : bytes ≡ counted_ends ends
  pub count_fits : length ends < 2 ^ 16
  pub each : All IsEnd ends

-- These bytes are the record of some ends.
abbrev pub IsRecordOfEnds : List ℕ → Type 0
IsRecordOfEnds bytes = (ends : List (TxnId × Decision)) × IsEndsRecord bytes ends

-- These bytes are a head, or the record of some ends.
abbrev pub IsSnapshotRecord : List ℕ → Type 0
IsSnapshotRecord bytes = ((entries : ℕ) × (limit : ℕ) × (ends : ℕ) × IsHeadRecord bytes entries limit ends) ⊎ IsRecordOfEnds bytes
