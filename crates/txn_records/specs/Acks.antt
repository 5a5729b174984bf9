-- What is said of the entries of a subscription's ledger beside their bytes.
use Rattle.std.specs.Prelude.{◌≡◌, ℕ, List}
use Rattle.txn_base.specs.declared.txn.TxnId.{TxnId}
use Rattle.txn_base.specs.declared.txn.Decision.{Decision}
use Rattle.txn_base.specs.declared.txn.Decision.TheVariants as decision
use Rattle.txn_base.specs.declared.entry.AckEntry.{AckEntry}
use Rattle.txn_base.specs.declared.entry.AckEntry.TheVariants as ack
use Rattle.txn_base.specs.Decoded.{ack_entry_of}
use Rattle.txn_base.specs.Records.{IsAckEntry, IsAckRecord, ack_record}

-- The marker that ends a transaction so.
abbrev pub ack_marker_of : TxnId → Decision → AckEntry
ack_marker_of x decision.Commit = ack.Commit x
ack_marker_of x decision.Abort = ack.Abort x

-- The entry of a record's bytes is the one that it is the record of.
abbrev pub AckRecordsDecode : Type 0
AckRecordsDecode = (bytes : List ℕ) (entry : AckEntry) → IsAckRecord bytes entry → ack_entry_of bytes ≡ entry

-- A record stands for one entry.
abbrev pub AckRecordsAreOne : Type 0
AckRecordsAreOne = (bytes : List ℕ) (a b : AckEntry) → IsAckRecord bytes a → IsAckRecord bytes b → a ≡ b

-- The record of an entry is read as that entry.
abbrev pub AckRecordsReadBack : Type 0
AckRecordsReadBack = (entry read : AckEntry) → IsAckEntry entry → IsAckRecord (ack_record entry) read → read ≡ entry
