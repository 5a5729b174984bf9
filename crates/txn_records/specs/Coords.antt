-- The laws of the records of the coordinator's log.
use Rattle.std.specs.Prelude.{◌≡◌, ℕ, List}
use Rattle.txn_base.specs.declared.entry.CoordEntry.{CoordEntry}
use Rattle.txn_base.specs.Decoded.{coord_entry_of}
use Rattle.txn_base.specs.Records.{IsCoordEntry, IsCoordRecord, coord_record}

-- The entry of a record's bytes is the one that it is the record of.
abbrev pub CoordRecordsDecode : Type 0
CoordRecordsDecode = (bytes : List ℕ) (entry : CoordEntry) → IsCoordRecord bytes entry → coord_entry_of bytes ≡ entry

-- A record stands for one entry.
abbrev pub CoordRecordsAreOne : Type 0
CoordRecordsAreOne = (bytes : List ℕ) (a b : CoordEntry) → IsCoordRecord bytes a → IsCoordRecord bytes b → a ≡ b

-- The record of an entry is read as that entry.
abbrev pub CoordRecordsReadBack : Type 0
CoordRecordsReadBack = (entry read : CoordEntry) → IsCoordEntry entry → IsCoordRecord (coord_record entry) read → read ≡ entry
