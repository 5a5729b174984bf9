-- The laws of the records of the catalog.
use Rattle.std.specs.Prelude.{◌≡◌, ℕ, true, List}
use Rattle.txn_base.specs.Decoded.{name_of_record}
use Rattle.txn_base.specs.Names.{is_name}
use Rattle.txn_base.specs.Records.{IsNameRecord, name_record}

-- The name of a record's bytes is the one that it is the record of.
abbrev pub NameRecordsDecode : Type 0
NameRecordsDecode = (bytes name : List ℕ) → IsNameRecord bytes name → name_of_record bytes ≡ name

-- A record stands for one name.
abbrev pub NameRecordsAreOne : Type 0
NameRecordsAreOne = (bytes a b : List ℕ) → IsNameRecord bytes a → IsNameRecord bytes b → a ≡ b

-- The record of a name is read as that name.
abbrev pub NameRecordsReadBack : Type 0
NameRecordsReadBack = (name read : List ℕ) → is_name name ≡ true → IsNameRecord (name_record name) read → read ≡ name
