-- What the files of a disk stand for, and when they are sound. There is no file for the catalog yet: its names are given.
use Rattle.std.specs.Prelude.{◌≡◌, ◌⊎◌, ℕ, Bool, ◌<◌, ◌≤◌, true, List, [], ◌∷◌, ◌++◌, length}
use Rattle.txn_base.specs.declared.file_id.FileId.{FileId}
use Rattle.txn_base.specs.declared.entry.TopicEntry.{TopicEntry}
use Rattle.txn_base.specs.Disk.{Files}
use Rattle.txn_base.specs.Entries.{bare}
use Rattle.txn_base.specs.Frames.{Record, Batch, records, Stands}
use Rattle.txn_base.specs.Records.{IsCoordRecord, IsTopicRecord, IsAckRecord}
use Rattle.txn_model.specs.declared.world.World.{World}
use Rattle.txn_model.specs.Words.{has, list_at}
use Rattle.txn_model.specs.World.{Lawful, Flights, with_kept}
use Rattle.txn_model.specs.Shape.{topic_parts, sub_parts, Shaped}

-- The file of this row of the part p; its ledger is that of row 2.
abbrev pub part_file : ℕ → ℕ → FileId
part_file p row = record { part = p; row = row }

abbrev pub ledger_file : ℕ → FileId
ledger_file p = part_file p 2

-- By what `is` says of a record and an entry, these records are those of these entries, one by one.
abbrev pub RecordsOf : {E : Type 0} → (Record → E → Type 0) → List Record → List E → Type 0
RecordsOf is [] [] = Unit {0}
RecordsOf is [] (e ∷ es) = ⊥
RecordsOf is (r ∷ rs) [] = ⊥
RecordsOf is (r ∷ rs) (e ∷ es) = is r e × RecordsOf is rs es

-- By what `is` says of a record and an entry, these bytes stand for these entries: they stand for batches, and the
-- records of the batches are those of the entries.
pub record StandsForEntries {E : Type 0} (is : Record → E → Type 0) (bytes : List ℕ) (entries : List E) : Type 0 where
  pub batches : List Batch
  pub stands : Stands bytes batches
  pub each : RecordsOf is (records batches) entries

-- These bytes are the record of this entry of a topic, whose body has no room behind it.
pub record IsBareRecord (bytes : Record) (entry : TopicEntry) : Type 0 where
  pub of_entry : IsTopicRecord bytes entry
  pub no_room : bare entry ≡ entry

-- With these names, each file of rows 0 to 65 of a part from 1 to 62 without a name stands for no batch.
abbrev pub NoOthers : List (List ℕ) → Files → Type 0
NoOthers names files = (p row : ℕ) → length names < p → p ≤ 62 → row ≤ 65 → Stands (files (part_file p row)) []

-- With these names, the files stand for the world w: each ledger's file stands for its list, and there is no other.
pub record StandsFor (names : List (List ℕ)) (files : Files) (w : World) : Type 0 where
  pub named : w.names ≡ names
  pub shaped : Shaped w
  pub coord : StandsForEntries IsCoordRecord (files (ledger_file 0)) w.coord
  pub topics : (p : ℕ) → has (topic_parts names) p ≡ true → StandsForEntries IsBareRecord (files (ledger_file p)) (list_at w.topics p)
  pub subs : (p : ℕ) → has (sub_parts names) p ≡ true → StandsForEntries IsAckRecord (files (ledger_file p)) (list_at w.subs p)
  pub others : NoOthers names files

-- With these names, the files are sound: they stand for a lawful world.
pub record Sound (names : List (List ℕ)) (files : Files) : Type 0 where
  pub world : World
  pub stands : StandsFor names files world
  pub lawful : Lawful world

-- With these names, the files stand for what a stop keeps of the world w and the flights f.
abbrev pub StandsForKept : List (List ℕ) → Files → World → Flights → Type 0
StandsForKept names files w f = (stays : ℕ → Bool) × StandsFor names files (with_kept w f stays)

-- By what `is` says, these bytes stand for these entries, or for them with the flight behind them.
abbrev pub StandsForEither : {E : Type 0} → (Record → E → Type 0) → List ℕ → List E → List E → Type 0
StandsForEither is bytes entries flight = StandsForEntries is bytes entries ⊎ StandsForEntries is bytes (entries ++ flight)

-- With these names, each ledger's file stands for its list in the world w with its flight or without, part by part, and
-- there is no other.
pub record LedgersStand (names : List (List ℕ)) (files : Files) (w : World) (f : Flights) : Type 0 where
  pub named : w.names ≡ names
  pub shaped : Shaped w
  pub coord : StandsForEither IsCoordRecord (files (ledger_file 0)) w.coord f.coord
  pub topics : (p : ℕ) → has (topic_parts names) p ≡ true → StandsForEither IsBareRecord (files (ledger_file p)) (list_at w.topics p) (f.topics p)
  pub subs : (p : ℕ) → has (sub_parts names) p ≡ true → StandsForEither IsAckRecord (files (ledger_file p)) (list_at w.subs p) (f.subs p)
  pub others : NoOthers names files
