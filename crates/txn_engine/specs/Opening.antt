-- What opening tells of the files.
use Rattle.std.specs.Prelude.{◌≡◌, ◌⊎◌, ℕ, zero, suc, ◌<◌, ◌≤◌, false, List, [], length, take, All, slice_index_or}
use Rattle.txn_base.specs.declared.entry.CoordEntry.{CoordEntry}
use Rattle.txn_base.specs.declared.file_id.FileId.{FileId}
use Rattle.txn_base.specs.Decoded.{coord_entry_of, coord_entries, topic_entries}
use Rattle.txn_base.specs.Disk.{Files}
use Rattle.txn_base.specs.Frames.{Batch, records, Stands, IsDamagedAt}
use Rattle.txn_base.specs.Records.{IsCoordRecord}
use Rattle.txn_buffer.specs.Mending.{IsFirstBadRecord}
use Rattle.txn_buffer.specs.Record.{IsInGrammar}
use Rattle.txn_buffer.specs.View as topic
use Rattle.txn_buffer.specs.View.{TopicView}
use Rattle.txn_coordinator.specs.View as coordinator
use Rattle.txn_coordinator.specs.View.{CoordView}
use Rattle.txn_ledger.specs.Found.{KeepsDamaged, KeepsFile}
use Rattle.txn_model.specs.declared.world.World.{World}
use Rattle.txn_model.specs.Coord.{CoordLawful, coord_allows}
use Rattle.txn_model.specs.Skeletons.{coord_skeleton, coord_skeletons}
use Rattle.txn_model.specs.Sound.{ledger_file, StandsFor}
use Rattle.txn_model.specs.Topic.{TopicLawful}

-- The bytes stand for records of a coordinator's log, whose entries are lawful where there are n named parts; for records
-- of a topic's ledger, whose entries are lawful.
abbrev pub IsLog : ℕ → List ℕ → Type 0
IsLog n bytes = (batches : List Batch) × Stands bytes batches × All (λ r. IsCoordRecord r (coord_entry_of r)) (records batches) × CoordLawful n (coord_skeletons (coord_entries batches))

abbrev pub IsTopicLedger : List ℕ → Type 0
IsTopicLedger bytes = (batches : List Batch) × Stands bytes batches × All IsInGrammar (records batches) × TopicLawful (topic_entries batches)

-- In a coordinator's log of n named parts, the record at this place is the first that is outside its grammar, or isn't
-- allowed behind those before it.
pub record IsFirstBadIn (n : ℕ) (batches : List Batch) (place : ℕ) : Type 0 where
  pub bad : (e : CoordEntry) → IsCoordRecord (slice_index_or (records batches) place []) e → coord_allows n (coord_skeletons (take place (coord_entries batches))) (coord_skeleton e) ≡ false
  pub lawful : CoordLawful n (coord_skeletons (take place (coord_entries batches)))
  pub grammar : All (λ r. IsCoordRecord r (coord_entry_of r)) (take place (records batches))

-- Behind this many records there is an open gate and no frame; or the bytes stand for a list, of which the record at this
-- place is the first bad one.
abbrev pub IsDamagedLog : ℕ → List ℕ → ℕ → Type 0
IsDamagedLog n bytes entry = IsDamagedAt bytes entry ⊎ ((batches : List Batch) × Stands bytes batches × (entry < length (records batches)) × IsFirstBadIn n batches entry)

abbrev pub IsDamagedTopic : List ℕ → ℕ → Type 0
IsDamagedTopic bytes entry = IsDamagedAt bytes entry ⊎ ((batches : List Batch) × Stands bytes batches × (entry < length (records batches)) × IsFirstBadRecord batches entry)

-- Of n named parts, which are topics, the bytes of the part p are as they have to be; or they are damaged at this entry.
abbrev pub IsPart : ℕ → ℕ → List ℕ → Type 0
IsPart n zero bytes = IsLog n bytes
IsPart n (suc p) bytes = IsTopicLedger bytes

abbrev pub IsDamagedPart : ℕ → ℕ → List ℕ → ℕ → Type 0
IsDamagedPart n zero bytes entry = IsDamagedLog n bytes entry
IsDamagedPart n (suc p) bytes entry = IsDamagedTopic bytes entry

-- The ledger of the coordinator and that of each of n topics are as they have to be.
abbrev pub AreParts : ℕ → Files → Type 0
AreParts n files = (p : ℕ) → p ≤ n → IsPart n p (files (ledger_file p))

-- The file is the first damaged one, in order of its part, and this is the first entry that is damaged there.
pub record IsFirstDamage (n : ℕ) (files : Files) (file : FileId) (entry : ℕ) : Type 0 where
  pub part : ℕ
  pub within : part ≤ n
  pub file_is : file ≡ ledger_file part
  pub damaged : IsDamagedPart n part (files (ledger_file part)) entry
  pub before : (p : ℕ) → p < part → IsPart n p (files (ledger_file p))

-- The coordinator of n named parts is what these bytes stand for, and they are as they have to be; so is the topic.
pub record IsCoordinatorOf (n : ℕ) (v : CoordView) (bytes : List ℕ) : Type 0 where
  pub tied : coordinator.IsFrontOf v
  pub stands : Stands bytes v.content.batches
  pub grammar : All (λ r. IsCoordRecord r (coord_entry_of r)) (records v.content.batches)
  pub lawful : CoordLawful n (coord_skeletons (coord_entries v.content.batches))

pub record IsTopicOf (v : TopicView) (bytes : List ℕ) : Type 0 where
  pub tied : topic.IsFrontOf v
  pub stands : Stands bytes v.content.batches
  pub grammar : All IsInGrammar (records v.content.batches)
  pub lawful : TopicLawful (topic_entries v.content.batches)

-- The file is that of one of n topics. Where it is told what the files hold, this is the first damaged one of them, and
-- this is the first entry that is damaged there.
pub record IsFirstDamagedTopic (n : ℕ) (tells : Type 0) (files : Files) (file : FileId) (entry : ℕ) : Type 0 where
  pub part : ℕ
  pub from_one : 1 ≤ part
  pub within : part ≤ n
  pub file_is : file ≡ ledger_file part
  pub damaged : tells → IsDamagedTopic (files (ledger_file part)) entry
  pub before : tells → (p : ℕ) → 1 ≤ p → p < part → IsTopicLedger (files (ledger_file p))

-- Each file stands for what it stood for; a damaged one stays as it was, and so does one that is just frames.
abbrev pub KeepsFiles : Files → Files → Type 0
KeepsFiles before after = (file : FileId) → KeepsFile (before file) (after file)

-- Each file in which an open gate begins no frame stays as it was.
abbrev pub KeepsAllDamaged : Files → Files → Type 0
KeepsAllDamaged before after = (file : FileId) → KeepsDamaged (before file) (after file)

-- It is the file of a part of these.
abbrev pub IsPartFile : ℕ → FileId → Type 0
IsPartFile n file = (part : ℕ) × (part ≤ n) × (file ≡ ledger_file part)

-- With these names, the files after stand for the world for which those before did.
abbrev pub KeepsWorld : List (List ℕ) → Files → Files → Type 0
KeepsWorld names before after = (w : World) → StandsFor names before w → StandsFor names after w
