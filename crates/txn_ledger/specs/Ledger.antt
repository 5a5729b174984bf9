-- What the file of a ledger stands for, and what a clause sees of a ledger.
use Rattle.std.specs.Prelude.{◌≡◌, ℕ, List, ◌++◌}
use Rattle.txn_base.specs.declared.file_id.FileId.{FileId}
use Rattle.txn_base.specs.Content.{LedgerContent, Backed}
use Rattle.txn_base.specs.Disk.{Files}
use Rattle.txn_base.specs.Frames.{Batch, frames, Stands}

-- A ledger has one file.
abbrev pub IsFile : FileId → FileId → Type 0
IsFile key file = file ≡ key

-- The file stands for these batches.
abbrev pub StandsIn : FileId → Files → List Batch → Type 0
StandsIn key files batches = Stands (files key) batches

-- The file is the frames of these batches, and no more.
abbrev pub ExactlyIn : FileId → Files → List Batch → Type 0
ExactlyIn key files batches = files key ≡ frames batches

-- The file begins with the frames of these batches.
abbrev pub BeginsIn : FileId → Files → List Batch → Type 0
BeginsIn key files batches = (rest : List ℕ) × (files key ≡ frames batches ++ rest)

-- Each image of a disk has the ledger's file as its content tells.
abbrev pub Stored : (Files → Type 0) → LedgerContent → Type 0
Stored image content = Backed StandsIn ExactlyIn image content

-- its content, for how many more records there is room, and for how long a frame
pub record Shown : Type 0 where
  pub content : LedgerContent
  pub spare : ℕ
  pub room : ℕ
