-- What the files of a disk stand for only grows, whether they are lawful together or not.
use Rattle.std.specs.Prelude.{ℕ, List, ◌++◌}
use Rattle.txn_base.specs.declared.file_id.FileId.{FileId}
use Rattle.txn_base.specs.Disk.{Files}
use Rattle.txn_base.specs.Frames.{Batch, Stands}
use Rattle.txn_ledger.specs.Found.{KeepsDamaged}
use Rattle.txn_model.specs.declared.world.World.{World}
use Rattle.txn_model.specs.Sound.{StandsFor}
use Rattle.txn_model.specs.World.{Extends}

-- Where the bytes before stand for a list of batches, those after stand for that list with more behind it, or none.
abbrev pub GrowsList : List ℕ → List ℕ → Type 0
GrowsList before after = (batches : List Batch) → Stands before batches → (more : List Batch) × Stands after (batches ++ more)

-- So does it, and bytes in which an open gate begins no frame stay as they were.
pub record GrowsFile (before after : List ℕ) : Type 0 where
  pub list : GrowsList before after
  pub damage : KeepsDamaged before after

-- So does each file.
abbrev pub Grows : Files → Files → Type 0
Grows before after = (file : FileId) → GrowsFile (before file) (after file)

-- With these names, where the files before stand for a world, lawful or not, those after stand for one that extends it.
abbrev pub GrowsWorld : List (List ℕ) → Files → Files → Type 0
GrowsWorld names before after =
    (w : World) → StandsFor names before w → (later : World) × StandsFor names after later × Extends w later
