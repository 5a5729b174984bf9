-- Where a file stands among others.
use Rattle.std.specs.Prelude.{◌≡◌, ℕ, ◌<◌, true, false, List, [], ◌∷◌, length, take, slice_index_or}
use Rattle.txn_base.specs.declared.file_id.FileId.{FileId}
use Rattle.txn_base.specs.Disk.{same_file}
use Rattle.txn_memdisk.specs.declared.file.MemFile.{MemFile}

-- None of these is the file.
abbrev pub Misses : List MemFile → FileId → Type 0
Misses [] id = Unit {0}
Misses (file ∷ files) id = (same_file file.id id ≡ false) × Misses files id

-- The file stands at this index, and none before it is the file.
pub record IsFileAt (files : List MemFile) (i : ℕ) (id : FileId) : Type 0 where
  pub file : MemFile
  pub below : i < length files
  pub is : slice_index_or files i file ≡ file
  pub named : same_file file.id id ≡ true
  pub first : Misses (take i files) id
