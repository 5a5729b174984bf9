-- The files of a disk in memory, and what a crash may leave of them.
use Rattle.std.specs.Prelude.{◌≡◌, ◌⊎◌, ℕ, if◌then◌else◌, List, [], ◌∷◌, ◌++◌, length}
use Rattle.txn_base.specs.declared.file_id.FileId.{FileId}
use Rattle.txn_base.specs.Disk.{Files, Torn, OldOrResized, resized, overwritten, same_file}
use Rattle.txn_memdisk.specs.declared.change.Change.{Change}
use Rattle.txn_memdisk.specs.declared.change.Change.TheVariants.{Sized, Written}
use Rattle.txn_memdisk.specs.declared.file.MemFile.{MemFile}
use Rattle.txn_memdisk.specs.Change.{undone, changes_of}

-- What a read of a file gives, what it held at its last sync, and the changes since, the first of them first.
pub record Entry : Type 0 where
  pub seen : List ℕ
  pub sure : List ℕ
  pub pending : List Change

-- A file that was never written.
abbrev pub nothing : Entry
nothing = record { seen = []; sure = []; pending = [] }

-- What it held at its last sync is what it holds with the changes since undone.
abbrev pub entry_of : MemFile → Entry
entry_of file = record { seen = file.bytes.items; sure = undone file.pending.items file.bytes.items; pending = changes_of file.pending.items }

-- the name of a file
abbrev pub file_id_of : MemFile → FileId
file_id_of file = file.id

-- Of these, the entry of a file.
abbrev pub entry_in : List MemFile → FileId → Entry
entry_in [] id = nothing
entry_in (file ∷ files) id = if same_file file.id id then entry_of file else entry_in files id

-- This file has this entry, and every other one its own.
abbrev pub updated : FileId → Entry → (FileId → Entry) → FileId → Entry
updated file entry entries id = if same_file file id then entry else entries id

-- after a change of the size
abbrev pub sized_entry : ℕ → Entry → Entry
sized_entry size entry = record { seen = resized size entry.seen; sure = entry.sure; pending = entry.pending ++ Sized size ∷ [] }

-- after a write
abbrev pub written_entry : ℕ → List ℕ → Entry → Entry
written_entry offset bytes entry = record { seen = overwritten offset bytes entry.seen; sure = entry.sure; pending = entry.pending ++ Written offset (length bytes) ∷ [] }

-- after a write of so many bytes that failed: a read gives what it gave, and the range is pending
abbrev pub lost_entry : ℕ → ℕ → Entry → Entry
lost_entry offset count entry = record { seen = entry.seen; sure = entry.sure; pending = entry.pending ++ Written offset count ∷ [] }

-- A file that holds these bytes, with no change since its last sync.
abbrev pub sure_entry : List ℕ → Entry
sure_entry bytes = record { seen = bytes; sure = bytes; pending = [] }

-- What a change that a crash cuts short may make of these bytes.
abbrev pub MayMake : Change → List ℕ → List ℕ → Type 0
MayMake (Sized size) before after = OldOrResized size before after
MayMake (Written offset count) before after = Torn offset count before after

-- The same of changes, the first of them first.
abbrev pub MayLeave : List Change → List ℕ → List ℕ → Type 0
MayLeave [] before after = after ≡ before
MayLeave (change ∷ changes) before after = (mid : List ℕ) × MayMake change before mid × MayLeave changes mid after

-- A crash leaves of a file what a read gives, or what was sure with the changes since kept, lost or cut short.
abbrev pub IsImageOf : Entry → List ℕ → Type 0
IsImageOf entry bytes = (bytes ≡ entry.seen) ⊎ MayLeave entry.pending entry.sure bytes

-- A crash leaves these files: of each what it may leave of it.
abbrev pub IsImage : List MemFile → Files → Type 0
IsImage files c = (id : FileId) → IsImageOf (entry_in files id) (c id)

-- what a read of each file gives
abbrev pub seen_in : List MemFile → Files
seen_in files id = (entry_in files id).seen

-- A file becomes these bytes, whatever it was.
abbrev pub Becomes : List ℕ → List ℕ → List ℕ → Type 0
Becomes bytes before after = after ≡ bytes
