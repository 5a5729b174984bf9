-- The states that a disk in memory had.
use Rattle.std.specs.Prelude.{◌≡◌, ◌⊎◌, ℕ, List, [], ◌∷◌, ◌++◌, length, drop, Vec}
use Rattle.std.proofs.Common.{inl, inr}
use Rattle.std.specs.declared.alloc.Global.{Global}
use Rattle.std.specs.declared.snapshot.Snapshot.{Snapshot}
use Rattle.txn_base.specs.Disk.{Files}
use Rattle.txn_memdisk.specs.declared.file.MemFile.{MemFile}
use Rattle.txn_memdisk.specs.Files.{IsImage}

abbrev pub Past : Type 0
Past = List (Snapshot (Vec MemFile Global))

-- After these there is one state more, in which the files were these.
abbrev pub Remembers : List MemFile → Past → Past → Type 0
Remembers files before after = (v : Snapshot (Vec MemFile Global)) × (v.value.items ≡ files) × (after ≡ before ++ v ∷ [])

-- One of these states had this image.
abbrev pub HadBeen : Past → Files → Type 0
HadBeen [] c = ⊥
HadBeen (v ∷ past) c = IsImage v.value.items c ⊎ HadBeen past c

-- It is an image of these files, or was one of a state from that moment on.
abbrev pub LeftSince : List MemFile → Past → ℕ → Files → Type 0
LeftSince files past t c = IsImage files c ⊎ HadBeen (drop t past) c

none_left : (past : Past) (c : Files) → HadBeen (drop (length past) past) c → ⊥
none_left [] c had = had
none_left (v ∷ past) c had = none_left past c had

-- From this moment on there is no image but those of these files.
pub only_last : (files : List MemFile) (past : Past) (c : Files) → LeftSince files past (length past) c → IsImage files c
only_last files past c (inl here) = here
only_last files past c (inr had) = absurd (none_left past c had)
