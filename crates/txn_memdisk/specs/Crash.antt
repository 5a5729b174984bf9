-- What a crash makes of a disk.
use Rattle.std.specs.Prelude.{◌≡◌, List, ℕ, [], ◌∷◌}
use Rattle.txn_memdisk.specs.declared.crash.Choice.{Choice}
use Rattle.txn_memdisk.specs.declared.crash.Choice.TheVariants.{Old, New, Torn}
use Rattle.txn_memdisk.specs.declared.file.MemFile.{MemFile}
use Rattle.txn_memdisk.specs.Change.{replayed}
use Rattle.txn_memdisk.specs.Files.{Entry, entry_of, sure_entry}

-- What was sure, or what a read gave, or what was sure with the changes since made again, in which each range that was
-- written is filled with a byte.
abbrev pub chosen : Choice → Entry → List ℕ
chosen Old entry = entry.sure
chosen New entry = entry.seen
chosen (Torn byte) entry = replayed byte entry.pending entry.sure

-- File by file the second are what a crash makes of the first.
abbrev pub AreCrashedFrom : Choice → List MemFile → List MemFile → Type 0
AreCrashedFrom choice [] [] = Unit {0}
AreCrashedFrom choice [] (y ∷ ys) = ⊥
AreCrashedFrom choice (x ∷ xs) [] = ⊥
AreCrashedFrom choice (x ∷ xs) (y ∷ ys) = (y.id ≡ x.id) × (entry_of y ≡ sure_entry (chosen choice (entry_of x))) × AreCrashedFrom choice xs ys
