-- What a disk in memory means.
use Rattle.std.specs.Prelude.{◌≡◌, ℕ, false, List, length, Result, OnOk, OnErr}
use Rattle.txn_base.specs.declared.file_id.FileId.{FileId}
use Rattle.txn_base.specs.Disk.{Files}
use Rattle.txn_memdisk.specs.declared.disk.MemDisk.{MemDisk}
use Rattle.txn_memdisk.specs.declared.fault.FaultAt.{FaultAt}
use Rattle.txn_memdisk.specs.declared.fault.Op.{Op}
use Rattle.txn_base.specs.FaultCounts.{part_count}
use Rattle.txn_base.specs.Outside.{counted}
use Rattle.txn_memdisk.specs.Faults.{is_listed_at, counted_at}
use Rattle.txn_memdisk.specs.Files.{Entry, entry_in, updated, seen_in, IsImage}
use Rattle.txn_memdisk.specs.Past.{LeftSince}

abbrev pub seen_of : MemDisk → Files
seen_of disk = seen_in disk.files.items

abbrev pub image_of : MemDisk → Files → Type 0
image_of disk = IsImage disk.files.items

abbrev pub moment_of : MemDisk → ℕ
moment_of disk = length disk.past.items

abbrev pub left_since_of : MemDisk → ℕ → Files → Type 0
left_since_of disk = LeftSince disk.files.items disk.past.items

abbrev pub faults_of : MemDisk → ℕ
faults_of disk = disk.counts.all

abbrev pub part_faults_of : MemDisk → ℕ → ℕ
part_faults_of disk = part_count disk.counts

abbrev pub calls_of : MemDisk → ℕ
calls_of disk = disk.calls.all

abbrev pub writes_of : MemDisk → ℕ
writes_of disk = disk.calls.writes

-- of each file, what a read gives, what it held at its last sync, and the changes since
abbrev pub file_entries : MemDisk → FileId → Entry
file_entries disk = entry_in disk.files.items

-- the calls that are still to fail
abbrev pub waits_of : MemDisk → List FaultAt
waits_of disk = disk.waits.items

-- Each file is as it was.
abbrev pub SameEntries : MemDisk → MemDisk → Type 0
SameEntries old new = (id : FileId) → file_entries new id ≡ file_entries old id

-- This file has this entry, and each other file is as it was.
abbrev pub HasEntry : FileId → Entry → MemDisk → MemDisk → Type 0
HasEntry file entry old new = (id : FileId) → file_entries new id ≡ updated file entry (file_entries old) id

-- A call of this kind on this file was counted, succeeded only where it isn't one of those that fail, and raised the
-- count and that of the part by one where it failed, and none where it succeeded.
pub record IsCounted {T E : Type 0} (op : Op) (file : FileId) (result : Result T E) (old new : MemDisk) : Type 0 where
  pub waits : waits_of new ≡ counted_at file op (waits_of old)
  pub unlisted : OnOk result (is_listed_at file op (waits_of old) ≡ false)
  pub none_failed : OnOk result (new.counts ≡ old.counts)
  pub one_failed : OnErr result ((faults_of new ≡ counted 1 (faults_of old)) × (part_faults_of new file.part ≡ counted 1 (part_faults_of old file.part)))
