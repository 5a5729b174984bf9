-- Which calls of a disk fail, as a list of faults that say how many calls it takes to come to them.
use Rattle.std.specs.Prelude.{◌-◌, ◌==◌, ◌&&◌, Bool, true, false, if◌then◌else◌, List, map}
use Rattle.std.specs.List.{list_any}
use Rattle.txn_base.specs.declared.file_id.FileId.{FileId}
use Rattle.txn_base.specs.Disk.{same_file}
use Rattle.txn_memdisk.specs.declared.fault.Op.{Op}
use Rattle.txn_memdisk.specs.declared.fault.Op.TheVariants.{Size, Read, WriteAt, Resize, Sync}
use Rattle.txn_memdisk.specs.declared.fault.FaultAt.{FaultAt}

-- both are of the same kind
abbrev pub same_op : Op → Op → Bool
same_op Size Size = true
same_op Read Read = true
same_op WriteAt WriteAt = true
same_op Resize Resize = true
same_op Sync Sync = true
same_op _ _ = false

-- the fault is of a call of this kind on this file
abbrev pub is_of : FileId → Op → FaultAt → Bool
is_of file op fault = same_file fault.file file && same_op fault.op op

-- The next call of this kind on this file is one of those that fail.
abbrev pub is_listed_at : FileId → Op → List FaultAt → Bool
is_listed_at file op faults = list_any (λ fault. is_of file op fault && fault.nth == 1) faults

-- one call of this kind on this file less to come to the fault
abbrev pub fault_counted : FileId → Op → FaultAt → FaultAt
fault_counted file op fault = if is_of file op fault then record fault { nth = fault.nth - 1 } else fault

-- the faults after a call of this kind on this file
abbrev pub counted_at : FileId → Op → List FaultAt → List FaultAt
counted_at file op faults = map (fault_counted file op) faults
