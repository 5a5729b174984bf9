-- What a call of a disk does, whichever disk it is.
use Rattle.std.specs.Prelude.{ℕ, Result}
use Rattle.txn_base.specs.declared.disk.Disk.{Ghosts}
use Rattle.txn_base.specs.Disk.{Files, Since, HasPartCause, CountsFaults}
use Rattle.txn_base.specs.Outside.{Rose}

-- Each image at a moment between the two disks is an image of the first after this step.
abbrev pub After : {D : Type 0} → Ghosts D → (Files → Files → Type 0) → D → D → Type 0
After disk step old new = Since disk.moment disk.image disk.left_since step old new

-- Where each image at the first disk is one of these, each image at any moment since is one of those.
abbrev pub AtEachMoment : {D : Type 0} → Ghosts D → (Files → Type 0) → (Files → Type 0) → D → D → Type 0
AtEachMoment disk before since old new =
    ((c : Files) → disk.image old c → before c) → (c : Files) → disk.left_since new (disk.moment old) c → since c

-- A call on a file of this part fails only where the disk's count and that of the part rose. No count falls.
abbrev pub FailsIn : {D T E : Type 0} → Ghosts D → ℕ → D → D → Result T E → Type 0
FailsIn disk part old new result =
    HasPartCause part (disk.faults old) (disk.faults new) (disk.part_faults old) (disk.part_faults new) result

-- The same of a call that may answer, among other refusals, a fault.
abbrev pub FaultsIn : {D : Type 0} → Ghosts D → ℕ → D → D → Type 0 → Type 0
FaultsIn disk part old new is_fault =
    CountsFaults part (disk.faults old) (disk.faults new) (disk.part_faults old) (disk.part_faults new) is_fault

-- The disk's count and that of this part rose.
abbrev pub RoseIn : {D : Type 0} → Ghosts D → D → D → ℕ → Type 0
RoseIn disk old new part =
    Rose (disk.faults old) (disk.faults new) × Rose (disk.part_faults old part) (disk.part_faults new part)
