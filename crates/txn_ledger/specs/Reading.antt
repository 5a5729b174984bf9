-- What a disk must tell of a log.
use Rattle.std.specs.Prelude.{ℕ}
use Rattle.txn_base.specs.declared.disk.Disk.{Ghosts}
use Rattle.txn_base.specs.Content.{LedgerContent, Backed}
use Rattle.txn_ledger.specs.declared.log.RecordLog as log

-- Each image of the disk is as this content of a log tells.
abbrev pub IsBackedOn : {L D : Type 0} → log.Ghosts L → Ghosts D → D → LedgerContent → Type 0
IsBackedOn log disk at content = Backed log.stands log.exactly (disk.image at) content

-- As the disk reads, the files of the log begin with its batches.
abbrev pub ReadsOn : {L D : Type 0} → log.Ghosts L → Ghosts D → D → LedgerContent → Type 0
ReadsOn log disk at content = disk.tells → log.begins content.key (disk.seen at) content.batches
