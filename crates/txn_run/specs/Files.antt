-- Which files of a disk a run may change.
use Rattle.std.specs.Prelude.{ℕ}
use Rattle.txn_base.specs.declared.disk.Disk.{Ghosts}
use Rattle.txn_base.specs.Moves.{After}
use Rattle.txn_engine.specs.Files.{OnlyLedgers}

-- From old to new, only the ledgers of the coordinator and of n topics differ: as the disk reads, and in each image since.
pub record LeavesOthers {D : Type 0} (disk : Ghosts D) (n : ℕ) (old new : D) : Type 0 where
  pub now : OnlyLedgers n (disk.seen old) (disk.seen new)
  pub since : After disk (OnlyLedgers n) old new
