use Rattle.std.proofs.Common.{◌≡◌, ◌-◌, ◌≤◌, ◌++◌, drop}
use Rattle.txn_base.specs.Moves.{After}
use Rattle.txn_base.specs.Disk.{Same, CountsFaults}
use Rattle.txn_base.specs.Frames.{frames}
use Rattle.txn_ledger.specs.Found.{IsPiece}
use Rattle.txn_ledger.specs.Tied.{IsScanned}
use Rattle.txn_ledger.proofs.scan.scan.Given as goal

abbrev pub invariant-loop-window : goal.invariant-loop-window
invariant-loop-window g l = record {
  key : l.found.carrier.content.key ≡ l.file;
  scanned : IsScanned l.found.carrier.content l.found.end l.found.positions.items;
  within : l.found.end ≤ l.size;
  piece : IsPiece g.D.Disk.tells (g.D.Disk.seen l.fn.disk l.file) l.size l.window.at l.window.bytes.items;
  told : g.D.Disk.tells → g.D.Disk.seen l.fn.disk l.file ≡ frames l.found.carrier.content.batches ++ drop l.found.end (g.D.Disk.seen l.fn.disk l.file);
  seen : g.D.Disk.seen l.disk ≡ g.D.Disk.seen l.fn.disk;
  images : After g.D.Disk Same l.fn.disk l.disk;
  cause : CountsFaults l.file.part (g.D.Disk.faults l.fn.disk) (g.D.Disk.faults l.disk) (g.D.Disk.part_faults l.fn.disk) (g.D.Disk.part_faults l.disk) ⊥;
  writes : g.D.Disk.writes l.disk ≡ g.D.Disk.writes l.fn.disk;
}

abbrev pub decreases-loop-window : goal.decreases-loop-window
decreases-loop-window g l = l.size - l.found.end
