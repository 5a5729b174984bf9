use Rattle.txn_base.specs.Moves.{After}
use Rattle.txn_base.specs.Disk.{Elsewhere, Changes, CountsFaults}
use Rattle.txn_ledger.specs.Found.{KeepsFile}
use Rattle.txn_ledger.specs.Ledger.{Stored}
use Rattle.txn_model.specs.Sound.{ledger_file}
use Rattle.txn_engine.proofs.OpeningLog.{IsOpeningLog, IsToldLog, log_steps_left}
use Rattle.txn_engine.proofs.opening.log.open_coordinator.Given as goal

abbrev pub invariant-loop-file : goal.invariant-loop-file
invariant-loop-file g l = record {
  log : IsOpeningLog l.limits l.named l.coordinator;
  backed : Stored (g.D.Disk.image l.disk) l.coordinator.content;
  images : After g.D.Disk (Changes (ledger_file 0) KeepsFile) l.fn.disk l.disk;
  others : Elsewhere (ledger_file 0) (g.D.Disk.seen l.fn.disk) (g.D.Disk.seen l.disk);
  counts : CountsFaults 0 (g.D.Disk.faults l.fn.disk) (g.D.Disk.faults l.disk) (g.D.Disk.part_faults l.fn.disk) (g.D.Disk.part_faults l.disk) ⊥;
  told : g.D.Disk.tells → IsToldLog l.named (g.D.Disk.seen l.fn.disk (ledger_file 0)) l.coordinator;
}

abbrev pub decreases-loop-file : goal.decreases-loop-file
decreases-loop-file g l = log_steps_left l.coordinator
