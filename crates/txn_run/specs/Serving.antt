-- What calls that answer lines need of an engine, and what they leave.
use Rattle.std.specs.Prelude.{◌≡◌, ◌≤◌, ℕ, Option, List, Result, Err, length}
use Rattle.txn_base.specs.declared.disk.Disk as disk
use Rattle.txn_base.specs.declared.limits.Limits.{Limits}
use Rattle.txn_base.specs.declared.sink.Sink as sink
use Rattle.txn_base.specs.Moves.{After}
use Rattle.txn_base.specs.Outside.{Rose}
use Rattle.txn_model.specs.Allowed.{LawfulState}
use Rattle.txn_engine.specs.Above.{KeepsAboveIf}
use Rattle.txn_engine.specs.Growing.{Grows, GrowsWorld}
use Rattle.txn_engine.specs.Kept.{IsEngine}
use Rattle.txn_engine.specs.Table.{table_of}
use Rattle.txn_engine.specs.Told.{IsSure, FaultsWithin}
use Rattle.txn_engine.specs.View.{EngineView, IsWhole, IsTied, IsBacked}
use Rattle.txn_run.specs.Files.{LeavesOthers}
use Rattle.txn_run.specs.Told.{OnlyAppends, EndsWithFault}
use Rattle.txn_run.specs.declared.lines.Stop.{Stop}
use Rattle.txn_run.specs.declared.lines.Stop.TheVariants as stop

-- Each part of the engine is rebuilt, under these limits, and each image of the disk backs it.
pub record CanServe {D : Type 0} (d : disk.Ghosts D) (limits : Limits) (v : EngineView) (at : D) : Type 0 where
  pub whole : IsWhole v
  pub limits_are : v.limits ≡ limits
  pub engine : IsEngine v
  pub backed : IsBacked (d.image at) v

-- From v to v', over these disks: the parts stay, tied to the ledgers on a disk that tells, and backed by each image; a state of
-- the table that is lawful stays so, and then whatever world an image at first extends soundly, those that come of it extend; lawful or not,
-- what files stand for only grows; no file but the ledgers changes; and the counts rose where this is a fault.
pub record Serves {D : Type 0} (d : disk.Ghosts D) (is_fault : Type 0) (v v' : EngineView) (old new : D) : Type 0 where
  pub names : v'.names ≡ v.names
  pub limits : v'.limits ≡ v.limits
  pub engine : IsEngine v'
  pub tied : d.tells → IsTied v → IsTied v'
  pub backed : IsBacked (d.image new) v'
  pub lawful : IsSure d v → LawfulState (table_of v')
  pub images : After d (KeepsAboveIf (IsSure d v) v.names) old new
  pub grows : After d Grows old new
  pub worlds : After d (GrowsWorld v.names) old new
  pub elsewhere : LeavesOthers d (length v.names) old new
  pub cause : FaultsWithin d (length v.names) old new is_fault

-- What was put before stays there, and what is kept beside it; a failed call to put raised the count; and where the disk
-- stopped the lines, the last reply told of a fault.
pub record TellsTo {O : Type 0} (o : sink.Ghosts O) (result : Result (Unit {0}) Stop) (old new : O) : Type 0 where
  pub grown : OnlyAppends (o.held old) (o.held new)
  pub beside : o.rest new ≡ o.rest old
  pub later : o.faults old ≤ o.faults new
  pub failed : result ≡ Err stop.Sink → Rose (o.faults old) (o.faults new)
  pub stopped : result ≡ Err stop.Disk → EndsWithFault (o.held old) (o.held new)
