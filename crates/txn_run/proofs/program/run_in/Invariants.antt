use Rattle.std.proofs.Common.{◌≡◌, ◌≤◌, ◌-◌, [], ℕ, List, length, Ok}
use Rattle.std.specs.Io.KnownBytes.{Consumes}
use Rattle.txn_base.specs.Room.{capacity}
use Rattle.txn_engine.specs.View.{IsWhole, IsTied}
use Rattle.txn_run.specs.Going.{run_state_at, IsLineSoFar, HasTaken}
use Rattle.txn_run.specs.Serving.{Serves, TellsTo}
use Rattle.txn_run.proofs.program.run_in.Given as goal

abbrev pub invariant-loop-taken : goal.invariant-loop-taken
invariant-loop-taken g l = record {
  within : l.taken ≤ l.limits.input;
  chunk : length l.chunk ≡ 4096;
  line : l.limits.line ≤ capacity l.pending.line;
  out : 512 ≤ capacity l.out;
  reads : g.I.Source.faults l.fn.source ≤ g.I.Source.faults l.source;
  tells : TellsTo g.O.Sink (Ok tt) l.fn.sink l.sink;
  fresh : l.taken ≡ 0 → IsLineSoFar l.limits.line l.pending [];
  clock : l.taken ≡ 0 → l.clock ≡ l.fn.clock;
  whole : IsWhole l.engine;
  serves : Serves g.D.Disk ⊥ l.fn.engine l.engine l.fn.disk l.disk;
  came : (bytes : List ℕ) × Consumes (g.I.Source.left l.fn.source) (g.I.Source.left l.source) bytes × (length bytes ≡ l.taken);
  so : g.D.Disk.tells → IsTied l.fn.engine → HasTaken l.limits (run_state_at g.D.Disk g.K.Clock l.fn.engine l.fn.clock l.fn.disk) (g.O.Sink.held l.fn.sink) (g.I.Source.left l.fn.source) l.taken l.pending (run_state_at g.D.Disk g.K.Clock l.engine l.clock l.disk) (g.O.Sink.held l.sink) (g.I.Source.left l.source);
}

abbrev pub decreases-loop-taken : goal.decreases-loop-taken
decreases-loop-taken g l = l.limits.input - l.taken
