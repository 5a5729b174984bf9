use Rattle.std.proofs.Common.{◌≤◌, take, Ok}
use Rattle.txn_base.specs.Room.{capacity}
use Rattle.txn_engine.specs.View.{IsWhole, IsTied}
use Rattle.txn_run.specs.Going.{run_state_at, RunGoesOn}
use Rattle.txn_run.specs.Serving.{Serves, TellsTo}
use Rattle.txn_run.proofs.lines.feed.Given as goal

abbrev pub invariant-loop-byte : goal.invariant-loop-byte
invariant-loop-byte g l = record {
  line : l.limits.line ≤ capacity l.pending.line;
  kept : capacity l.fn.out ≤ capacity l.out;
  tells : TellsTo g.O.Sink (Ok tt) l.fn.sink l.sink;
  whole : IsWhole l.engine;
  serves : Serves g.D.Disk ⊥ l.fn.engine l.engine l.fn.disk l.disk;
  so : g.D.Disk.tells → IsTied l.fn.engine → RunGoesOn l.limits (take l.byte-index l.bytes) l.fn.pending (run_state_at g.D.Disk g.K.Clock l.fn.engine l.fn.clock l.fn.disk) (g.O.Sink.held l.fn.sink) l.pending (run_state_at g.D.Disk g.K.Clock l.engine l.clock l.disk) (g.O.Sink.held l.sink);
}
