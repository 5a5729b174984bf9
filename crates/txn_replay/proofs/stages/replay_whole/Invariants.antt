use Rattle.std.proofs.Common.{◌≡◌, ◌+◌, ◌-◌, ◌≤◌, length}
use Rattle.txn_base.specs.Disk.{Same}
use Rattle.txn_base.specs.Frames.{records}
use Rattle.txn_base.specs.Moves.{After, FaultsIn}
use Rattle.txn_replay.specs.Fronts.{Takes}
use Rattle.txn_replay.proofs.stages.replay_whole.Given as goal

abbrev pub invariant-loop-at : goal.invariant-loop-at
invariant-loop-at g l = record {
  at : l.at ≡ length (g.S.Stages.front l.state);
  later : l.initial.at ≤ l.at;
  within : l.at ≤ length (records (g.R.RecordLog.content l.log).batches);
  taken : Takes g.S.Grammar (g.S.Stages.rule l.initial.state) g.D.Disk.tells (g.R.RecordLog.content l.log).batches (g.S.Stages.front l.initial.state) (g.S.Stages.front l.state);
  rule : g.S.Stages.rule l.state ≡ g.S.Stages.rule l.initial.state;
  counted : l.steps + l.initial.at ≡ l.initial.steps + l.at;
  seen : g.D.Disk.seen l.disk ≡ g.D.Disk.seen l.initial.disk;
  images : After g.D.Disk Same l.initial.disk l.disk;
  cause : FaultsIn g.D.Disk (g.R.RecordLog.content l.log).key.part l.initial.disk l.disk ⊥;
}

abbrev pub decreases-loop-at : goal.decreases-loop-at
decreases-loop-at g l = length (records (g.R.RecordLog.content l.log).batches) - l.at
