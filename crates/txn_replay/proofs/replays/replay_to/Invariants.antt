use Rattle.std.proofs.Common.{◌≡◌, ◌+◌, length, max}
use Rattle.txn_base.specs.Disk.{Same}
use Rattle.txn_base.specs.Moves.{After, FaultsIn}
use Rattle.txn_replay.specs.Fronts.{Takes}
use Rattle.txn_replay.proofs.replays.replay_to.Given as goal

abbrev pub invariant-loop-place : goal.invariant-loop-place
invariant-loop-place g l = record {
  size : length (g.S.Replays.front l.state) ≡ max (length (g.S.Replays.front l.initial.state)) l.place;
  taken : Takes g.S.Grammar (g.S.Replays.rule l.initial.state) g.D.Disk.tells (g.R.RecordLog.content l.log).batches (g.S.Replays.front l.initial.state) (g.S.Replays.front l.state);
  rule : g.S.Replays.rule l.state ≡ g.S.Replays.rule l.initial.state;
  own : g.S.Replays.own l.state ≡ g.S.Replays.own l.initial.state;
  counted : l.steps + l.from ≡ l.initial.steps + l.place;
  seen : g.D.Disk.seen l.disk ≡ g.D.Disk.seen l.initial.disk;
  images : After g.D.Disk Same l.initial.disk l.disk;
  cause : FaultsIn g.D.Disk (g.R.RecordLog.content l.log).key.part l.initial.disk l.disk ⊥;
}
