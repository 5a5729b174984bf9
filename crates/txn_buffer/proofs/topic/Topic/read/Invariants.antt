use Rattle.std.proofs.Common.{◌≡◌, ◌≤◌, ◌+◌, ◌-◌, max, []}
use Rattle.txn_replay.specs.Reading.{OnlyReads}
use Rattle.txn_buffer.specs.View.{IsFrontOf}
use Rattle.txn_buffer.proofs.SoFar.{IsSoFar}
use Rattle.txn_buffer.proofs.topic.Topic.read.Given as goal

abbrev pub invariant-loop-place : goal.invariant-loop-place
invariant-loop-place g l =
    record {
      from : l.fn.first ≤ l.place;
      to : l.place ≤ max l.fn.first l.end;
      left : 1 ≤ l.slice.left;
      steps : l.steps ≡ l.fn.steps + (l.place - l.fn.first);
      none : l.end ≤ l.fn.first → l.slice.messages ≡ [];
      reads : OnlyReads g.D.Disk l.self.content.key.part ⊥ l.fn.disk l.disk;
      slice : g.D.Disk.tells → IsFrontOf l.self → l.fn.first ≤ l.end → IsSoFar l.self.limits l.self.front l.fn.first l.fn.max l.slice.bytes l.slice.spent l.slice.left l.slice.messages l.place;
    }

abbrev pub decreases-loop-place : goal.decreases-loop-place
decreases-loop-place g l = l.end - l.place
