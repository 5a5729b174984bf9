use Rattle.txn_base.specs.Moves.{After}
use Rattle.txn_base.specs.Disk.{Elsewhere, Changes, CountsFaults}
use Rattle.txn_ledger.specs.Found.{KeepsFile}
use Rattle.txn_ledger.specs.Ledger.{Stored}
use Rattle.txn_model.specs.Sound.{ledger_file}
use Rattle.txn_engine.proofs.OpeningTopic.{IsOpeningTopic, IsToldTopic, topic_steps_left}
use Rattle.txn_engine.proofs.opening.topics.open_topic.Given as goal

abbrev pub invariant-loop-file : goal.invariant-loop-file
invariant-loop-file g l = record {
  part : IsOpeningTopic l.limits l.part l.topic;
  backed : Stored (g.D.Disk.image l.disk) l.topic.content;
  images : After g.D.Disk (Changes (ledger_file l.part) KeepsFile) l.fn.disk l.disk;
  others : Elsewhere (ledger_file l.part) (g.D.Disk.seen l.fn.disk) (g.D.Disk.seen l.disk);
  counts : CountsFaults l.part (g.D.Disk.faults l.fn.disk) (g.D.Disk.faults l.disk) (g.D.Disk.part_faults l.fn.disk) (g.D.Disk.part_faults l.disk) ⊥;
  told : g.D.Disk.tells → IsToldTopic (g.D.Disk.seen l.fn.disk (ledger_file l.part)) l.topic;
}

abbrev pub decreases-loop-file : goal.decreases-loop-file
decreases-loop-file g l = topic_steps_left l.topic
