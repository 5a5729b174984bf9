use Rattle.std.proofs.Common.{◌≡◌, ◌<◌, ℕ, length, All, IsTrue, vec_capacity, ◌≤◌}
use Rattle.txn_base.specs.Moves.{After}
use Rattle.txn_ledger.specs.Ledger.{Stored}
use Rattle.txn_model.specs.Sound.{ledger_file}
use Rattle.txn_engine.specs.Files.{OnlyLedgers}
use Rattle.txn_engine.specs.Kept.{AreTopics}
use Rattle.txn_engine.specs.Opening.{IsTopicOf, KeepsFiles, KeepsAllDamaged}
use Rattle.txn_engine.specs.Told.{CountsWithin}
use Rattle.txn_engine.proofs.opening.topics.open_topics.Given as goal

abbrev pub invariant-loop-index : goal.invariant-loop-index
invariant-loop-index g l = record {
  count : length l.topics.items ≡ l.index;
  room : l.named ≤ vec_capacity l.topics;
  are : AreTopics l.limits 1 l.topics.items;
  whole : All (λ t. IsTrue t.whole) l.topics.items;
  backed : All (λ t. Stored (g.D.Disk.image l.disk) t.content) l.topics.items;
  told : g.D.Disk.tells → All (λ t. IsTopicOf t (g.D.Disk.seen l.fn.disk t.content.key)) l.topics.items;
  images : After g.D.Disk KeepsFiles l.fn.disk l.disk;
  uncut : g.D.Disk.tells → KeepsAllDamaged (g.D.Disk.seen l.fn.disk) (g.D.Disk.seen l.disk);
  others : (q : ℕ) → l.index < q → g.D.Disk.seen l.disk (ledger_file q) ≡ g.D.Disk.seen l.fn.disk (ledger_file q);
  elsewhere : After g.D.Disk (OnlyLedgers l.named) l.fn.disk l.disk;
  apart : OnlyLedgers l.named (g.D.Disk.seen l.fn.disk) (g.D.Disk.seen l.disk);
  counts : CountsWithin l.named (g.D.Disk.faults l.fn.disk) (g.D.Disk.faults l.disk) (g.D.Disk.part_faults l.fn.disk) (g.D.Disk.part_faults l.disk) ⊥;
}
