use Rattle.txn_coordinator.proofs.Replayed.{are_entries}
use Rattle.txn_coordinator.proofs.replay.NamedTableStages.allows.Goals as goal

pub allows_after-requires-clause-entries : goal.allows_after-requires-clause-entries
allows_after-requires-clause-entries c = are_entries c.args.self.now.named _ c.requires
