use Rattle.std.proofs.Common.{List, ◌++◌, sym, subst}
use Rattle.txn_base.specs.declared.entry.CoordEntry.{CoordEntry}
use Rattle.txn_table.specs.Table.{AreEntries}
use Rattle.txn_coordinator.proofs.Replayed.{are_entries}
use Rattle.txn_coordinator.proofs.replay.NamedTableStages.add_all.Goals as goal

pub apply_all-requires-clause-entries : goal.apply_all-requires-clause-entries
apply_all-requires-clause-entries c =
    subst (λ (front : List CoordEntry). AreEntries (front ++ c.args.staged.now)) (sym c.reserve.ensures.front) (are_entries c.args.self.now.named _ c.requires.lawful)
