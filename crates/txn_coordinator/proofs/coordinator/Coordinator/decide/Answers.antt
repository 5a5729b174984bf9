use Rattle.std.proofs.Common.{◌≡◌, true, List, ap, subst}
use Rattle.txn_base.specs.declared.entry.CoordEntry.{CoordEntry}
use Rattle.txn_model.specs.Skeletons.{coord_skeleton, coord_skeletons}
use Rattle.txn_model.specs.Coord.{coord_allows}
use Rattle.txn_coordinator.proofs.Allowed.{decides_open}
use Rattle.txn_coordinator.proofs.coordinator.Coordinator.decide.Goals as goal

pub add_entry-requires-clause-allowed : goal.add_entry-requires-clause-allowed
add_entry-requires-clause-allowed g c =
    subst (λ (f : List CoordEntry). coord_allows c.args.self.now.named (coord_skeletons f) (coord_skeleton c.decision_entry.result) ≡ true) (ap (λ v. v.front) c.self.view_is)
    (decides_open c.args.self.now.named (coord_skeletons c.self.inside.rebuilt.table.front) c.args.txn c.args.decision c.in-Some-Open.field-0 c.decision_entry.result c.in-Some-Open.field-0-is c.in-Some-Open.ensures c.decision_entry.ensures)
