use Rattle.std.proofs.Common.{List, ap, subst, ◌∙◌}
use Rattle.txn_base.specs.declared.entry.CoordEntry.{CoordEntry}
use Rattle.txn_model.specs.Skeletons.{coord_skeletons}
use Rattle.txn_model.specs.Coord.{CoordLawful}
use Rattle.txn_table.specs.Table.{decision_in}
use Rattle.txn_table.proofs.Finding.{decision_by_status}
use Rattle.txn_table.proofs.table.Table.decision.Goals as goal

pub returns : goal.returns
returns c =
    c.decision_in.ensures ∙ ap decision_in c.status.ensures
    ∙ decision_by_status (coord_skeletons c.args.self.now.front) c.args.txn (subst (λ (f : List CoordEntry). CoordLawful 62 (coord_skeletons f)) (ap (λ v. v.front) c.self.view_is) c.self.invariant.table.kept.lawful)
