use Rattle.std.proofs.Common.{◌≡◌, List, ap, ◌∙◌, subst}
use Rattle.std.specs.Prelude.{unwrap_or}
use Rattle.txn_base.specs.declared.txn.Decision.TheVariants.{Commit}
use Rattle.txn_base.specs.declared.entry.CoordEntry.{CoordEntry}
use Rattle.txn_model.specs.Skeletons.{coord_skeletons}
use Rattle.txn_model.specs.Coord.{CoordLawful, decision_of}
use Rattle.txn_model.specs.Table.{closing_entry}
use Rattle.txn_coordinator.proofs.Allowed.{closes_undriven}
use Rattle.txn_coordinator.proofs.coordinator.Coordinator.close_of.Goals as goal

pub returns-clause-allowed : goal.returns-clause-allowed
returns-clause-allowed g c =
    let e : c.self.inside.rebuilt.table.front ≡ c.args.self.now.front = ap (λ v. v.front) c.self.view_is in
    λ undriven. closes_undriven c.args.self.now.named (coord_skeletons c.args.self.now.front) c.args.txn c.closing_entry.result
    (subst (λ (f : List CoordEntry). CoordLawful 62 (coord_skeletons f)) e c.count-count.ensures.kept.lawful)
    (c.closing_entry.ensures ∙ ap (closing_entry c.args.txn) (c.unwrap_or-decision.ensures ∙ ap (λ d. unwrap_or d Commit) (c.decision.ensures ∙ ap (λ f. decision_of (coord_skeletons f) c.args.txn) e))) undriven
