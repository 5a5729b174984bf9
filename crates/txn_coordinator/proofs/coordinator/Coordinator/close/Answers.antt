use Rattle.std.proofs.Common.{◌≡◌, true, IsTrue, refl, sym, subst, rules}
use Rattle.txn_coordinator.specs.View.{CoordView, IsFrontOf}
use Rattle.txn_table.specs.Table.{may_follow}
use Rattle.txn_coordinator.proofs.Fronts.{invariant_more, tied_more}
use Rattle.txn_coordinator.proofs.coordinator.Coordinator.close.Goals as goal

pub returns-in-Ok-clause-tied : goal.returns-in-Ok-clause-tied
returns-in-Ok-clause-tied g c = λ was.
    tied_more (g.R.RecordLog.content c.self.inside.log) (g.R.RecordLog.content c.self.inside.log) _ _ _ _ c.close_of-entry.result c.close_of-entry.ensures.fits (c.self.invariant.all_of (subst (λ (v : CoordView). IsTrue v.whole) (sym c.self.view_is) c.requires.whole))
    refl c.in-Ok.ensures.ok refl c.in-Ok.ensures.added (subst (λ (v : CoordView). IsFrontOf v) (sym c.self.view_is) was)

pub invariant_of-self : goal.invariant_of-self
invariant_of-self g c =
    invariant_more c.close_of-entry.result c.self.invariant (subst (λ (v : CoordView). IsTrue v.whole) (sym c.self.view_is) c.requires.whole)
    (subst (λ (v : CoordView). may_follow v.named v.front c.close_of-entry.result ≡ true) (sym c.self.view_is) (c.close_of-entry.ensures.allowed c.requires.undriven))
    refl c.in-Ok.ensures.ok refl c.in-Ok.ensures.added c.len-self-inside.ensures (search rules) (search rules) c.log_entry.ensures.bytes
