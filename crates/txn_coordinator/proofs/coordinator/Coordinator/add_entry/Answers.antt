use Rattle.std.proofs.Common.{◌≡◌, true, IsTrue, sym, subst, rules}
use Rattle.txn_coordinator.specs.View.{CoordView, IsFrontOf}
use Rattle.txn_table.specs.Table.{may_follow}
use Rattle.txn_coordinator.proofs.Fronts.{invariant_more, tied_more}
use Rattle.txn_coordinator.proofs.coordinator.Coordinator.add_entry.Goals as goal

pub returns-in-Ok-clause-tied : goal.returns-in-Ok-clause-tied
returns-in-Ok-clause-tied g c = λ was.
    tied_more _ _ _ _ _ _ c.args.entry c.requires.fits (c.self.invariant.all_of (subst (λ (v : CoordView). IsTrue v.whole) (sym c.self.view_is) c.requires.whole))
    c.in_ok-reserve.ensures.content c.in-Ok.ensures.ok c.in_ok-reserve-2.ensures.front c.in-Ok.ensures.added (subst (λ (v : CoordView). IsFrontOf v) (sym c.self.view_is) was)

pub invariant_of-self-in-Ok : goal.invariant_of-self-in-Ok
invariant_of-self-in-Ok g c =
    invariant_more c.args.entry c.self.invariant (subst (λ (v : CoordView). IsTrue v.whole) (sym c.self.view_is) c.requires.whole)
    (subst (λ (v : CoordView). may_follow v.named v.front c.args.entry ≡ true) (sym c.self.view_is) c.requires.allowed)
    c.in_ok-reserve.ensures.content c.in-Ok.ensures.ok c.in_ok-reserve-2.ensures.front c.in-Ok.ensures.added c.len-self-inside.ensures (search rules) (search rules) c.log_entry.ensures.bytes
