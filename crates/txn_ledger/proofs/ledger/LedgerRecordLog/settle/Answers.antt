use Rattle.std.proofs.Common.{arith, ap, refl, sym, ◌∙◌, subst}
use Rattle.std.specs.Prelude.{Ok}
use Rattle.txn_base.specs.Content.{IsInFlight}
use Rattle.txn_ledger.specs.Ledger.{Shown}
use Rattle.txn_ledger.proofs.Tied.{tied_kept, tied_dropped}
use Rattle.txn_ledger.proofs.ledger.LedgerRecordLog.settle.Goals as goal

pub invariant_of-self : goal.invariant_of-self
invariant_of-self g c =
    let doubt = subst (λ (v : Shown). IsInFlight v.content.standing) (sym c.self.view_is) c.requires.in_flight in
    record {
      tied = tied_kept _ _ _ _ _ _ _ c.self.invariant.tied doubt _ c.settle_kept.ensures _ _ refl
          (c.find_out.ensures.bound (c.in_ok-find_out.was ∙ ap Ok c.in-Kept.is))
          (omega (arith, c.len-self-inside.ensures, c.self.inside.positions.ok.0));
      spare_fits = c.self.invariant.spare_fits;
      room_fits = c.self.invariant.room_fits;
    }

pub invariant_of-self-in-Dropped : goal.invariant_of-self-in-Dropped
invariant_of-self-in-Dropped g c =
    let doubt = subst (λ (v : Shown). IsInFlight v.content.standing) (sym c.self.view_is) c.requires.in_flight in
    record {
      tied = tied_dropped _ _ _ _ _ _ _ c.self.invariant.tied doubt _ c.settle_dropped.ensures _ c.truncate.ensures.items;
      spare_fits = omega (arith, c.truncate.ensures.capacity, c.truncate.ensures.len, c.self.invariant.spare_fits);
      room_fits = c.self.invariant.room_fits;
    }
