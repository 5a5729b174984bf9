use Rattle.std.proofs.Common.{◌+◌, subst}
use Rattle.txn_base.specs.Moves.{After}
use Rattle.txn_base.specs.declared.txn.TxnId.{TxnId}
use Rattle.txn_base.specs.declared.entry.CoordEntry.TheVariants as coord
use Rattle.txn_base.specs.Content.{Appends}
use Rattle.txn_coordinator.specs.View.{coord_batch}
use Rattle.txn_coordinator.proofs.coordinator.Coordinator.begin.Goals as goal

pub returns-in_err-add_entry-clause-images : goal.returns-in_err-add_entry-clause-images
returns-in_err-add_entry-clause-images g c =
    subst (λ (x : TxnId). After g.D.Disk (Appends g.R.RecordLog.mine g.R.RecordLog.stands c.args.self.now.content (coord_batch (coord.New x (c.args.now + c.args.timeout)))) c.args.disk.now c.add_entry.new.disk) c.next_txn-txn.ensures
    c.add_entry.ensures.images

pub returns-clause-images : goal.returns-clause-images
returns-clause-images g c =
    subst (λ (x : TxnId). After g.D.Disk (Appends g.R.RecordLog.mine g.R.RecordLog.stands c.args.self.now.content (coord_batch (coord.New x (c.args.now + c.args.timeout)))) c.args.disk.now c.add_entry.new.disk) c.next_txn-txn.ensures
    c.add_entry.ensures.images
