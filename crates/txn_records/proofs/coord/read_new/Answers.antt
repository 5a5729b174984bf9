use Rattle.txn_records.proofs.Coords.{no_new}
use Rattle.txn_records.proofs.coord.read_new.Goals as goal

pub returns-in_err-deadline-clause-none : goal.returns-in_err-deadline-clause-none
returns-in_err-deadline-clause-none c =
    rw c.from_residual-in_err-deadline.ensures (no_new c.in_ok-txn.txn c.args.rest.now c.in_ok-txn.field.now c.in_ok-txn.ensures.some c.in_err-deadline.ensures.none)
