use Rattle.txn_records.proofs.AckRecords.{no_hold_up_to}
use Rattle.txn_records.proofs.ack.read_hold_up_to.Goals as goal

pub returns-in_default-only_u64-clause-bad : goal.returns-in_default-only_u64-clause-bad
returns-in_default-only_u64-clause-bad c same =
    no_hold_up_to c.in-Some.txn c.args.rest.now c.in-Some.field.now c.in-Some.ensures.some c.in_default-only_u64.ensures.none
