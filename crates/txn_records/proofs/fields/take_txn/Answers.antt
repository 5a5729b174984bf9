use Rattle.std.proofs.Common.{ℕ, ◌<◌, get_or}
use Rattle.txn_records.proofs.Numbers.{txn_taken}
use Rattle.txn_records.proofs.fields.take_txn.Goals as goal

pub returns-clause-some : goal.returns-clause-some
returns-clause-some c =
    let small : (i : ℕ) → get_or c.args.bytes.now i 0 < 256 = λ i. (c.type_inv.bytes i).fits in
    txn_taken c.args.bytes.now c.read_u64-most.result c.read_u64-least.result c.if-bytes-lt16.false small c.read_u64-most.ensures c.read_u64-least.ensures
