use Rattle.byteorder.specs.Endian.{big_bytes}
use Rattle.txn_records.proofs.Numbers.{then_put}
use Rattle.txn_records.proofs.fields.put_txn.Goals as goal

pub returns-clause-bytes : goal.returns-clause-bytes
returns-clause-bytes c = then_put _ _ _ (big_bytes 8 c.args.txn.most) (big_bytes 8 c.args.txn.least) c.put_u64.ensures.bytes c.put_u64-2.ensures.bytes
