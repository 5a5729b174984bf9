use Rattle.std.proofs.Common.{◌∷◌, []}
use Rattle.txn_base.specs.Records.{txn_bytes}
use Rattle.txn_records.proofs.Numbers.{then_put}
use Rattle.txn_records.proofs.fields.put_named.Goals as goal

pub returns-clause-bytes : goal.returns-clause-bytes
returns-clause-bytes c = then_put _ _ _ (1 ∷ c.args.kind ∷ []) (txn_bytes c.args.txn) c.put_head.ensures.bytes c.put_txn.ensures.bytes
