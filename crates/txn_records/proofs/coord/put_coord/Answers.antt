use Rattle.std.proofs.Common.{◌∷◌}
use Rattle.byteorder.specs.Endian.{big_bytes}
use Rattle.txn_base.specs.Records.{txn_bytes}
use Rattle.txn_records.proofs.Numbers.{then_put}
use Rattle.txn_records.proofs.coord.put_coord.Goals as goal

pub returns-in-New-clause-bytes : goal.returns-in-New-clause-bytes
returns-in-New-clause-bytes c =
    rw c.in-New.is (then_put _ _ _ (1 ∷ 1 ∷ txn_bytes c.in-New.txn) (big_bytes 8 c.in-New.deadline) c.put_named.ensures.bytes c.put_u64.ensures.bytes)

pub returns-in-AddPart-clause-bytes : goal.returns-in-AddPart-clause-bytes
returns-in-AddPart-clause-bytes c =
    rw c.in-AddPart.is (then_put _ _ _ (1 ∷ 2 ∷ txn_bytes c.in-AddPart.txn) (big_bytes 4 c.in-AddPart.part) c.put_named-in-AddPart.ensures.bytes c.put_u32.ensures.bytes)
