use Rattle.std.proofs.Common.{inl, inr}
use Rattle.txn_records.proofs.snapshot.is_snapshot_record.Goals as goal

pub returns-in-None : goal.returns-in-None
returns-in-None c = (
  (λ is. inr (c.is_ends_record.ensures.0 is)),
  (λ is. elim is [
    | inl head ↦ absurd (c.in-None.ensures.none head.0 head.1 head.2 head.3.bytes_are)
    | inr ends ↦ c.is_ends_record.ensures.1 ends
  ]),
)
