-- Laws of names and the numbers of their parts.

-- A name of the catalog has a number from 1 to the count of names, and is the name of that part.
pub use Rattle.txn_model.proofs.Named.{known}
-- A lawful catalog has at most 62 names.
pub use Rattle.txn_model.proofs.Named.{few_names}
-- A named part whose name passes a test is among the parts that the test numbers; these lie within the names; and none is a
-- topic and a subscription.
pub use Rattle.txn_model.proofs.Named.{numbered_has, named_part}
pub use Rattle.txn_model.proofs.Parts.{numbered_within, not_both_kinds}
