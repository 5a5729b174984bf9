-- Laws of lists that follow each other.

-- What the first element says of two lists in a row is what it says of the first one, or else of the second; and what was
-- said first stays.
pub use Rattle.txn_model.proofs.Prefixes.{first_of-append, first_stays}
-- A map of two lists in a row is that of each; and two lists in a row are lawful where each is, the second behind the first.
pub use Rattle.txn_model.proofs.Prefixes.{map_append, all_follow-append}
-- What is added for one part follows its list, and each other list is as it was; and a stop keeps of each part by itself.
pub use Rattle.txn_model.proofs.Lists.{at_append, at_followed}
