-- The door: what other crates take of this crate's proofs.

-- In a lawful list each place has one holder, and two pending cumulative holds are of one transaction. A place stays with its holder
-- until a marker of it.
pub use Rattle.txn_holds.proofs.Snoc.{One}
pub use Rattle.txn_holds.proofs.Allowed.{lawful_one, lawful_more}
pub use Rattle.txn_holds.proofs.OneHold.{one_hold_up_to, holder_stays}
-- What an allowed entry that is no marker adds, and what a marker ends: of each of the six kinds.
pub use Rattle.txn_holds.proofs.Entries.{Ends}
pub use Rattle.txn_holds.proofs.Snoc.{Adds}
pub use Rattle.txn_holds.proofs.Allowed.{plain_adds, up_to_adds, hold_adds, hold_up_to_adds, commit_ends, abort_ends}
-- Which places are acknowledged after it, and whose they are; how many are held one by one, and which by whom.
pub use Rattle.txn_holds.proofs.Snoc.{adds_acked, adds_holder, ends_acked, ends_holder}
pub use Rattle.txn_holds.proofs.Counts.{count_quiet, count_ends, places_same, places_more, places_ends}
