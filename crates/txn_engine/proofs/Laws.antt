-- The door: what other crates take of this crate's proofs.

-- Each image of the disk behind an engine is what a stop keeps of its table.
pub use Rattle.txn_engine.proofs.Left.{left_kept}
-- What files stand for grows through calls behind each other, the world as well; and so it does where each list is kept.
pub use Rattle.txn_engine.proofs.Growing.{files_first, files_then, lists_files, worlds_first, worlds_then, lists_worlds}
-- A topic's name is no subscription's.
pub use Rattle.txn_engine.proofs.TopicNames.{not_sub}
-- A file that isn't touched stays as it was.
pub use Rattle.txn_engine.proofs.OpeningFiles.{keeps_itself}
-- The ledger of a part that is rebuilt is just its frames, and so are all ledgers where all parts are.
pub use Rattle.txn_engine.proofs.Tidy.{part_just, just_frames}
-- Where all is rebuilt, the state of the table is lawful where an image stands for a lawful world.
pub use Rattle.txn_engine.proofs.Opened.{opened_lawful}
