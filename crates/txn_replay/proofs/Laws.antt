-- The door: what other crates take of this crate's proofs.

-- Entries that are the first of a ledger's: none; one more, with its record; all of a batch more; also once what was in flight
-- was settled; and the first bad record behind them.
pub use Rattle.txn_replay.proofs.Fronts.{no_front, first_more, front_more, front_batch, first_settled, front_settled, entries_more, first_bad_at}
