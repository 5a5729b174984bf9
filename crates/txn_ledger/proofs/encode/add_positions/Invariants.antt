use Rattle.std.proofs.Common.{◌≡◌, ◌+◌, ◌≤◌, ◌++◌, length, drop, vec_len, vec_capacity}
use Rattle.std.specs.Prelude.{All}
use Rattle.txn_base.specs.Bytes.{contents_of}
use Rattle.txn_base.specs.Frames.{IsRecord, body_of}
use Rattle.txn_ledger.specs.Positions.{positions_of}
use Rattle.txn_ledger.proofs.encode.add_positions.Given as goal

abbrev pub invariant-loop-item : goal.invariant-loop-item
invariant-loop-item l = record {
  so_far : l.positions.items ++ positions_of l.at (contents_of (drop l.item-index l.batch)) ≡ l.initial.positions.items ++ positions_of l.from (contents_of l.batch);
  bound : l.at + length (body_of (contents_of (drop l.item-index l.batch))) ≡ l.from + length (body_of (contents_of l.batch));
  each : All IsRecord (contents_of (drop l.item-index l.batch));
  count : vec_len l.positions ≡ vec_len l.initial.positions + l.item-index;
  kept : vec_capacity l.initial.positions ≤ vec_capacity l.positions;
}
