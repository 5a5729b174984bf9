use Rattle.std.proofs.Common.{◌≡◌, ◌≤◌, ◌++◌, drop}
use Rattle.std.specs.Prelude.{All}
use Rattle.txn_base.specs.Bytes.{contents_of}
use Rattle.txn_base.specs.Frames.{IsRecord, body_of, behind_gate}
use Rattle.txn_base.specs.Room.{capacity}
use Rattle.txn_ledger.proofs.encode.encode.Given as goal

abbrev pub invariant-loop-item : goal.invariant-loop-item
invariant-loop-item l = record {
  so_far : l.out.bytes ++ body_of (contents_of (drop l.item-index l.batch)) ≡ behind_gate (contents_of l.batch);
  each : All IsRecord (contents_of (drop l.item-index l.batch));
  kept : capacity l.initial.out ≤ capacity l.out;
}
