use Rattle.std.proofs.Common.{◌≡◌, ◌*◌, ◌+◌, ◌≤◌, ◌++◌, length, take}
use Rattle.std.specs.List.{flat_map}
use Rattle.txn_base.specs.Records.{end_bytes}
use Rattle.txn_records.proofs.ends.put_ends.Given as goal

abbrev pub invariant-loop-end : goal.invariant-loop-end
invariant-loop-end l = record {
  so_far : l.out.bytes ≡ l.initial.out.bytes ++ flat_map end_bytes (take l.end-index l.ends);
  room : 17 * length l.ends ≤ l.out.room + 17 * l.end-index;
}
