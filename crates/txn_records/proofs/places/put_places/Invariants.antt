use Rattle.std.proofs.Common.{◌≡◌, ◌+◌, ◌*◌, ◌≤◌, ◌++◌, length, take}
use Rattle.std.specs.List.{flat_map}
use Rattle.byteorder.specs.Endian.{big_bytes}
use Rattle.txn_base.specs.Room.{capacity}
use Rattle.txn_records.proofs.places.put_places.Given as goal

abbrev pub invariant-loop-place : goal.invariant-loop-place
invariant-loop-place l = record {
  so_far : l.out.bytes ≡ l.initial.out.bytes ++ flat_map (big_bytes 8) (take l.place-index l.places);
  room : 8 * length l.places ≤ l.out.room + 8 * l.place-index;
  kept : capacity l.initial.out ≤ capacity l.out;
}
