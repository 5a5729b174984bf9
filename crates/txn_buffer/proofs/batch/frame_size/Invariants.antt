use Rattle.std.proofs.Common.{◌≡◌, ◌≤◌, ◌+◌, ◌*◌, take, length}
use Rattle.txn_base.specs.Bytes.{contents_of}
use Rattle.txn_base.specs.Frames.{body_of}
use Rattle.txn_buffer.proofs.batch.frame_size.Given as goal

abbrev pub invariant-loop-record : goal.invariant-loop-record
invariant-loop-record l = (l.size ≡ 5 + length (body_of (contents_of (take l.record-index l.batch)))) × (l.size ≤ 5 + 65537 * l.record-index)
