use Rattle.std.proofs.Common.{◌≡◌, ◌+◌, length, drop}
use Rattle.txn_base.specs.Bytes.{contents_of}
use Rattle.txn_base.specs.Frames.{body_of}
use Rattle.txn_ledger.proofs.encode.body_len.Given as goal

abbrev pub invariant-loop-item : goal.invariant-loop-item
invariant-loop-item l = l.len + length (body_of (contents_of (drop l.item-index l.batch))) ≡ length (body_of (contents_of l.batch))
