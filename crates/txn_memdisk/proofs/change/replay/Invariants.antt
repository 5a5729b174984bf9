use Rattle.std.proofs.Common.{◌≡◌, drop}
use Rattle.txn_memdisk.specs.Change.{replayed, changes_of}
use Rattle.txn_memdisk.proofs.change.replay.Given as goal

abbrev pub invariant-loop-one : goal.invariant-loop-one
invariant-loop-one l = replayed l.byte (changes_of (drop l.one-index l.pending)) l.bytes.items ≡ replayed l.byte (changes_of l.pending) l.initial.bytes.items
