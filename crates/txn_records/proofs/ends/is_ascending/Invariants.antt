use Rattle.std.proofs.Common.{ℕ, ◌+◌, ◌<◌, get_or}
use Rattle.txn_base.specs.declared.txn.TxnId.{TxnId}
use Rattle.txn_base.specs.declared.txn.Decision.{Decision}
use Rattle.txn_base.specs.Snapshots.{ComesBefore}
use Rattle.txn_records.proofs.ends.is_ascending.Given as goal

abbrev pub invariant-loop-i : goal.invariant-loop-i
invariant-loop-i l = (k : ℕ) (d : TxnId × Decision) → k + 1 < l.i → ComesBefore (get_or l.ends k d).0 (get_or l.ends (k + 1) d).0
