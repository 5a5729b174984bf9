use Rattle.std.proofs.Common.{List, length, ◌+◌, ◌/◌, sym, ap, ◌∙◌}
use Rattle.txn_base.specs.declared.txn.TxnId.{TxnId}
use Rattle.txn_base.specs.declared.txn.Decision.{Decision}
use Rattle.txn_records.proofs.Pieces.{count_is}
use Rattle.txn_records.proofs.snapshot.ends_count.Goals as goal

pub returns : goal.returns
returns c = ap (λ (l : List (TxnId × Decision)). (length l + 2999) / 3000) c.as_slice.ensures ∙ sym (count_is 63 c.args.snap.now.ends c.requires.few)
