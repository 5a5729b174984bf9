use Rattle.std.proofs.Common.{ap, ◌∙◌}
use Rattle.txn_base.specs.Decoded.{ack_entries}
use Rattle.txn_holds.proofs.Added.{entries_push}
use Rattle.txn_holds.proofs.entry.with_entry.Goals as goal

pub returns : goal.returns
returns c = ap (λ s. ack_entries s.batches) c.of.ensures ∙ entries_push c.args.front.now.content.batches c.args.entry.now c.requires
