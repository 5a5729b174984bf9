-- What became of a batch.
use Rattle.txn_base.specs.Content.{LedgerContent, kept, dropped}
use Rattle.txn_ledger.specs.declared.log.Settled.{Settled}
use Rattle.txn_ledger.specs.declared.log.Settled.TheVariants.{Kept, Dropped}

-- The content in which the batch in flight was settled so.
abbrev pub settled_as : Settled → LedgerContent → LedgerContent
settled_as Kept content = kept content
settled_as Dropped content = dropped content
