-- What settling a log does.
use Rattle.std.specs.Prelude.{◌≡◌, ◌⊎◌}
use Rattle.txn_base.specs.Content.{LedgerContent, IsInFlight, kept, dropped}

-- The content is as it was, or what was in flight was settled.
abbrev pub MayHaveSettled : LedgerContent → LedgerContent → Type 0
MayHaveSettled before after = (after ≡ before) ⊎ (IsInFlight before.standing × ((after ≡ kept before) ⊎ (after ≡ dropped before)))
