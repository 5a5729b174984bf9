-- The end of a transaction.
use Rattle.std.specs.Prelude.{◌≡◌, ◌⊎◌, ℕ, Option, Some, None}
use Rattle.txn_base.specs.declared.txn.Decision.{Decision}
use Rattle.txn_buffer.specs.View.{TopicView}

-- There is no decision, or it is this one.
abbrev pub IsNoneOr : Decision → Option Decision → Type 0
IsNoneOr decision found = (found ≡ None) ⊎ (found ≡ Some decision)

-- The topic, with room reserved for so many ends.
abbrev pub with_reserved : TopicView → ℕ → TopicView
with_reserved v ends = record { content = v.content; front = v.front; part = v.part; whole = v.whole; reserved = ends; limits = v.limits }
