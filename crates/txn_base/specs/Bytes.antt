-- Bytes without the room behind them.
use Rattle.std.specs.Prelude.{ℕ, List, map}
use Rattle.txn_base.specs.Room.{Roomy}

-- These bytes, with no room behind them.
abbrev pub only_bytes : List ℕ → Roomy
only_bytes bytes = record { bytes = bytes; room = 0 }

-- What each of these holds.
abbrev pub contents_of : List Roomy → List (List ℕ)
contents_of items = map (λ b. b.bytes) items
