-- The lists of a board's first transaction, as its parts settle them.
use Rattle.std.specs.Prelude.{ℕ, List, [], ◌∷◌}
use Rattle.txn_base.specs.declared.txn.Decision.{Decision}
use Rattle.txn_base.specs.declared.core_entry.CoreEntry.{CoreEntry}
use Rattle.txn_base.specs.declared.core_entry.CoreEntry.TheVariants as core
use Rattle.txn_model.specs.Deadlines.{txn}
use Rattle.txn_core.specs.Steps.{start_row}
use Rattle.txn_core.specs.Kept.{resting_row}
use Rattle.txn_board.specs.declared.view.View.{View}
use Rattle.txn_board.specs.Rows.{IsSeatOf}

-- The coordinator's once it is decided, and once it is closed.
abbrev pub decided_log : List CoreEntry
decided_log = core.New (txn 0) ∷ core.AddPart (txn 0) 1 ∷ core.Committing (txn 0) ∷ []

abbrev pub closed_log : List CoreEntry
closed_log = core.New (txn 0) ∷ core.AddPart (txn 0) 1 ∷ core.Committing (txn 0) ∷ core.Committed (txn 0) ∷ []

-- The part's with its message, and with the marker.
abbrev pub sent : List CoreEntry
sent = core.Inside (txn 0) ∷ []

abbrev pub marked : Decision → List CoreEntry
marked d = core.Inside (txn 0) ∷ core.Marker (txn 0) d ∷ []

-- The seat has the row of this part, with these entries settled and nothing in flight.
abbrev pub Rests : ℕ → List CoreEntry → View → Type 0
Rests part es v = IsSeatOf part (resting_row es) v

-- The seat has the row of this part, with these entries settled and those in flight, if any; they are the last that started.
abbrev pub IsFlying : ℕ → List CoreEntry → List CoreEntry → View → Type 0
IsFlying part es more v = IsSeatOf part (start_row more (resting_row es)) v
