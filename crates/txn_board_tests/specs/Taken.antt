-- The lists that the threads' parts settle: of the transactions of which each is begun, gets its part and is decided, takes a
-- message and its marker, and is closed.
use Rattle.std.specs.Prelude.{ℕ, zero, suc, ◌%◌, ◌==◌, if◌then◌else◌, List, [], ◌∷◌, ◌++◌, Bool}
use Rattle.txn_base.specs.declared.txn.Decision.{Decision}
use Rattle.txn_base.specs.declared.txn.Decision.TheVariants.{Commit, Abort}
use Rattle.txn_base.specs.declared.core_entry.CoreEntry.{CoreEntry}
use Rattle.txn_base.specs.declared.core_entry.CoreEntry.TheVariants as core
use Rattle.txn_model.specs.Coord.{decision_skeleton, closing_skeleton}
use Rattle.txn_model.specs.Deadlines.{txn}

-- Every third transaction, from the first on, is aborted, and the others are committed.
abbrev pub decision_at : ℕ → Decision
decision_at x = if x % 3 == 0 then Abort else Commit

-- The coordinator's list once the first n transactions are decided.
abbrev pub decided_up_to : ℕ → List CoreEntry
decided_up_to zero = []
decided_up_to (suc n) = decided_up_to n ++ core.New (txn n) ∷ core.AddPart (txn n) 1 ∷ decision_skeleton (txn n) (decision_at n) ∷ []

-- What closes x; where it does.
abbrev pub closing_at : ℕ → CoreEntry
closing_at x = closing_skeleton (txn x) (decision_at x)

abbrev pub closing_if : Bool → ℕ → List CoreEntry
closing_if closes x = if closes then closing_at x ∷ [] else []

-- The coordinator's list once count transactions are decided and the first n of them are closed.
abbrev pub closed_up_to : ℕ → ℕ → List CoreEntry
closed_up_to count zero = decided_up_to count
closed_up_to count (suc n) = closed_up_to count n ++ closing_at n ∷ []

-- The part's list once the first n transactions have their message and their marker, and once the next has its message.
abbrev pub ended_up_to : ℕ → List CoreEntry
ended_up_to zero = []
ended_up_to (suc n) = ended_up_to n ++ core.Inside (txn n) ∷ core.Marker (txn n) (decision_at n) ∷ []

abbrev pub sent_up_to : ℕ → List CoreEntry
sent_up_to n = ended_up_to n ++ core.Inside (txn n) ∷ []
