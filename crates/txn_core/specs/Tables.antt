-- The state of the table of replies beside a core, and steps of the core that make one state of another.
use Rattle.std.specs.Prelude.{◌≡◌, ℕ, ◌+◌, ◌≤◌, ◌&&◌, Bool, true, false, List, [], ◌∷◌, length}
use Rattle.txn_base.specs.declared.core_entry.CoreEntry.{CoreEntry}
use Rattle.txn_model.specs.Skeletons.{coord_skeleton, topic_skeletons, ack_skeleton}
use Rattle.txn_model.specs.Table.{TableState, EntryBatch, nothing, in_coord, in_topic, in_sub}
use Rattle.txn_core.specs.declared.step.CoreRow.{CoreRow}
use Rattle.txn_core.specs.declared.step.CoreStep.{CoreStep}
use Rattle.txn_core.specs.Steps.{CoreState, row_of, can, core_after, run}
use Rattle.txn_core.specs.Worlds.{skeletons_of, flights_of}

-- A row with these settled and these in flight, sure or not.
abbrev pub row_by : List CoreEntry → List CoreEntry → Bool → CoreRow
row_by es fs sure = record { settled = es; flight = fs; sure = sure }

-- In a state, what the part p has settled and has in flight.
abbrev pub row_in : TableState → ℕ → CoreRow
row_in t p = row_by (skeletons_of t.world p) (flights_of t.world t.flights p) false

-- For n parts beside the coordinator, the core has the rows of the state.
pub record Mirrors (n : ℕ) (t : TableState) (s : CoreState) : Type 0 where
  pub rows : length s.rows ≡ n + 1
  pub row : (p : ℕ) → p ≤ n → row_of s p ≡ row_in t p

-- Each of the steps is allowed after those before it.
abbrev pub all_can : ℕ → CoreState → List CoreStep → Bool
all_can n s [] = true
all_can n s (step ∷ steps) = can n s step && all_can n (core_after s step) steps

-- From the core s, steps that are all allowed lead to one with the rows of the state.
pub record Reaches (n : ℕ) (s : CoreState) (t : TableState) : Type 0 where
  pub steps : List CoreStep
  pub allowed : all_can n s steps ≡ true
  pub mirrors : Mirrors n t (run n steps s)

-- The change from t to t' is a list of core steps: each core with the rows of t is led to those of t'.
abbrev pub AreSteps : ℕ → TableState → TableState → Type 0
AreSteps n t t' = (s : CoreState) → Mirrors n t s → Reaches n s t'

-- The skeletons of a batch, and that they are no more than one write has.
abbrev pub batch_skeletons : EntryBatch → List CoreEntry
batch_skeletons nothing = []
batch_skeletons (in_coord e) = coord_skeleton e ∷ []
batch_skeletons (in_topic p es) = topic_skeletons es
batch_skeletons (in_sub p e) = ack_skeleton e ∷ []

abbrev pub FitsOneBatch : EntryBatch → Type 0
FitsOneBatch b = length (batch_skeletons b) ≤ 64
