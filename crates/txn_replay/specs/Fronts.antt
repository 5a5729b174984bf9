-- What was taken of a log, for any kind of entry.
use Rattle.std.specs.Prelude.{◌≡◌, ◌⊎◌, ℕ, ◌<◌, ◌≤◌, false, List, [], length, take, map, All, slice_index_or}
use Rattle.txn_base.specs.Frames.{Record, Batch, records}
use Rattle.txn_replay.specs.declared.grammar.Grammar.{Ghosts}

-- The record at a place.
abbrev pub record_at : List Batch → ℕ → Record
record_at batches place = slice_index_or (records batches) place []

-- What the records are read as.
abbrev pub entries_in : {S E : Type 0} → Ghosts S E → List Batch → List E
entries_in grammar batches = map grammar.entry_of (records batches)

-- The first n records are in the grammar.
abbrev pub AreGrammatical : {S E : Type 0} → Ghosts S E → List Batch → ℕ → Type 0
AreGrammatical grammar batches n = All (λ r. grammar.is_record r (grammar.entry_of r)) (take n (records batches))

-- These entries are what the first records are read as.
abbrev pub AreFirstOf : {S E : Type 0} → Ghosts S E → List Batch → List E → Type 0
AreFirstOf grammar batches front = front ≡ take (length front) (entries_in grammar batches)

-- They are, and each of these records is in the grammar.
pub record AreTakenFrom {S E : Type 0} (grammar : Ghosts S E) (batches : List Batch) (front : List E) : Type 0 where
  pub entries : AreFirstOf grammar batches front
  pub in_grammar : AreGrammatical grammar batches (length front)

-- From a place on, these entries are those of the records at the same places.
abbrev pub AreEntriesOf : {S E : Type 0} → Ghosts S E → List Batch → ℕ → List E → Type 0
AreEntriesOf {E = E} grammar batches from front = (k : ℕ) (e : E) → from ≤ k → k < length front → grammar.is_record (record_at batches k) (slice_index_or front k e)

-- The record is outside the grammar, or its entry isn't allowed after these.
abbrev pub IsBadAfter : {S E : Type 0} → Ghosts S E → ℕ → List E → Record → Type 0
IsBadAfter {E = E} grammar rule before bytes = ((e : E) → grammar.is_record bytes e → ⊥) ⊎ (grammar.allows rule before (grammar.entry_of bytes) ≡ false)

-- The record at this place is the first that is outside the grammar or not allowed after those before it.
pub record FirstBadRecord {S E : Type 0} (grammar : Ghosts S E) (rule : ℕ) (batches : List Batch) (place : ℕ) : Type 0 where
  pub within : place < length (records batches)
  pub in_grammar : AreGrammatical grammar batches place
  pub before : grammar.lawful rule (take place (entries_in grammar batches))
  pub bad : IsBadAfter grammar rule (take place (entries_in grammar batches)) (record_at batches place)

-- What a replay makes of entries, by a rule: some more behind them, each allowed after those before it. On a disk that tells they
-- are those of the records at their places; and where the former were the first of the ledger, all are.
pub record Takes {S E : Type 0} (grammar : Ghosts S E) (rule : ℕ) (tells : Type 0) (batches : List Batch) (before after : List E) : Type 0 where
  pub extends : before ≡ take (length before) after
  pub lawful : grammar.lawful rule after
  pub read : tells → AreEntriesOf grammar batches (length before) after
  pub first : tells → AreFirstOf grammar batches before → AreFirstOf grammar batches after
  pub taken : tells → AreTakenFrom grammar batches before → AreTakenFrom grammar batches after

-- Damage is told of a place in this range. On a disk that tells, and behind entries that are the first of the ledger, the record
-- there is the first bad one.
pub record IsDamage {S E : Type 0} (grammar : Ghosts S E) (rule : ℕ) (tells : Type 0) (batches : List Batch) (before : List E) (from end place : ℕ) : Type 0 where
  pub from_on : from ≤ place
  pub before_end : place < end
  pub first_bad : tells → AreTakenFrom grammar batches before → FirstBadRecord grammar rule batches place
