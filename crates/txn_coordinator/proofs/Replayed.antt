-- Entries that a replay takes, with so many parts named.
use Rattle.std.proofs.Common.{◌≡◌, ◌≤◌, ℕ, ⊎_elim, inr, ◌⊎◌, false, List, [], length, take, sym, ap, ◌∙◌, arith}
use Rattle.std.proofs.lemmas.List.{take_all}
use Rattle.txn_base.specs.declared.entry.CoordEntry.{CoordEntry}
use Rattle.txn_base.specs.Content.{LedgerContent, settled}
use Rattle.txn_base.specs.Frames.{Record, records}
use Rattle.txn_base.specs.Records.{IsCoordRecord}
use Rattle.txn_base.specs.Decoded.{coord_entry_of, coord_entries}
use Rattle.txn_model.specs.Skeletons.{coord_skeleton, coord_skeletons}
use Rattle.txn_model.specs.Coord.{coord_allows}
use Rattle.txn_model.proofs.Laws.Logs.{more_follow}
use Rattle.txn_replay.specs.declared.grammar.Grammar.{Ghosts}
use Rattle.txn_replay.specs.Settling.{MayHaveSettled}
use Rattle.txn_replay.proofs.Laws.{first_settled, front_settled}
use Rattle.txn_coordinator.specs.Mending.{AreNamedEntries, AreReplayed, IsSettledFrom}
use Rattle.txn_coordinator.specs.ReplayLaws.{named_more, named_ends}
use Rattle.txn_table.specs.Table.{AreEntries, may_follow}
use Rattle.txn_table.proofs.Laws.{coord_back}

-- How a coordinator's records are read, and which entries may follow others.
abbrev coord_grammar : Ghosts (Unit {0}) CoordEntry
coord_grammar = record { entry_of = coord_entry_of; is_record = IsCoordRecord; allows = may_follow; lawful = AreNamedEntries; goes_on = named_more; ends_in = named_ends }

pub are_entries : (n : ℕ) (c : List CoordEntry) → AreNamedEntries n c → AreEntries c
are_entries n c are = record { entries = are.entries; lawful = more_follow n 62 [] (coord_skeletons c) are.few are.lawful }

-- a bad record has no entry that is allowed
pub bad_entry : (n : ℕ) (before : List CoordEntry) (bytes : Record) → ((e : CoordEntry) → IsCoordRecord bytes e → ⊥) ⊎ (may_follow n before (coord_entry_of bytes) ≡ false)
    → (e : CoordEntry) → IsCoordRecord bytes e → coord_allows n (coord_skeletons before) (coord_skeleton e) ≡ false
bad_entry n before bytes bad e is = ⊎_elim (λ none. absurd (none e is))
    (λ refused. ap (may_follow n before) (sym (ap coord_entry_of is.bytes_are ∙ coord_back e is.fits)) ∙ refused) bad

-- a log that is settled was settled, or it was before
pub settled_from : (old new : LedgerContent) → MayHaveSettled old new → new.standing ≡ settled → IsSettledFrom old new
settled_from old new how is = ⊎_elim
    (λ same. inr (same ∙ ap (λ s. record { key = old.key; batches = old.batches; standing = s }) (sym (ap (λ (c : LedgerContent). c.standing) same) ∙ is)))
    (λ flight. flight.1) how

-- entries that are the first of a log are so once it was settled
module _ (s t : LedgerContent) (front : List CoordEntry) (within : length front ≤ length (records s.batches)) (how : MayHaveSettled s t) where
  pub tied_settled : front ≡ take (length front) (coord_entries s.batches) → front ≡ take (length front) (coord_entries t.batches)
  tied_settled = first_settled coord_grammar s t front within how

  pub replayed_settled : (named : ℕ) → AreReplayed named s front → AreReplayed named t front
  replayed_settled named was =
      let now = front_settled coord_grammar s t front within how (record { entries = was.entries; in_grammar = was.grammar }) in
      record { entries = now.entries; grammar = now.in_grammar; lawful = was.lawful }

pub extends_same : (front now : List CoordEntry) → now ≡ front → front ≡ take (length front) now
extends_same front now same = sym (ap (take (length front)) same ∙ take_all (length front) front (omega arith))
