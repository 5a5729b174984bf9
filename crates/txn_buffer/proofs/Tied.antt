-- A topic's front is what its ledger holds.
use Rattle.std.proofs.Common.{◌≡◌, ℕ, ◌+◌, ◌<◌, ◌≤◌, get_or, length-take, List, [], ◌∷◌, ◌++◌, length, take, map, sym, ap, ◌∙◌, subst, arith, length-append}
use Rattle.std.specs.Prelude.{All}
use Rattle.std.proofs.lemmas.List.{get_or-take, append-nil}
use Rattle.std.proofs.lemmas.List.Elements.{All-nil}
use Rattle.std.proofs.lemmas.List.{take_all}
use Rattle.txn_base.specs.declared.entry.TopicEntry.{TopicEntry}
use Rattle.txn_base.specs.Decoded.{topic_entry_of, topic_entries}
use Rattle.txn_base.specs.Frames.{Record, Batch, records}
use Rattle.txn_base.specs.Records.{IsTopicRecord}
use Rattle.txn_replay.specs.declared.grammar.Grammar.{Ghosts}
use Rattle.txn_replay.specs.Settling.{MayHaveSettled}
use Rattle.txn_replay.proofs.Laws.{front_batch, front_settled}
use Rattle.txn_buffer.specs.ReplayLaws.{allows, IsLawful, one_more, one_less}
use Rattle.txn_base.specs.Content.{LedgerContent}
use Rattle.txn_buffer.specs.Record.{IsInGrammar}
use Rattle.txn_buffer.specs.View.{TopicView, IsFrontOf, topic_total}
use Rattle.txn_buffer.proofs.Tables.{records-append}

-- How a topic's records are read, and which entries may follow others.
abbrev topic_grammar : Ghosts (Unit {0}) TopicEntry
topic_grammar = record { entry_of = topic_entry_of; is_record = IsTopicRecord; allows = allows; lawful = IsLawful; goes_on = one_more; ends_in = one_less }

records-push : (batches : List Batch) (batch : Batch) → records (batches ++ batch ∷ []) ≡ records batches ++ batch
records-push batches batch = records-append batches (batch ∷ []) ∙ ap (λ (l : List Record). records batches ++ l) (append-nil batch)

-- a batch more in both
pub tied_more : (v w : TopicView) (batch : Batch) → length v.front ≡ topic_total v → w.front ≡ v.front ++ map topic_entry_of batch → w.content.batches ≡ v.content.batches ++ batch ∷ []
    → All IsInGrammar batch → IsFrontOf v → IsFrontOf w
tied_more v w batch whole front batches grammar tied =
    let now = front_batch topic_grammar v.content.batches w.content.batches batch v.front w.front whole batches front grammar (record { entries = tied.entries; in_grammar = tied.grammar }) in
    record { entries = now.entries; grammar = now.in_grammar }

-- nothing in the front
pub nothing_tied : (w : TopicView) → w.front ≡ [] → IsFrontOf w
nothing_tied w none = record {
  entries = none ∙ ap (λ (l : List TopicEntry). take (length l) (topic_entries w.content.batches)) (sym none);
  grammar = subst (λ (l : List TopicEntry). All IsInGrammar (take (length l) (records w.content.batches))) (sym none) (All-nil IsInGrammar);
}

-- the record at a place of the front is in the grammar
pub tied_record : (v : TopicView) (place : ℕ) (bytes : Record) → IsFrontOf v → place < length v.front → length v.front ≤ topic_total v → bytes ≡ get_or (records v.content.batches) place bytes → IsInGrammar bytes
tied_record v place bytes tied below within is =
    let rs = records v.content.batches in
    let taken : get_or (take (length v.front) rs) place bytes ≡ bytes = get_or-take (length v.front) rs place bytes below ∙ sym is in
    subst IsInGrammar taken (tied.grammar place bytes (omega (arith, below, within, length-take (length v.front) rs)))

-- the front of a topic is so also once its log was settled
pub tied_settled : (v : TopicView) (k : LedgerContent) → length v.front ≤ topic_total v → MayHaveSettled v.content k → IsFrontOf v
    → (v.front ≡ take (length v.front) (topic_entries k.batches)) × All IsInGrammar (take (length v.front) (records k.batches))
tied_settled v k within how tied =
    let now = front_settled topic_grammar v.content k v.front within how (record { entries = tied.entries; in_grammar = tied.grammar }) in
    (now.entries, now.in_grammar)

-- so many records with a batch more
pub records_after : (batches : List Batch) (batch : Batch) → length (records (batches ++ batch ∷ [])) ≡ length (records batches) + length batch
records_after batches batch = ap length (records-push batches batch) ∙ length-append (records batches) batch

pub extends_same : (front now : List TopicEntry) → now ≡ front → front ≡ take (length front) now
extends_same front now same = sym (ap (take (length front)) same ∙ take_all (length front) front (omega arith))
