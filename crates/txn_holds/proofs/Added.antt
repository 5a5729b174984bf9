-- The entries of batches, with one more.
use Rattle.std.proofs.Common.{◌≡◌, List, [], ◌∷◌, ◌++◌, map, ap, ◌∙◌}
use Rattle.std.proofs.lemmas.List.{map-append, append-nil}
use Rattle.std.proofs.lemmas.List.Concat.{flat_map-append}
use Rattle.txn_base.specs.declared.entry.AckEntry.{AckEntry}
use Rattle.txn_base.specs.Frames.{Batch, Record, records}
use Rattle.txn_base.specs.Records.{IsAckEntry, ack_record}
use Rattle.txn_base.specs.Decoded.{ack_entry_of, ack_entries}
use Rattle.txn_model.proofs.Laws.Files.{ack_decoded}

pub entries_push : (batches : List Batch) (e : AckEntry) → IsAckEntry e → ack_entries (batches ++ (ack_record e ∷ []) ∷ []) ≡ ack_entries batches ++ e ∷ []
entries_push batches e fits =
    ap (map ack_entry_of) (flat_map-append (λ b. b) batches ((ack_record e ∷ []) ∷ []) ∙ ap (λ (l : List Record). records batches ++ l) (append-nil (ack_record e ∷ [])))
    ∙ map-append ack_entry_of (records batches) (ack_record e ∷ [])
    ∙ ap (λ (d : AckEntry). ack_entries batches ++ d ∷ []) (ack_decoded e fits)
