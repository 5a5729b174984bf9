-- A table's entries after one more.
use Rattle.std.proofs.Common.{◌≡◌, ℕ, true, List, [], ◌∷◌, ◌++◌, map, sym, ap, ◌∙◌, subst}
use Rattle.std.proofs.lemmas.List.{map-append, append-nil}
use Rattle.std.proofs.lemmas.List.Concat.{flat_map-append}
use Rattle.txn_base.specs.declared.entry.CoordEntry.{CoordEntry}
use Rattle.txn_base.specs.Content.{LedgerContent, landed}
use Rattle.txn_base.specs.Frames.{Batch, Record, records}
use Rattle.txn_base.specs.Records.{IsCoordEntry, coord_record}
use Rattle.txn_base.specs.Decoded.{coord_entry_of, coord_entries}
use Rattle.txn_model.specs.Skeletons.{coord_skeleton, coord_skeletons}
use Rattle.txn_model.specs.Coord.{coord_allows}
use Rattle.txn_table.specs.declared.row.Row.{Row}
use Rattle.txn_table.specs.Table.{IsPassed, IsLow, IsTable, rows_with}
use Rattle.txn_table.proofs.Records.{coord_back}
use Rattle.txn_table.proofs.Rows.{Moved, table_more, allowed_in}

pub records-push : (batches : List Batch) (batch : Batch) → records (batches ++ batch ∷ []) ≡ records batches ++ batch
records-push batches batch = flat_map-append (λ b. b) batches (batch ∷ []) ∙ ap (λ (l : List Record). records batches ++ l) (append-nil batch)

pub coord_entries-push : (batches : List Batch) (e : CoordEntry) → IsCoordEntry e → coord_entries (batches ++ (coord_record e ∷ []) ∷ []) ≡ coord_entries batches ++ e ∷ []
coord_entries-push batches e fits =
    ap (map coord_entry_of) (records-push batches (coord_record e ∷ [])) ∙ map-append coord_entry_of (records batches) (coord_record e ∷ [])
    ∙ ap (λ (d : CoordEntry). coord_entries batches ++ d ∷ []) (coord_back e fits)

module _ (rows : List Row) (low : ℕ) (content : LedgerContent) (front : List CoordEntry) (e : CoordEntry)
    (is : IsTable rows low (coord_entries content.batches)) (same : coord_entries content.batches ≡ front) (fits : IsCoordEntry e) (allowed : coord_allows 62 (coord_skeletons front) (coord_skeleton e) ≡ true) where
  moved : Moved (rows_with e rows) low (coord_entries content.batches ++ e ∷ [])
  moved = table_more rows low (coord_entries content.batches) is e fits (allowed_in (coord_entries content.batches) front (coord_skeleton e) same allowed)

  pub passed_read : (written read : List Row) → read ≡ written → written ≡ rows_with e rows → IsPassed read low
  passed_read written read r w = subst (λ (l : List Row). IsPassed l low) (sym (r ∙ w)) moved.passed

  pub applied : (written read : List Row) (new_low : ℕ) (grown : LedgerContent) → read ≡ written → written ≡ rows_with e rows → IsLow read new_low → grown ≡ landed content (coord_record e ∷ []) → IsTable written new_low (coord_entries grown.batches)
  applied written read new_low grown r w low_is g =
      subst (λ (l : List CoordEntry). IsTable written new_low l) (sym (ap (λ s. coord_entries s.batches) g ∙ coord_entries-push content.batches e fits))
      (subst (λ (l : List Row). IsTable l new_low (coord_entries content.batches ++ e ∷ [])) (sym w)
      (record { kept = moved.kept; are = moved.are; low_is = subst (λ (l : List Row). IsLow l new_low) (r ∙ w) low_is }))

  pub front_applied : (grown : LedgerContent) → grown ≡ landed content (coord_record e ∷ []) → coord_entries grown.batches ≡ front ++ e ∷ []
  front_applied grown g = ap (λ s. coord_entries s.batches) g ∙ coord_entries-push content.batches e fits ∙ ap (λ (l : List CoordEntry). l ++ e ∷ []) same
