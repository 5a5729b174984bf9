-- What entries that were not added yet say of a transaction.
use Rattle.std.proofs.Common.{◌≡◌, ℕ, suc, ◌+◌, ◌<◌, arith, Bool, true, false, ◌&&◌, List, [], ◌∷◌, ◌++◌, length, length-append, get_or, take, drop, refl, sym, ap, ◌∙◌, subst, true≢false}
use Rattle.std.specs.Prelude.{Option, All}
use Rattle.std.proofs.lemmas.List.{append_assoc, map-append, take_more, take-append-drop, get_or-append-add}
use Rattle.std.proofs.Math.Seq.{drop-cons}
use Rattle.txn_base.specs.declared.txn.TxnId.{TxnId}
use Rattle.txn_base.specs.declared.entry.CoordEntry.{CoordEntry}
use Rattle.txn_base.specs.Records.{IsCoordEntry}
use Rattle.txn_model.specs.Words.{all_follow}
use Rattle.txn_model.specs.Skeletons.{coord_skeleton, coord_skeletons}
use Rattle.txn_model.specs.Coord.{coord_allows, CoordLawful}
use Rattle.txn_model.proofs.Laws.Lists.{all_follow-append}
use Rattle.txn_table.specs.declared.row.Row.{Row}
use Rattle.txn_table.specs.Table.{AreEntries, IsRowOf, row_with}
use Rattle.txn_table.proofs.Entry.{row_more}

and_parts : (a b : Bool) → (a && b) ≡ true → (a ≡ true) × (b ≡ true)
and_parts true true h = (refl, refl)
and_parts true false h = absurd (true≢false (sym h))
and_parts false b h = absurd (true≢false (sym h))

-- each entry of a lawful list is allowed after those before it
pub allowed_after : (c : List CoordEntry) (e : CoordEntry) (more : List CoordEntry) → CoordLawful 62 (coord_skeletons (c ++ e ∷ more)) → coord_allows 62 (coord_skeletons c) (coord_skeleton e) ≡ true
allowed_after c e more lawful =
    let all : all_follow (coord_allows 62) [] (coord_skeletons c ++ coord_skeletons (e ∷ more)) ≡ true = ap (all_follow (coord_allows 62) []) (sym (map-append coord_skeleton c (e ∷ more))) ∙ lawful in
    let both = sym (all_follow-append (coord_allows 62) [] (coord_skeletons c) (coord_skeletons (e ∷ more))) ∙ all in
    (and_parts _ _ (and_parts _ _ both).1).0

-- the front of some entries, the next one, and the rest
pub split_at : (front ahead : List CoordEntry) (i : ℕ) (d : CoordEntry) → i < length ahead → front ++ ahead ≡ (front ++ take i ahead) ++ (get_or ahead i d ∷ drop (suc i) ahead)
split_at front ahead i d lt =
    ap (λ (l : List CoordEntry). front ++ l) (sym (take-append-drop i ahead) ∙ ap (λ (l : List CoordEntry). take i ahead ++ l) (drop-cons ahead i d lt)) ∙ sym (append_assoc front (take i ahead) (get_or ahead i d ∷ drop (suc i) ahead))

pub next_fits : (front ahead : List CoordEntry) (i : ℕ) (d : CoordEntry) → All IsCoordEntry (front ++ ahead) → i < length ahead → IsCoordEntry (get_or ahead i d)
next_fits front ahead i d fit lt = subst IsCoordEntry (get_or-append-add front ahead i d) (fit (length front + i) d (omega (arith, lt, length-append front ahead)))

pub ahead_more : (front ahead : List CoordEntry) (i : ℕ) (d : CoordEntry) (x : TxnId) (row next : Option Row) → AreEntries (front ++ ahead) → i < length ahead → next ≡ row_with x row (get_or ahead i d) → IsRowOf (front ++ take i ahead) x row → IsRowOf (front ++ take (i + 1) ahead) x next
ahead_more front ahead i d x row next are lt step is =
    let same : (front ++ take i ahead) ++ get_or ahead i d ∷ [] ≡ front ++ take (i + 1) ahead = append_assoc front (take i ahead) (get_or ahead i d ∷ []) ∙ ap (λ (l : List CoordEntry). front ++ l) (sym (take_more ahead i d lt)) in
    subst (λ (l : List CoordEntry). IsRowOf l x next) same
    (subst (λ (r : Option Row). IsRowOf ((front ++ take i ahead) ++ get_or ahead i d ∷ []) x r) (sym step)
    (row_more (front ++ take i ahead) (get_or ahead i d) x row (next_fits front ahead i d are.entries lt)
    (allowed_after (front ++ take i ahead) (get_or ahead i d) (drop (suc i) ahead) (subst (λ (l : List CoordEntry). CoordLawful 62 (coord_skeletons l)) (split_at front ahead i d lt) are.lawful)) is))

pub next_allowed : (front ahead now_front : List CoordEntry) (i : ℕ) (d : CoordEntry) → AreEntries (front ++ ahead) → i < length ahead → now_front ≡ front ++ take i ahead
    → coord_allows 62 (coord_skeletons now_front) (coord_skeleton (get_or ahead i d)) ≡ true
next_allowed front ahead now_front i d are lt same =
    ap (λ (l : List CoordEntry). coord_allows 62 (coord_skeletons l) (coord_skeleton (get_or ahead i d))) same
    ∙ allowed_after (front ++ take i ahead) (get_or ahead i d) (drop (suc i) ahead) (subst (λ (l : List CoordEntry). CoordLawful 62 (coord_skeletons l)) (split_at front ahead i d lt) are.lawful)
