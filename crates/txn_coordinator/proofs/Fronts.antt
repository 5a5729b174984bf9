-- The entries of a coordinator beside those of its log.
use Rattle.std.proofs.Common.{◌≡◌, ℕ, ◌≤◌, Bool, true, IsTrue, length-append, arith, List, [], ◌∷◌, ◌++◌, length, take, sym, ap, ◌∙◌, subst}
use Rattle.std.proofs.lemmas.List.{take_all, length-map}
use Rattle.txn_base.specs.declared.entry.CoordEntry.{CoordEntry}
use Rattle.txn_base.specs.Content.{LedgerContent, landed}
use Rattle.txn_base.specs.Frames.{records}
use Rattle.txn_base.specs.Records.{IsCoordEntry}
use Rattle.txn_base.specs.Decoded.{coord_entry_of, coord_entries}
use Rattle.txn_coordinator.specs.View.{coord_batch, CoordinatorInvariant}
use Rattle.txn_table.proofs.Laws.{lawful_more, records-push, coord_entries-push}
use Rattle.txn_table.specs.Table.{may_follow}
use Rattle.txn_model.specs.Coord.{CoordLawful}
use Rattle.txn_model.specs.Skeletons.{coord_skeletons}

-- with one more in both
pub tied_more : (s0 s1 s2 : LedgerContent) (f0 f1 f2 : List CoordEntry) (e : CoordEntry) → IsCoordEntry e → length f0 ≡ length (records s0.batches)
    → s1 ≡ s0 → s2 ≡ landed s1 (coord_batch e) → f1 ≡ f0 → f2 ≡ f1 ++ e ∷ [] → f0 ≡ take (length f0) (coord_entries s0.batches) → f2 ≡ take (length f2) (coord_entries s2.batches)
tied_more s0 s1 s2 f0 f1 f2 e fits all same grown front added was =
    let whole : f0 ≡ coord_entries s0.batches = was ∙ take_all (length f0) (coord_entries s0.batches) (omega (arith, all, length-map (records s0.batches) coord_entry_of)) in
    let now_log : coord_entries s2.batches ≡ coord_entries s0.batches ++ e ∷ [] = ap (λ (s : LedgerContent). coord_entries s.batches) (grown ∙ ap (λ (s : LedgerContent). landed s (coord_batch e)) same) ∙ coord_entries-push s0.batches e fits in
    let now_front : f2 ≡ coord_entries s2.batches = added ∙ ap (λ (f : List CoordEntry). f ++ e ∷ []) (front ∙ whole) ∙ sym now_log in
    now_front ∙ sym (take_all (length f2) (coord_entries s2.batches) (omega (arith, ap length now_front)))

-- what a whole coordinator keeps, after that
pub invariant_more : {n at at' spare room bytes spare' room' bytes' : ℕ} {whole was_whole reserved reserved' : Bool} {s0 s1 s2 : LedgerContent} {f0 f1 f2 : List CoordEntry} (e : CoordEntry)
    → CoordinatorInvariant n s0 f0 at whole was_whole reserved spare room bytes → IsTrue whole → may_follow n f0 e ≡ true
    → s1 ≡ s0 → s2 ≡ landed s1 (coord_batch e) → f1 ≡ f0 → f2 ≡ f1 ++ e ∷ [] → at' ≡ length (records s2.batches) → (IsTrue reserved' → 1 ≤ spare') → (IsTrue reserved' → 33 ≤ room') → 26 ≤ bytes'
    → CoordinatorInvariant n s2 f2 at' whole was_whole reserved' spare' room' bytes'
invariant_more {n = n} {s0 = s0} {s2 = s2} {f0 = f0} {f2 = f2} e was whole allowed same grown front added at_is spare room bytes =
    let now_front : f2 ≡ f0 ++ e ∷ [] = added ∙ ap (λ (f : List CoordEntry). f ++ e ∷ []) front in
    let log : s2 ≡ landed s0 (coord_batch e) = grown ∙ ap (λ (s : LedgerContent). landed s (coord_batch e)) same in
    let now_log : length (records s2.batches) ≡ length (records s0.batches ++ coord_batch e) = ap (λ (s : LedgerContent). length (records s.batches)) log ∙ ap length (records-push s0.batches (coord_batch e)) in
    let all : length f2 ≡ length (records s2.batches) = omega (arith, was.all_of whole, ap length now_front, length-append f0 (e ∷ []), now_log, length-append (records s0.batches) (coord_batch e)) in
    record {
      at_is = at_is ∙ sym all;
      within = omega (arith, all);
      all_of = λ w. all;
      settled_when = λ w. ap (λ (s : LedgerContent). s.standing) log;
      opened_when = was.opened_when;
      spare_when = spare;
      room_when = room;
      bytes_room = bytes;
      few_named = was.few_named;
      lawful = subst (λ (f : List CoordEntry). CoordLawful n (coord_skeletons f)) (sym now_front) (lawful_more n f0 e was.lawful allowed);
    }
