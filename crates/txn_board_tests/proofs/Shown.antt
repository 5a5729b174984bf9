-- Conditions of the coordinator's calls, by its row.
use Rattle.std.proofs.Common.{◌≡◌, ℕ, ◌+◌, ◌≤◌, zero, suc, arith, true, List, [], ◌∷◌, ◌++◌, refl, sym, ap, ◌∙◌, subst, ◌<◌, length, Bool, false, Option, Some, None}
use Rattle.txn_base.specs.declared.core_entry.CoreEntry.{CoreEntry}
use Rattle.txn_base.specs.declared.core_entry.CoreEntry.TheVariants as core
use Rattle.txn_model.specs.Coord.{count_new, decision_of, closing_skeleton}
use Rattle.txn_model.proofs.Laws.Tests.{no_true}
use Rattle.txn_core.specs.declared.step.CoreRow.{CoreRow}
use Rattle.txn_core.specs.Together.{is_alone, AreLawful}
use Rattle.txn_core.specs.Steps.{is_batch, start_row, settle_row, stop_row}
use Rattle.txn_core.specs.Kept.{resting_row}
use Rattle.txn_base.specs.declared.txn.Decision.{Decision}
use Rattle.txn_base.specs.declared.txn.Decision.TheVariants.{Commit}
use Rattle.txn_model.specs.Deadlines.{txn}
use Rattle.txn_board.specs.declared.words.Word.TheVariants.{Registered, Decided, Done}
use Rattle.txn_board_tests.specs.Sure.{decided_log, closed_log, Rests, IsFlying}
use Rattle.txn_board_tests.proofs.Dealing.{both_parts}
use Rattle.txn_board.specs.declared.view.View.{View}
use Rattle.txn_board.specs.Words.{window, IsIn, word_at}
use Rattle.txn_board.specs.Rows.{parts_in, list_in, low_in, IsSeatOf, with_row_by, settle_view, loaded, HasSeatRow, joined_view}
use Rattle.txn_board.specs.Calls.{MayStart, IsSettling, start_where, MayDrop, MayClose, inside_where, marker_where, closing_where, closing_in, closing_by, StartsInsideWithin, StartsMarkerWithin, StartsClosingWithin}

pub may : (n : ℕ) (row : CoreRow) (es : List CoreEntry) (v : View) → IsSeatOf 0 row v → row.flight ≡ [] → is_batch 0 es ≡ true → is_alone n 0 (row.settled ++ es) ≡ true → MayStart n es v
may n row es v k resting batch alone = record { row = record { part = 0; row = row }; one = k.one; resting = resting; batch = batch; alone = alone }

pub started : (row : CoreRow) (e : CoreEntry) (v w : View) (n : ℕ) → IsSeatOf 0 row v → w ≡ loaded 0 n (start_where (e ∷ []) v) → IsSeatOf 0 (start_row (e ∷ []) row) w
started row e v w n k f = record { one = ap (λ (u : View). u.rows) f ∙ ap (with_row_by (start_row (e ∷ []))) k.one }

pub settling : (row : CoreRow) (e : CoreEntry) (w : View) → IsSeatOf 0 (start_row (e ∷ []) row) w → IsSettling 0 e w
settling row e w k = record { row = start_row (e ∷ []) row; rest = []; one = k.one; first = refl }

pub settled : (row : CoreRow) (e : CoreEntry) (v w : View) → IsSeatOf 0 (start_row (e ∷ []) row) v → w ≡ settle_view v → IsSeatOf 0 (settle_row (start_row (e ∷ []) row)) w
settled row e v w k f = record { one = ap (λ (u : View). u.rows) f ∙ ap (with_row_by settle_row) k.one }

pub within_at : (lists : List (List CoreEntry)) (x : ℕ) → lists ≡ [] ∷ [] ∷ [] → x < window → IsIn (low_in lists) window x
within_at lists x e lt = subst (λ ls. IsIn (low_in ls) window x) (sym e) (record { least = omega arith; most = omega (arith, lt) })

pub within : (lists : List (List CoreEntry)) → lists ≡ [] ∷ [] ∷ [] → IsIn (low_in lists) window 0
within lists e = within_at lists 0 e (omega arith)

none_in : (p : ℕ) → list_in ([] ∷ [] ∷ []) p ≡ []
none_in zero = refl
none_in (suc zero) = refl
none_in (suc (suc p)) = refl

blank : (n : ℕ) → AreLawful n (λ p. [])
blank n = record { alone = λ p. refl; registered = λ p x k. absurd (no_true k); decided = λ p x d k. absurd (cc k); closed = λ x d p k i. absurd (cc k) }

pub lawful : (lists : List (List CoreEntry)) → lists ≡ [] ∷ [] ∷ [] → AreLawful (parts_in lists) (list_in lists)
lawful lists e = subst (λ ls. AreLawful (parts_in ls) (list_in ls)) (sym e) (subst (AreLawful (parts_in ([] ∷ [] ∷ []))) (λ i p. sym (none_in p) i) (blank (parts_in ([] ∷ [] ∷ []))))

pub fits : (lists : List (List CoreEntry)) → lists ≡ [] ∷ [] ∷ [] → count_new (list_in lists 0) ≤ low_in lists + window
fits lists e = subst (λ ls. count_new (list_in ls 0) ≤ low_in ls + window) (sym e) (omega arith)

-- ---- A row of any part.

abbrev pub resting : (n part : ℕ) (es new : List CoreEntry) (v : View) → Rests part es v → is_batch part new ≡ true → is_alone n part (es ++ new) ≡ true → MayStart n new v
resting n part es new v k batch alone = record { row = record { part = part; row = resting_row es }; one = k.one; resting = refl; batch = batch; alone = alone }

pub begins : (part place n : ℕ) (es more : List CoreEntry) (v w : View) → Rests part es v → w ≡ loaded place n (start_where more v) → IsFlying part es more w
begins part place n es [] v w k f = record { one = ap (λ (u : View). u.rows) f ∙ k.one }
begins part place n es (e ∷ more) v w k f = record { one = ap (λ (u : View). u.rows) f ∙ ap (with_row_by (start_row (e ∷ more))) k.one }

pub flying : (part : ℕ) (es : List CoreEntry) (e : CoreEntry) (w : View) → IsSeatOf part (start_row (e ∷ []) (resting_row es)) w → IsSettling part e w
flying part es e w k = record { row = start_row (e ∷ []) (resting_row es); rest = []; one = k.one; first = refl }

pub settles_to : (part : ℕ) (es : List CoreEntry) (e : CoreEntry) (v w : View) → IsSeatOf part (start_row (e ∷ []) (resting_row es)) v → w.rows ≡ with_row_by settle_row v.rows → Rests part (es ++ e ∷ []) w
settles_to part es e v w k rows = record { one = rows ∙ ap (with_row_by settle_row) k.one }

pub drops_to : (part : ℕ) (es : List CoreEntry) (e : CoreEntry) (v w : View) → IsSeatOf part (start_row (e ∷ []) (resting_row es)) v → w.rows ≡ with_row_by (stop_row false) v.rows → Rests part es w
drops_to part es e v w k rows = record { one = rows ∙ ap (with_row_by (stop_row false)) k.one }

pub may_drop : (part : ℕ) (es : List CoreEntry) (e : CoreEntry) (w : View) → IsSeatOf part (start_row (e ∷ []) (resting_row es)) w → MayDrop w
may_drop part es e w k = record { row = record { part = part; row = start_row (e ∷ []) (resting_row es) }; entry = e; rest = []; one = k.one; first = refl; unsure = refl }

module _ (made : Type 0) (lists : List (List CoreEntry)) (x : ℕ) (inside : IsIn (low_in lists) window x) where
  pub inside_starts : (told b : Bool) (es : List CoreEntry) (v w : View) → Rests 1 es v → told ≡ b → StartsInsideWithin made lists x 1 told v w → IsFlying 1 es (inside_where b x 1) w
  inside_starts told b es v w k is start =
      let s = start inside in
      begins 1 (word_at (low_in lists) x Registered) s.0 es (inside_where b x 1) v w k (s.1.starts.view ∙ ap (λ t. loaded (word_at (low_in lists) x Registered) s.0 (start_where (inside_where t x 1) v)) is)

  pub marker_starts : (told o : Option Decision) (es : List CoreEntry) (v w : View) → Rests 1 es v → told ≡ o → StartsMarkerWithin made lists x told v w → IsFlying 1 es (marker_where x o) w
  marker_starts told o es v w k is start =
      let s = start inside in
      begins 1 (word_at (low_in lists) x Decided) s.0 es (marker_where x o) v w k (s.1.starts.view ∙ ap (λ t. loaded (word_at (low_in lists) x Decided) s.0 (start_where (marker_where x t) v)) is)

  -- what closes x by its decision, where no part is missing
  abbrev pub closes_by : Option ℕ → Decision → List CoreEntry
  closes_by None d = closing_skeleton (txn x) d ∷ []
  closes_by (Some p) d = []

  pub closing_starts : (missing o : Option ℕ) (d : Decision) (es : List CoreEntry) (v w : View) → Rests 0 es v → decision_of es (txn x) ≡ Some d → missing ≡ o → StartsClosingWithin made lists x missing v w → IsFlying 0 es (closes_by o d) w
  closing_starts missing o d es v w k decided is start =
      let s = start inside in
      let place = word_at (low_in lists) x Done in
      let u : View = loaded (word_at (low_in lists) x Registered) s.0 v in
      begins 0 place s.1 es (closes_by o d) u w (record { one = k.one }) (s.2.starts.view ∙ ap (λ es. loaded place s.1 (start_where es u)) (ap (λ m. closing_where m v.rows x) is ∙ go o))
    where
      go : (o : Option ℕ) → closing_where o v.rows x ≡ closes_by o d
      go None = ap (λ rs. closing_in rs x) k.one ∙ ap (λ t. closing_by t x) decided
      go (Some p) = refl

pub may_close : (lists : List (List CoreEntry)) (v : View) → lists ≡ [] ∷ [] ∷ [] → Rests 0 decided_log v → MayClose (parts_in lists) 0 v
may_close lists v e k =
    record {
      decision = Commit;
      may = resting (parts_in lists) 0 decided_log (core.Committed (txn 0) ∷ []) v k refl (subst (λ ls. is_alone (parts_in ls) 0 closed_log ≡ true) (sym e) refl);
      first = refl;
      decided = refl;
    }

pub both_rows : (lists : List (List CoreEntry)) (es fs : List CoreEntry) (v w : View) (p : ℕ) → lists ≡ [] ∷ [] ∷ [] → Rests 0 es v → Rests 1 fs w → p < length lists → HasSeatRow p (joined_view v w).rows
both_rows lists es fs v w p e h k lt = both_parts v w p (resting_row es, h) (resting_row fs, k) (subst (λ (ls : List (List CoreEntry)). p < length ls) e lt)
