-- The rows after one entry more.
use Rattle.std.proofs.Common.{◌≡◌, ◌≢◌, ◌⊎◌, ⊎_elim, inl, inr, ℕ, ◌+◌, ◌<◌, ◌≤◌, ◌==◌, eqb-true, eq-eqb, arith, Bool, true, false, ◌&&◌, if◌then◌else◌, List, [], ◌∷◌, ◌++◌, length, length-append, get_or, set, length-set, Some, None, refl, sym, ap, ◌∙◌, subst, true≢false}
use Rattle.std.specs.Prelude.{count_by, unwrap_or}
use Rattle.std.proofs.lemmas.Bool.{cases_lt}
use Rattle.std.proofs.lemmas.List.{get_or-set_same, get_or-set_other, get_or_append_left}
use Rattle.std.proofs.Math.Seq.{get_or-append_seam}
use Rattle.std.proofs.lemmas.List.Elements.{All-push}
use Rattle.std.proofs.lemmas.List.Sums.{sum_by-append}
use Rattle.txn_base.specs.declared.txn.TxnId.{TxnId}
use Rattle.txn_base.specs.declared.txn.Decision.{Decision}
use Rattle.txn_base.specs.declared.txn.Decision.TheVariants.{Commit, Abort}
use Rattle.txn_base.specs.declared.txn.Status.{Status}
use Rattle.txn_base.specs.declared.txn.Status.TheVariants.{Open, Committing, Committed, Aborting, Aborted}
use Rattle.txn_base.specs.declared.entry.CoordEntry.{CoordEntry}
use Rattle.txn_base.specs.declared.entry.CoordEntry.TheVariants as coord
use Rattle.txn_base.specs.declared.core_entry.CoreEntry.{CoreEntry}
use Rattle.txn_base.specs.Records.{IsCoordEntry}
use Rattle.txn_model.specs.Words.{last_of, all_follow}
use Rattle.txn_model.specs.Skeletons.{same_txn, coord_skeleton, coord_skeletons}
use Rattle.txn_model.specs.Coord.{has_new, is_begin, count_new, says_status, status_of, is_open, is_deciding, coord_allows, CoordLawful}
use Rattle.txn_model.specs.Deadlines.{txn, is_closed}
use Rattle.txn_model.proofs.Laws.Lists.{all_follow-append}
use Rattle.txn_table.specs.declared.row.Row.{Row}
use Rattle.txn_table.specs.Table.{IsRow, IsBlank, AreEntries, AreRows, IsPassed, IsTable, HasRow, empty_row, txn_in, row_after, rows_with}
use Rattle.txn_table.proofs.Entry.{Turns, skeletons-push, row_stays, blank_stays, row_begins, row_goes_on, turns_begun, txn_equal}

-- ---- Transactions and numbers.

-- x has a row, or it is none of those that have one
pub has_row : (n : ℕ) (x : TxnId) → ((x.most ≡ 0) × (x.least < n)) ⊎ (x.most ≡ 0 → n ≤ x.least)
has_row n x = by_test (x.most == 0) refl
  where
    by_test : (b : Bool) → (x.most == 0) ≡ b → ((x.most ≡ 0) × (x.least < n)) ⊎ (x.most ≡ 0 → n ≤ x.least)
    by_test true e = ⊎_elim (λ lt. inl (eqb-true x.most 0 e, lt)) (λ ge. inr (λ h. ge)) (cases_lt x.least n)
    by_test false e = inr (λ h. absurd (true≢false (sym (eq-eqb x.most 0 h) ∙ e)))

pub txn_of_least : (x : TxnId) → x.most ≡ 0 → txn x.least ≡ x
txn_of_least x h = ap (λ m. make m x.least) (sym h)
  where
    make : ℕ → ℕ → TxnId
    make m l = record { most = m; least = l }

and_false : (a b : Bool) → b ≡ false → (a && b) ≡ false
and_false true b h = h
and_false false b h = refl

pub apart : (x y : TxnId) → x.least ≢ y.least → same_txn x y ≡ false
apart x y differ = and_false (x.most == y.most) (x.least == y.least) (by_test (x.least == y.least) refl)
  where
    by_test : (b : Bool) → (x.least == y.least) ≡ b → (x.least == y.least) ≡ false
    by_test true e = absurd (differ (eqb-true x.least y.least e))
    by_test false e = e

and_parts : (a b : Bool) → (a && b) ≡ true → (a ≡ true) × (b ≡ true)
and_parts true true h = (refl, refl)
and_parts true false h = absurd (true≢false (sym h))
and_parts false b h = absurd (true≢false (sym h))

-- one that has no row isn't one that has
pub apart_past : (n : ℕ) (x y : TxnId) → (x.most ≡ 0 → n ≤ x.least) → y.most ≡ 0 → y.least < n → same_txn x y ≡ false
apart_past n x y past zero lt = by_test (same_txn x y) refl
  where
    by_test : (b : Bool) → same_txn x y ≡ b → same_txn x y ≡ false
    by_test true e =
        let both : (x.most == y.most) ≡ true × (x.least == y.least) ≡ true = and_parts (x.most == y.most) (x.least == y.least) e in
        let m : x.most ≡ y.most = eqb-true x.most y.most both.0 in
        let l : x.least ≡ y.least = eqb-true x.least y.least both.1 in
        let k : n ≤ x.least = past (m ∙ zero) in absurd (omega (arith, k, l, lt))
    by_test false e = e

-- ---- Rows.

-- a transaction that was begun has a row
pub begun_row : (rows : List Row) (c : List CoordEntry) (x : TxnId) → AreRows rows c → has_new (coord_skeletons c) x ≡ true → (x.most ≡ 0) × (x.least < length rows)
begun_row rows c x are begun = ⊎_elim (λ at. at) (λ past. absurd (true≢false (sym begun ∙ (are.past x past).begun))) (has_row (length rows) x)

pub row_is : (rows : List Row) (c : List CoordEntry) (x : TxnId) (row : Row) → AreRows rows c → x.most ≡ 0 → x.least < length rows → IsRow c x (get_or rows x.least row)
row_is rows c x row are zero lt = subst (λ (y : TxnId). IsRow c y (get_or rows x.least row)) (txn_of_least x zero) (are.each x.least row lt)

count_push : (c : List CoordEntry) (e : CoordEntry) → count_new (coord_skeletons (c ++ e ∷ [])) ≡ count_new (coord_skeletons c) + count_by is_begin (coord_skeleton e ∷ [])
count_push c e = ap count_new (skeletons-push c e) ∙ sum_by-append _ (coord_skeletons c) (coord_skeleton e ∷ [])

counts_none : (e : CoordEntry) → Turns e → count_by is_begin (coord_skeleton e ∷ []) ≡ 0
counts_none (coord.New x d) may = absurd may
counts_none (coord.AddPart x q) may = refl
counts_none (coord.Committing x) may = refl
counts_none (coord.Committed x) may = refl
counts_none (coord.Aborting x) may = refl
counts_none (coord.Aborted x) may = refl

module _ (rows : List Row) (c : List CoordEntry) (are : AreRows rows c) where
  pub rows_go_on : (e : CoordEntry) (old : Row) → Turns e → (txn_in e).most ≡ 0 → (txn_in e).least < length rows → AreRows (set rows (txn_in e).least (row_after e (get_or rows (txn_in e).least old))) (c ++ e ∷ [])
  rows_go_on e old may zero lt = record {
    count = omega (arith, length-set rows (txn_in e).least (row_after e (get_or rows (txn_in e).least old)), are.count, count_push c e, counts_none e may);
    each = λ k row h. at k row (omega (arith, h, length-set rows (txn_in e).least (row_after e (get_or rows (txn_in e).least old)))) (k == (txn_in e).least) refl;
    past = λ x h. blank_stays c e x (apart_past (length rows) x (txn_in e) (shorter x h) zero lt) (are.past x (shorter x h));
  }
    where
      shorter : (x : TxnId) → (x.most ≡ 0 → length (set rows (txn_in e).least (row_after e (get_or rows (txn_in e).least old))) ≤ x.least) → x.most ≡ 0 → length rows ≤ x.least
      shorter x h zero = let k = h zero in omega (arith, k, length-set rows (txn_in e).least (row_after e (get_or rows (txn_in e).least old)))

      at : (k : ℕ) (row : Row) → k < length rows → (b : Bool) → (k == (txn_in e).least) ≡ b → IsRow (c ++ e ∷ []) (txn k) (get_or (set rows (txn_in e).least (row_after e (get_or rows (txn_in e).least old))) k row)
      at k row h true t =
          let i : k ≡ (txn_in e).least = eqb-true k (txn_in e).least t in
          subst (λ (j : ℕ). IsRow (c ++ e ∷ []) (txn j) (get_or (set rows (txn_in e).least (row_after e (get_or rows (txn_in e).least old))) j row)) (sym i)
          (subst (λ (r : Row). IsRow (c ++ e ∷ []) (txn (txn_in e).least) r) (sym (get_or-set_same rows (txn_in e).least (row_after e (get_or rows (txn_in e).least old)) row lt))
          (subst (λ (y : TxnId). IsRow (c ++ e ∷ []) y (row_after e (get_or rows (txn_in e).least old))) (sym (txn_of_least (txn_in e) zero))
          (row_goes_on c e (get_or rows (txn_in e).least old) may (row_is rows c (txn_in e) old are zero lt))))
      at k row h false t =
          let differ : k ≢ (txn_in e).least = λ i. true≢false (sym (eq-eqb k (txn_in e).least i) ∙ t) in
          subst (λ (r : Row). IsRow (c ++ e ∷ []) (txn k) r) (sym (get_or-set_other rows (txn_in e).least k (row_after e (get_or rows (txn_in e).least old)) row differ))
          (row_stays c e (txn k) (apart (txn k) (txn_in e) differ) (get_or rows k row) (are.each k row h))

  pub rows_begin : (deadline : ℕ) → AreRows (rows ++ record { deadline = deadline; status = Open; parts = 0 } ∷ []) (c ++ coord.New (txn (length rows)) deadline ∷ [])
  rows_begin deadline = record {
    count = omega (arith, length-append rows (new ∷ []), are.count, count_push c e);
    each = λ k row h. at k row (cases_lt k (length rows)) h;
    past = λ x h. blank_stays c e x (apart_past (length (rows ++ new ∷ [])) x (txn (length rows)) h refl (omega (arith, length-append rows (new ∷ [])))) (are.past x (λ z. let k = h z in omega (arith, k, length-append rows (new ∷ []))));
  }
    where
      new : Row
      new = record { deadline = deadline; status = Open; parts = 0 }

      e : CoordEntry
      e = coord.New (txn (length rows)) deadline

      at : (k : ℕ) (row : Row) → (k < length rows) ⊎ (length rows ≤ k) → k < length (rows ++ new ∷ []) → IsRow (c ++ e ∷ []) (txn k) (get_or (rows ++ new ∷ []) k row)
      at k row (inl lt) h =
          let differ : k ≢ length rows = omega (arith, lt) in
          subst (λ (r : Row). IsRow (c ++ e ∷ []) (txn k) r) (sym (get_or_append_left rows (new ∷ []) row k lt)) (row_stays c e (txn k) (apart (txn k) (txn (length rows)) differ) (get_or rows k row) (are.each k row lt))
      at k row (inr ge) h =
          let i : k ≡ length rows = omega (arith, ge, h, length-append rows (new ∷ [])) in
          subst (λ (j : ℕ). IsRow (c ++ e ∷ []) (txn j) (get_or (rows ++ new ∷ []) j row)) (sym i)
          (subst (λ (r : Row). IsRow (c ++ e ∷ []) (txn (length rows)) r) (sym (get_or-append_seam rows new [] row)) (row_begins c (txn (length rows)) deadline (are.past (txn (length rows)) (λ z. omega arith))))

-- no rows are the table of no entries
pub rows_none : AreRows [] []
rows_none = record {
  count = refl;
  each = λ k row h. absurd (omega (arith, h));
  past = λ x h. record { begun = refl; status = refl; deadline = refl; parts = λ p. refl };
}

-- ---- What is read.

pub row_read : (c front : List CoordEntry) (rows read : List Row) (x : TxnId) (d : Row) → c ≡ front → read ≡ rows → AreRows rows c → x.most ≤ 0 → x.least < length read → IsRow front x (get_or read x.least d)
row_read c front rows read x d e r are zero lt =
    subst (λ (f : List CoordEntry). IsRow f x (get_or read x.least d)) e
    (subst (λ (l : List Row). IsRow c x (get_or l x.least d)) (sym r) (row_is rows c x d are (omega (arith, zero)) (omega (arith, lt, ap length r))))

-- ---- A table after one entry more.

pub status_of_row : (c : List CoordEntry) (x : TxnId) (row : Row) → IsRow c x row → status_of (coord_skeletons c) x ≡ Some row.status
status_of_row c x row is = ap (λ b. if b then Some (unwrap_or (last_of (says_status x) (coord_skeletons c)) Open) else None) is.begun ∙ ap Some is.status

pub status_of_none : (c : List CoordEntry) (x : TxnId) → IsBlank c x → status_of (coord_skeletons c) x ≡ None
status_of_none c x is = ap (λ b. if b then Some (unwrap_or (last_of (says_status x) (coord_skeletons c)) Open) else None) is.begun

open_not_closed : (s : Status) → is_open (Some s) ≡ true → is_closed (Some s) ≡ false
open_not_closed Open h = refl
open_not_closed Committing h = refl
open_not_closed Committed h = sym h
open_not_closed Aborting h = refl
open_not_closed Aborted h = sym h

deciding_not_closed : (d : Decision) (s : Status) → is_deciding d (Some s) ≡ true → is_closed (Some s) ≡ false
deciding_not_closed d Open h = refl
deciding_not_closed d Committing h = refl
deciding_not_closed Commit Committed h = sym h
deciding_not_closed Abort Committed h = sym h
deciding_not_closed d Aborting h = refl
deciding_not_closed Commit Aborted h = sym h
deciding_not_closed Abort Aborted h = sym h

-- an allowed entry changes no closed transaction
turns_unclosed : (c : List CoordEntry) (e : CoordEntry) (row : Row) → Turns e → coord_allows 62 (coord_skeletons c) (coord_skeleton e) ≡ true → IsRow c (txn_in e) row → is_closed (Some row.status) ≡ false
turns_unclosed c (coord.New x d) row may h is = absurd may
turns_unclosed c (coord.AddPart x q) row may h is = open_not_closed row.status (subst (λ o. is_open o ≡ true) (status_of_row c x row is) (and_parts _ _ (and_parts _ _ (and_parts _ _ h).0).0).0)
turns_unclosed c (coord.Committing x) row may h is = open_not_closed row.status (subst (λ o. is_open o ≡ true) (status_of_row c x row is) h)
turns_unclosed c (coord.Committed x) row may h is = deciding_not_closed Commit row.status (subst (λ o. is_deciding Commit o ≡ true) (status_of_row c x row is) h)
turns_unclosed c (coord.Aborting x) row may h is = open_not_closed row.status (subst (λ o. is_open o ≡ true) (status_of_row c x row is) h)
turns_unclosed c (coord.Aborted x) row may h is = deciding_not_closed Abort row.status (subst (λ o. is_deciding Abort o ≡ true) (status_of_row c x row is) h)

-- the entries after one more
pub lawful_more : (n : ℕ) (c : List CoordEntry) (e : CoordEntry) → CoordLawful n (coord_skeletons c) → coord_allows n (coord_skeletons c) (coord_skeleton e) ≡ true → CoordLawful n (coord_skeletons (c ++ e ∷ []))
lawful_more n c e lawful h =
    ap (all_follow (coord_allows n) []) (skeletons-push c e) ∙ all_follow-append (coord_allows n) [] (coord_skeletons c) (coord_skeleton e ∷ [])
    ∙ both (all_follow (coord_allows n) [] (coord_skeletons c)) (coord_allows n (coord_skeletons c) (coord_skeleton e)) lawful h
  where
    both : (a b : Bool) → a ≡ true → b ≡ true → (a && (b && true)) ≡ true
    both true true p q = refl
    both true false p q = absurd (true≢false (sym q))
    both false b p q = absurd (true≢false (sym p))

pub entries_more : (c : List CoordEntry) (e : CoordEntry) → AreEntries c → IsCoordEntry e → coord_allows 62 (coord_skeletons c) (coord_skeleton e) ≡ true → AreEntries (c ++ e ∷ [])
entries_more c e are fits h = record { entries = All-push IsCoordEntry c e are.entries fits; lawful = lawful_more 62 c e are.lawful h }

-- what a table is but for the low watermark
pub record Moved (rows : List Row) (low : ℕ) (c : List CoordEntry) : Type 0 where
  pub kept : AreEntries c
  pub are : AreRows rows c
  pub passed : IsPassed rows low

module _ (rows : List Row) (low : ℕ) (c : List CoordEntry) (is : IsTable rows low c) where
  turned : (e : CoordEntry) → Turns e → IsCoordEntry e → coord_allows 62 (coord_skeletons c) (coord_skeleton e) ≡ true → Moved (set rows (txn_in e).least (row_after e (get_or rows (txn_in e).least empty_row))) low (c ++ e ∷ [])
  turned e may fits h =
      let at : ((txn_in e).most ≡ 0) × ((txn_in e).least < length rows) = begun_row rows c (txn_in e) is.are (turns_begun c e may h) in
      record {
        kept = entries_more c e is.kept fits h;
        are = rows_go_on rows c is.are e empty_row may at.0 at.1;
        passed = record {
          within = omega (arith, is.low_is.passed.within, length-set rows (txn_in e).least (row_after e (get_or rows (txn_in e).least empty_row)));
          below = λ k row lt.
              let differ : k ≢ (txn_in e).least = λ i. true≢false
              (sym (is.low_is.passed.below k row lt) ∙ ap (λ j. is_closed (Some (get_or rows j row).status)) i
              ∙ turns_unclosed c e (get_or rows (txn_in e).least row) may h (row_is rows c (txn_in e) row is.are at.0 at.1)) in
              ap (λ (r : Row). is_closed (Some r.status)) (get_or-set_other rows (txn_in e).least k (row_after e (get_or rows (txn_in e).least empty_row)) row differ) ∙ is.low_is.passed.below k row lt;
        };
      }

  begun : (x : TxnId) (deadline : ℕ) → IsCoordEntry (coord.New x deadline) → same_txn x (record { most = 0; least = count_new (coord_skeletons c) }) ≡ true → Moved (rows ++ record { deadline = deadline; status = Open; parts = 0 } ∷ []) low (c ++ coord.New x deadline ∷ [])
  begun x deadline fits h =
      let i : x ≡ txn (length rows) = txn_equal x (txn (count_new (coord_skeletons c))) h ∙ ap txn (sym is.are.count) in
      record {
        kept = entries_more c (coord.New x deadline) is.kept fits h;
        are = subst (λ (y : TxnId). AreRows (rows ++ record { deadline = deadline; status = Open; parts = 0 } ∷ []) (c ++ coord.New y deadline ∷ [])) (sym i) (rows_begin rows c is.are deadline);
        passed = record {
          within = omega (arith, is.low_is.passed.within, length-append rows (record { deadline = deadline; status = Open; parts = 0 } ∷ []));
          below = λ k row lt.
              let inside : k < length rows = omega (arith, lt, is.low_is.passed.within) in
              ap (λ (r : Row). is_closed (Some r.status)) (get_or_append_left rows (record { deadline = deadline; status = Open; parts = 0 } ∷ []) row k inside) ∙ is.low_is.passed.below k row lt;
        };
      }

  pub table_more : (e : CoordEntry) → IsCoordEntry e → coord_allows 62 (coord_skeletons c) (coord_skeleton e) ≡ true → Moved (rows_with e rows) low (c ++ e ∷ [])
  table_more (coord.New x d) fits h = begun x d fits h
  table_more (coord.AddPart x q) fits h = turned (coord.AddPart x q) (omega (arith, fits.2)) fits h
  table_more (coord.Committing x) fits h = turned (coord.Committing x) tt fits h
  table_more (coord.Committed x) fits h = turned (coord.Committed x) tt fits h
  table_more (coord.Aborting x) fits h = turned (coord.Aborting x) tt fits h
  table_more (coord.Aborted x) fits h = turned (coord.Aborted x) tt fits h

  -- the row that an allowed entry changes is there
  pub entry_row : (e : CoordEntry) → IsCoordEntry e → coord_allows 62 (coord_skeletons c) (coord_skeleton e) ≡ true → HasRow e (length rows)
  entry_row (coord.New x d) fits h = tt
  entry_row (coord.AddPart x q) fits h = (begun_row rows c x is.are (turns_begun c (coord.AddPart x q) (omega (arith, fits.2)) h)).1
  entry_row (coord.Committing x) fits h = (begun_row rows c x is.are (turns_begun c (coord.Committing x) tt h)).1
  entry_row (coord.Committed x) fits h = (begun_row rows c x is.are (turns_begun c (coord.Committed x) tt h)).1
  entry_row (coord.Aborting x) fits h = (begun_row rows c x is.are (turns_begun c (coord.Aborting x) tt h)).1
  entry_row (coord.Aborted x) fits h = (begun_row rows c x is.are (turns_begun c (coord.Aborted x) tt h)).1

pub allowed_in : (c front : List CoordEntry) (e : CoreEntry) → c ≡ front → coord_allows 62 (coord_skeletons front) e ≡ true → coord_allows 62 (coord_skeletons c) e ≡ true
allowed_in c front e same h = ap (λ l. coord_allows 62 (coord_skeletons l) e) same ∙ h
