-- The first number that passes a test, and what a table finds.
use Rattle.std.proofs.Common.{◌≡◌, ℕ, zero, suc, ◌+◌, ◌<◌, ◌≤◌, arith, ⊎_elim, Bool, true, false, cond, not, List, [], ◌∷◌, length, get_or, Some, None, refl, sym, ap, ◌∙◌, true≢false}
use Rattle.std.specs.Prelude.{Option, map, find, option_map, unwrap_or}
use Rattle.std.proofs.lemmas.Bool.{cases_lt}
use Rattle.txn_base.specs.declared.txn.TxnId.{TxnId}
use Rattle.txn_base.specs.declared.txn.Decision.{Decision}
use Rattle.txn_base.specs.declared.txn.Decision.TheVariants.{Commit, Abort}
use Rattle.txn_base.specs.declared.entry.CoordEntry.{CoordEntry}
use Rattle.txn_base.specs.declared.core_entry.CoreEntry.{CoreEntry}
use Rattle.txn_model.specs.Words.{numbers_from}
use Rattle.txn_model.specs.Skeletons.{coord_skeletons}
use Rattle.txn_model.specs.Coord.{has_new, count_new, status_of, decision_of, closing_of, CoordLawful}
use Rattle.txn_model.specs.Deadlines.{txn, is_closed, low_of}
use Rattle.txn_model.proofs.Laws.Logs.{Agrees, last_by, status_by, lawful_agrees}
use Rattle.txn_table.specs.declared.row.Row.{Row}
use Rattle.txn_table.specs.Table.{AreRows, IsTable, decision_in}
use Rattle.txn_table.proofs.Rows.{status_of_row}

-- ---- Numbers.

module _ (f : ℕ → Bool) where
  pub found : (k n m : ℕ) → k ≤ m → m < k + n → ((j : ℕ) → k ≤ j → j < m → f j ≡ false) → f m ≡ true → find f (numbers_from k n) ≡ Some m
  found k zero m low high before here = absurd (omega (arith, low, high))
  found k (suc n) m low high before here = ⊎_elim
      (λ lt. skip (f k) (before k (omega arith) lt) (found (suc k) n m (omega (arith, lt)) (omega (arith, high)) (λ j l h. before j (omega (arith, l)) h) here))
      (λ ge. let i : k ≡ m = omega (arith, low, ge) in take_it (f k) (ap f i ∙ here) i)
      (cases_lt k m)
    where
      skip : (b : Bool) → b ≡ false → find f (numbers_from (suc k) n) ≡ Some m → cond b (Some k) (find f (numbers_from (suc k) n)) ≡ Some m
      skip true e h = absurd (true≢false e)
      skip false e h = h

      take_it : (b : Bool) → b ≡ true → k ≡ m → cond b (Some k) (find f (numbers_from (suc k) n)) ≡ Some m
      take_it true e i = ap Some i
      take_it false e i = absurd (true≢false (sym e))

  pub found_none : (k n : ℕ) → ((j : ℕ) → k ≤ j → j < k + n → f j ≡ false) → find f (numbers_from k n) ≡ None
  found_none k zero before = refl
  found_none k (suc n) before = skip (f k) (before k (omega arith) (omega arith)) (found_none (suc k) n (λ j l h. before j (omega (arith, l)) (omega (arith, h))))
    where
      skip : (b : Bool) → b ≡ false → find f (numbers_from (suc k) n) ≡ None → cond b (Some k) (find f (numbers_from (suc k) n)) ≡ None
      skip true e h = absurd (true≢false e)
      skip false e h = h

pub find-map : {A B : Type 0} (g : A → B) (f : B → Bool) (xs : List A) → find f (map g xs) ≡ option_map g (find (λ x. f (g x)) xs)
find-map g f [] = refl
find-map g f (x ∷ xs) = by_test (f (g x)) (find-map g f xs)
  where
    by_test : (b : Bool) → find f (map g xs) ≡ option_map g (find (λ x. f (g x)) xs) → cond b (Some (g x)) (find f (map g xs)) ≡ option_map g (cond b (Some x) (find (λ x. f (g x)) xs))
    by_test true h = refl
    by_test false h = h

-- ---- In a table.

pub status_at : (rows : List Row) (c : List CoordEntry) (k : ℕ) (row : Row) → AreRows rows c → k < length rows → status_of (coord_skeletons c) (txn k) ≡ Some (get_or rows k row).status
status_at rows c k row are lt = status_of_row c (txn k) (get_or rows k row) (are.each k row lt)

module _ (rows : List Row) (low : ℕ) (c : List CoordEntry) (row : Row) (is : IsTable rows low c) where
  closed_below : (j : ℕ) → j < low → is_closed (status_of (coord_skeletons c) (txn j)) ≡ true
  closed_below j lt = ap is_closed (status_at rows c j row is.are (omega (arith, lt, is.low_is.passed.within))) ∙ is.low_is.passed.below j row lt

  pub low_found : low_of c ≡ low
  low_found = ⊎_elim
      (λ lt. ap (λ o. unwrap_or o (count_new (coord_skeletons c)))
      (found (λ k. not (is_closed (status_of (coord_skeletons c) (txn k)))) 0 (count_new (coord_skeletons c)) low (omega arith) (omega (arith, lt, is.are.count))
      (λ j l h. ap not (closed_below j h)) (ap not (ap is_closed (status_at rows c low row is.are lt) ∙ is.low_is.here row lt))))
      (λ ge. ap (λ o. unwrap_or o (count_new (coord_skeletons c)))
      (found_none (λ k. not (is_closed (status_of (coord_skeletons c) (txn k)))) 0 (count_new (coord_skeletons c)) (λ j l h. ap not (closed_below j (omega (arith, h, ge, is.are.count)))))
      ∙ omega (arith, ge, is.are.count, is.low_is.passed.within))
      (cases_lt low (length rows))

-- ---- A decision, by the status.

pub decision_by_status : (c : List CoreEntry) (x : TxnId) → CoordLawful 62 c → decision_in (status_of c x) ≡ decision_of c x
decision_by_status c x lawful =
    let a : Agrees c x = lawful_agrees 62 c x lawful in
    ap (λ l. decision_in (status_by (has_new c x) l)) a.said ∙ by_cases (has_new c x) (closing_of c x) (decision_of c x) a.when_closed a.when_decided
  where
    none_some : {v : Decision} → None ≡ Some v → ⊥
    none_some h = cc

    by_cases : (n : Bool) (k d : Option Decision) → ((w : Decision) → k ≡ Some w → d ≡ Some w) → ((w : Decision) → d ≡ Some w → n ≡ true) → decision_in (status_by n (last_by k d)) ≡ d
    by_cases false k None closed decided = refl
    by_cases false k (Some w) closed decided = absurd (true≢false (sym (decided w refl)))
    by_cases true (Some Commit) d closed decided = sym (closed Commit refl)
    by_cases true (Some Abort) d closed decided = sym (closed Abort refl)
    by_cases true None None closed decided = refl
    by_cases true None (Some Commit) closed decided = refl
    by_cases true None (Some Abort) closed decided = refl
