-- The numbers of the undriven transactions after one entry more, and what is read off them.
use Rattle.std.proofs.Common.{◌≡◌, ◌≢◌, ℕ, suc, ◌-◌, ◌<◌, ◌≤◌, ◌==◌, eqb-true, eq-eqb, arith, Bool, true, false, cond, List, [], ◌∷◌, ◌++◌, length, length-append, get_or, set, length-set, insert, remove, filter, Some, None, refl, sym, ap, ◌∙◌, subst, true≢false, count_by}
use Rattle.std.specs.Prelude.{Contains, option_map, min}
use Rattle.std.proofs.lemmas.List.{get_or-set_same, get_or-set_other, get_or_append_left}
use Rattle.std.proofs.Math.Seq.{get_or-append_seam}
use Rattle.std.proofs.lemmas.List.{append-nil}
use Rattle.std.proofs.Math.Nat.{min-le_right}
use Rattle.std.proofs.lemmas.List.Elements.{filter-append}
use Rattle.std.proofs.lemmas.List.Sums.{length-filter}
use Rattle.txn_base.specs.declared.txn.TxnId.{TxnId}
use Rattle.txn_base.specs.declared.txn.Decision.{Decision}
use Rattle.txn_base.specs.declared.txn.Decision.TheVariants.{Commit, Abort}
use Rattle.txn_base.specs.declared.txn.Status.{Status}
use Rattle.txn_base.specs.declared.txn.Status.TheVariants.{Open, Committing, Committed, Aborting, Aborted}
use Rattle.txn_base.specs.declared.entry.CoordEntry.{CoordEntry}
use Rattle.txn_base.specs.declared.entry.CoordEntry.TheVariants as coord
use Rattle.txn_base.specs.Records.{IsCoordEntry}
use Rattle.txn_model.specs.Words.{below}
use Rattle.txn_model.specs.Skeletons.{coord_skeletons}
use Rattle.txn_model.specs.Coord.{count_new, status_of, is_open, is_deciding}
use Rattle.txn_model.specs.Deadlines.{txn, is_undriven, transactions, first_undriven}
use Rattle.txn_table.specs.declared.row.Row.{Row}
use Rattle.txn_table.specs.Table.{IsTable, IsGap, IsPlace, IsPut, IsTaken, IsKept, IsReady, Rises, drives, empty_row, is_new_entry, is_undriven_in, may_follow, row_after, rows_with, txn_in, undriven_of}
use Rattle.txn_table.proofs.Entry.{turns_begun}
use Rattle.txn_table.proofs.Rows.{begun_row, row_is, status_of_row, entry_row}
use Rattle.txn_table.proofs.Finding.{find-map, status_at}
use Rattle.txn_table.proofs.Numbers.{passing_rise, fewer_pass, same_pass, passes_more, passes_less, one_passes, one_is_there, below_more, first_of_list, find_passing, count_map}

open_driven : (s : Status) → is_open (Some s) ≡ true → is_undriven (Some s) ≡ false
open_driven Open h = refl
open_driven Committing h = sym h
open_driven Committed h = refl
open_driven Aborting h = sym h
open_driven Aborted h = refl

deciding_undriven : (d : Decision) (s : Status) → is_deciding d (Some s) ≡ true → is_undriven (Some s) ≡ true
deciding_undriven Commit Open h = h
deciding_undriven Abort Open h = h
deciding_undriven d Committing h = refl
deciding_undriven Commit Committed h = h
deciding_undriven Abort Committed h = h
deciding_undriven d Aborting h = refl
deciding_undriven Commit Aborted h = h
deciding_undriven Abort Aborted h = h

-- ---- Before the entry.

pub numbers_rise : (rows : List Row) (numbers : List ℕ) → numbers ≡ undriven_of rows → Rises numbers
numbers_rise rows numbers is = subst Rises (sym is) (passing_rise (drives rows) 0 (length rows))

module _ (rows : List Row) (low : ℕ) (c : List CoordEntry) (table : IsTable rows low c) where
  -- an open transaction has a row and isn't undriven; a decided one is
  opened : (x : TxnId) → (x.most ≡ 0) × (x.least < length rows) → is_open (status_of (coord_skeletons c) x) ≡ true → drives rows x.least ≡ false
  opened x at h = open_driven (get_or rows x.least empty_row).status (ap is_open (sym (status_of_row c x (get_or rows x.least empty_row) (row_is rows c x empty_row table.are at.0 at.1))) ∙ h)

  decided : (d : Decision) (x : TxnId) → (x.most ≡ 0) × (x.least < length rows) → is_deciding d (status_of (coord_skeletons c) x) ≡ true → drives rows x.least ≡ true
  decided d x at h =
      deciding_undriven d (get_or rows x.least empty_row).status (ap (is_deciding d) (sym (status_of_row c x (get_or rows x.least empty_row) (row_is rows c x empty_row table.are at.0 at.1))) ∙ h)

  module _ (numbers : List ℕ) (is : numbers ≡ undriven_of rows) where
    fresh : (k : ℕ) → drives rows k ≡ false → (there : Contains numbers k) → ⊥
    fresh k fails there = true≢false (sym (one_passes (drives rows) k (below (length rows)) (subst (λ (l : List ℕ). Contains l k) is there)) ∙ fails)

    spare : (k room : ℕ) → k < length rows → length rows ≤ room → drives rows k ≡ false → length numbers < room
    spare k room lt le fails = let h = fewer_pass (drives rows) k 0 (length rows) (omega arith) (omega arith) fails in let e : length numbers ≡ length (undriven_of rows) = ap length is in omega arith

    there : (k : ℕ) → k < length rows → drives rows k ≡ true → Contains numbers k
    there k lt passes = subst (λ (l : List ℕ). Contains l k) (sym is) (one_is_there (drives rows) k 0 (length rows) (omega arith) (omega arith) passes)

    pub numbers_ready : (room : ℕ) → length rows ≤ room → (e : CoordEntry) → may_follow 62 c e ≡ true → IsReady e numbers room
    numbers_ready room le (coord.New x d) h = tt
    numbers_ready room le (coord.AddPart x q) h = tt
    numbers_ready room le (coord.Committing x) h =
        let at = begun_row rows c x table.are (turns_begun c (coord.Committing x) tt h) in
        (fresh x.least (opened x at h), spare x.least room at.1 le (opened x at h))
    numbers_ready room le (coord.Committed x) h = let at = begun_row rows c x table.are (turns_begun c (coord.Committed x) tt h) in there x.least at.1 (decided Commit x at h)
    numbers_ready room le (coord.Aborting x) h =
        let at = begun_row rows c x table.are (turns_begun c (coord.Aborting x) tt h) in
        (fresh x.least (opened x at h), spare x.least room at.1 le (opened x at h))
    numbers_ready room le (coord.Aborted x) h = let at = begun_row rows c x table.are (turns_begun c (coord.Aborted x) tt h) in there x.least at.1 (decided Abort x at h)

-- ---- After it.

module _ (rows : List Row) (numbers : List ℕ) (is : numbers ≡ undriven_of rows) (k : ℕ) (row : Row) (lt : k < length rows) where
  here : drives (set rows k row) k ≡ is_undriven (Some row.status)
  here = ap (λ (r : Row). is_undriven (Some r.status)) (get_or-set_same rows k row empty_row lt)

  beside : (j : ℕ) → j ≢ k → drives (set rows k row) j ≡ drives rows j
  beside j differ = ap (λ (r : Row). is_undriven (Some r.status)) (get_or-set_other rows k j row empty_row differ)

  as_many : filter (drives (set rows k row)) (below (length rows)) ≡ undriven_of (set rows k row)
  as_many = ap (λ (n : ℕ). filter (drives (set rows k row)) (below n)) (sym (length-set rows k row))

  put_in : (new : List ℕ) → drives rows k ≡ false → is_undriven (Some row.status) ≡ true → IsPut k numbers new → new ≡ undriven_of (set rows k row)
  put_in new fails passes put =
      put.2 ∙ ap (λ (l : List ℕ). insert l put.0 k) is
      ∙ sym (passes_more (drives rows) (drives (set rows k row)) k beside fails (here ∙ passes) 0 (length rows) (omega arith) (omega (arith, lt)) put.0 (subst (λ (l : List ℕ). IsGap l k put.0) is put.1))
      ∙ as_many

  taken_out : (new : List ℕ) → drives rows k ≡ true → is_undriven (Some row.status) ≡ false → IsTaken k numbers new → new ≡ undriven_of (set rows k row)
  taken_out new passes fails taken =
      taken.2 ∙ ap (λ (l : List ℕ). remove l taken.0) is
      ∙ sym (passes_less (drives rows) (drives (set rows k row)) k beside passes (here ∙ fails) 0 (length rows) (omega arith) (omega (arith, lt)) taken.0 (subst (λ (l : List ℕ). IsPlace l k taken.0) is taken.1))
      ∙ as_many

  stays : is_undriven (Some row.status) ≡ drives rows k → numbers ≡ undriven_of (set rows k row)
  stays same = is ∙ sym (same_pass (drives rows) (drives (set rows k row)) 0 (length rows) (λ j from under. by_test j (j == k) refl)) ∙ as_many
    where
      by_test : (j : ℕ) (b : Bool) → (j == k) ≡ b → drives (set rows k row) j ≡ drives rows j
      by_test j true e = let i = eqb-true j k e in subst (λ (m : ℕ). drives (set rows k row) m ≡ drives rows m) (sym i) (here ∙ same)
      by_test j false e = beside j (λ i. true≢false (sym (eq-eqb j k i) ∙ e))

begins : (rows : List Row) (row : Row) → is_undriven (Some row.status) ≡ false → undriven_of rows ≡ undriven_of (rows ++ row ∷ [])
begins rows row fails =
    let as_many : suc (length rows) ≡ length (rows ++ row ∷ []) = omega (arith, length-append rows (row ∷ [])) in
    sym (append-nil (undriven_of rows)) ∙ ap (λ (l : List ℕ). undriven_of rows ++ l) (sym last)
    ∙ ap (λ (l : List ℕ). l ++ filter grown (n ∷ [])) (sym (same_pass (drives rows) grown 0 n (λ j from under. ap (λ (r : Row). is_undriven (Some r.status)) (get_or_append_left rows (row ∷ []) empty_row j (omega arith)))))
    ∙ sym (filter-append grown (below n) (n ∷ [])) ∙ ap (filter grown) (sym (below_more n)) ∙ ap (λ (m : ℕ). filter grown (below m)) as_many
  where
    n : ℕ
    n = length rows

    grown : ℕ → Bool
    grown = drives (rows ++ row ∷ [])

    last : filter grown (n ∷ []) ≡ []
    last = ap (λ (b : Bool). cond b (n ∷ []) []) (ap (λ (r : Row). is_undriven (Some r.status)) (get_or-append_seam rows row [] empty_row) ∙ fails)

module _ (rows : List Row) (low : ℕ) (c : List CoordEntry) (table : IsTable rows low c) (numbers : List ℕ) (is : numbers ≡ undriven_of rows) where
  -- the row of an entry after it
  abbrev next : CoordEntry → Row
  next e = row_after e (get_or rows (txn_in e).least empty_row)

  pub numbers_after : (e : CoordEntry) (new : List ℕ) → IsCoordEntry e → may_follow 62 c e ≡ true → IsKept e numbers new → new ≡ undriven_of (rows_with e rows)
  numbers_after (coord.New x d) new fits h kept = kept ∙ is ∙ begins rows (record { deadline = d; status = Open; parts = 0 }) refl
  numbers_after (coord.AddPart x q) new fits h kept =
      kept ∙ stays rows numbers is x.least (next (coord.AddPart x q)) (entry_row rows low c table (coord.AddPart x q) fits h) refl
  numbers_after (coord.Committing x) new fits h kept =
      let at = begun_row rows c x table.are (turns_begun c (coord.Committing x) tt h) in
      put_in rows numbers is x.least (next (coord.Committing x)) at.1 new (opened rows low c table x at h) refl kept
  numbers_after (coord.Committed x) new fits h kept =
      let at = begun_row rows c x table.are (turns_begun c (coord.Committed x) tt h) in
      taken_out rows numbers is x.least (next (coord.Committed x)) at.1 new (decided rows low c table Commit x at h) refl kept
  numbers_after (coord.Aborting x) new fits h kept =
      let at = begun_row rows c x table.are (turns_begun c (coord.Aborting x) tt h) in
      put_in rows numbers is x.least (next (coord.Aborting x)) at.1 new (opened rows low c table x at h) refl kept
  numbers_after (coord.Aborted x) new fits h kept =
      let at = begun_row rows c x table.are (turns_begun c (coord.Aborted x) tt h) in
      taken_out rows numbers is x.least (next (coord.Aborted x)) at.1 new (decided rows low c table Abort x at h) refl kept

  -- ---- What is read.

  numbers_are : filter (λ k. is_undriven_in c (txn k)) (below (count_new (coord_skeletons c))) ≡ numbers
  numbers_are =
      ap (λ (n : ℕ). filter (λ k. is_undriven_in c (txn k)) (below n)) (sym table.are.count)
      ∙ same_pass (drives rows) (λ k. is_undriven_in c (txn k)) 0 (length rows) (λ j from under. ap is_undriven (status_at rows c j empty_row table.are (omega (arith, under)))) ∙ sym is

  pub first_read : first_undriven c ≡ option_map txn (first_of_list numbers)
  first_read =
      find-map txn (is_undriven_in c) (below (count_new (coord_skeletons c)))
      ∙ ap (option_map txn) (find_passing (λ k. is_undriven_in c (txn k)) (below (count_new (coord_skeletons c)))) ∙ ap (λ (l : List ℕ). option_map txn (first_of_list l)) numbers_are

  pub count_read : count_by (is_undriven_in c) (transactions c) ≡ length numbers
  count_read =
      count_map txn (is_undriven_in c) (below (count_new (coord_skeletons c)))
      ∙ sym (length-filter (λ k. is_undriven_in c (txn k)) (below (count_new (coord_skeletons c)))) ∙ ap length numbers_are

pub first_is : (numbers : List ℕ) (k : ℕ) → 0 < length numbers → k ≡ get_or numbers 0 k → first_of_list numbers ≡ Some k
first_is [] k some is = absurd (omega arith)
first_is (x ∷ xs) k some is = ap (λ (j : ℕ). Some j) (sym is)

pub first_is_none : (numbers : List ℕ) → length numbers ≤ 0 → first_of_list numbers ≡ None
first_is_none [] none = refl
first_is_none (x ∷ xs) none = absurd (omega arith)

-- ---- Room for all of them.

pub room_stays : (rows : List Row) (e : CoordEntry) (capacity room : ℕ) → length rows ≤ room → (is_new_entry e ≡ true → 1 ≤ min capacity room - length rows) → length (rows_with e rows) ≤ room
room_stays rows (coord.New x d) capacity room le some =
    let l = length-append rows (record { deadline = d; status = Open; parts = 0 } ∷ []) in
    let m = some refl in
    let r = min-le_right capacity room in
    omega arith
room_stays rows (coord.AddPart x q) capacity room le some = let l = length-set rows x.least (row_after (coord.AddPart x q) (get_or rows x.least empty_row)) in omega arith
room_stays rows (coord.Committing x) capacity room le some = let l = length-set rows x.least (row_after (coord.Committing x) (get_or rows x.least empty_row)) in omega arith
room_stays rows (coord.Committed x) capacity room le some = let l = length-set rows x.least (row_after (coord.Committed x) (get_or rows x.least empty_row)) in omega arith
room_stays rows (coord.Aborting x) capacity room le some = let l = length-set rows x.least (row_after (coord.Aborting x) (get_or rows x.least empty_row)) in omega arith
room_stays rows (coord.Aborted x) capacity room le some = let l = length-set rows x.least (row_after (coord.Aborted x) (get_or rows x.least empty_row)) in omega arith
