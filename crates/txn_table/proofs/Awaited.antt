-- What the deadlines of the open transactions say of a log.
use Rattle.std.proofs.Common.{◌≡◌, ◌⊎◌, ⊎_elim, inl, inr, ℕ, ◌+◌, ◌<◌, ◌≤◌, arith, Bool, true, false, ◌&&◌, ◌||◌, not, nat_le, cond, List, [], ◌∷◌, get_or, filter, Some, None, refl, sym, ap, ◌∙◌, subst, true≢false, count_by}
use Rattle.std.specs.Prelude.{All, Contains, option_map}
use Rattle.std.specs.List.{list_all}
use Rattle.std.proofs.lemmas.Bool.{cases_lt}
use Rattle.std.proofs.lemmas.List.Folds.{list_all-map}
use Rattle.std.proofs.lemmas.List.{length-map}
use Rattle.std.proofs.Math.ListN.{get_or-map}
use Rattle.std.proofs.lemmas.List.Elements.{All-map, All-filter, filter_passes}
use Rattle.std.proofs.lemmas.List.Sums.{sum_by-cons, AllPass-from_list_all, list_all-from_AllPass}
use Rattle.txn_base.specs.declared.entry.CoordEntry.{CoordEntry}
use Rattle.txn_model.specs.Words.{below}
use Rattle.txn_model.specs.Skeletons.{coord_skeletons}
use Rattle.txn_model.specs.Coord.{count_new}
use Rattle.txn_model.specs.Deadlines.{txn, transactions, deadline_of, is_expired, is_due, first_due}
use Rattle.txn_model.proofs.Laws.Tests.{and_l, and_r, and_both, or_cases, or_r, no_true}
use Rattle.txn_table.specs.Waiting.{waits, deadline_at, waiting}
use Rattle.txn_table.proofs.Finding.{found, found_none, find-map}
use Rattle.txn_table.proofs.Numbers.{length-numbers, number_at, one_is_there, count_map}

-- ---- The transactions that wait.

module _ (c : List CoordEntry) where
  -- the numbers of those that wait
  abbrev open_ones : List ℕ
  open_ones = filter (waits c) (below (count_new (coord_skeletons c)))

  -- an item is that of a transaction that waits
  abbrev IsItem : ℕ × ℕ → Type 0
  IsItem item = (item.1 < count_new (coord_skeletons c)) × (waits c item.1 ≡ true) × (item.0 ≡ deadline_of c (txn item.1))

  few : All (λ k. k < count_new (coord_skeletons c)) open_ones
  few = All-filter (waits c) (λ k. k < count_new (coord_skeletons c)) (below (count_new (coord_skeletons c)))
      (λ i d lt.
      let l = length-numbers 0 (count_new (coord_skeletons c)) in
      let at = number_at 0 (count_new (coord_skeletons c)) i d (omega (arith, lt, l)) in
      omega (arith, lt, l, at))

  items : All IsItem (waiting c)
  items = All-map IsItem (deadline_at c) open_ones (λ i d lt. (few i d lt, filter_passes (waits c) (below (count_new (coord_skeletons c))) i d lt, refl))

  -- what holds of each item holds of each transaction that waits
  of_each : (P : ℕ × ℕ → Type 0) → All P (waiting c) → (k : ℕ) → k < count_new (coord_skeletons c) → waits c k ≡ true → P (deadline_at c k)
  of_each P all k lt waits_there =
      let there : Contains open_ones k = one_is_there (waits c) k 0 (count_new (coord_skeletons c)) (omega arith) (omega (arith, lt)) waits_there in
      subst P (get_or-map (deadline_at c) open_ones there.0 k ∙ ap (deadline_at c) there.2) (all there.0 (deadline_at c k) (omega (arith, there.1, length-map open_ones (deadline_at c))))

  late : (now : ℕ) → (k : ℕ) → (waits c k ≡ true → now < deadline_of c (txn k)) → is_expired c now (txn k) ≡ false
  late now k h = go (waits c k) h
    where
      go : (b : Bool) → (b ≡ true → now < deadline_of c (txn k)) → (b && nat_le (deadline_of c (txn k)) now) ≡ false
      go true h = let lt = h refl in search (arith, lt)
      go false h = refl

  -- where none of these deadlines is due, no transaction is
  pub none_waiting : (now : ℕ) → All (λ item. now < item.0) (waiting c) → first_due c now ≡ None
  none_waiting now all =
      find-map txn (is_due c now) (below (count_new (coord_skeletons c)))
      ∙ ap (option_map txn) (found_none (λ k. is_due c now (txn k)) 0 (count_new (coord_skeletons c))
      (λ k from lt. and_none (is_expired c now (txn k)) _ (late now k (λ waits_there. of_each (λ item. now < item.0) all k (omega (arith, lt)) waits_there))))
    where
      and_none : (a b : Bool) → a ≡ false → (a && b) ≡ false
      and_none true b h = absurd (true≢false h)
      and_none false b h = refl

  -- x is no later than any transaction that is expired
  abbrev no_later : ℕ → ℕ → ℕ → Bool
  no_later now n j = not (is_expired c now (txn j)) || nat_le (deadline_of c (txn n)) (deadline_of c (txn j))

  by_number : (now n : ℕ) → list_all (λ y. not (is_expired c now y) || nat_le (deadline_of c (txn n)) (deadline_of c y)) (transactions c) ≡ list_all (no_later now n) (below (count_new (coord_skeletons c)))
  by_number now n = list_all-map (λ y. not (is_expired c now y) || nat_le (deadline_of c (txn n)) (deadline_of c y)) txn (below (count_new (coord_skeletons c)))

  -- where one of these deadlines is due and none comes before it, its transaction is the first that is due
  module _ (now d n : ℕ) (there : Contains (waiting c) (d, n)) (due : d ≤ now) (least : All (λ item. (item.0 < d) ⊎ ((item.0 ≡ d) × (item.1 < n)) → ⊥) (waiting c)) where
    item : IsItem (d, n)
    item = subst IsItem there.2 (items there.0 (d, n) there.1)

    never_before : (k : ℕ) → k < count_new (coord_skeletons c) → waits c k ≡ true → (deadline_of c (txn k) < d) ⊎ ((deadline_of c (txn k) ≡ d) × (k < n)) → ⊥
    never_before k lt waits_there = of_each (λ item. (item.0 < d) ⊎ ((item.0 ≡ d) × (item.1 < n)) → ⊥) least k lt waits_there

    not_earlier : (k : ℕ) → k < count_new (coord_skeletons c) → waits c k ≡ true → d ≤ deadline_of c (txn k)
    not_earlier k lt waits_there = ⊎_elim (λ before. absurd (never_before k lt waits_there (inl before))) (λ ge. ge) (cases_lt (deadline_of c (txn k)) d)

    expired : is_expired c now (txn n) ≡ true
    expired = and_both (waits c n) (nat_le (deadline_of c (txn n)) now) item.1 (let e = item.2 in search (arith, due, e))

    each : (k : ℕ) → k < count_new (coord_skeletons c) → no_later now n k ≡ true
    each k lt = go (waits c k) (λ waits_there. let le = not_earlier k lt waits_there in let e = item.2 in search (arith, le, e))
      where
        go : (b : Bool) → (b ≡ true → nat_le (deadline_of c (txn n)) (deadline_of c (txn k)) ≡ true)
            → (not (b && nat_le (deadline_of c (txn k)) now) || nat_le (deadline_of c (txn n)) (deadline_of c (txn k))) ≡ true
        go true h = or_r (not (nat_le (deadline_of c (txn k)) now)) (nat_le (deadline_of c (txn n)) (deadline_of c (txn k))) (h refl)
        go false h = refl

    here : is_due c now (txn n) ≡ true
    here =
        and_both (is_expired c now (txn n)) _ expired
        (by_number now n ∙ list_all-from_AllPass (no_later now n) (below (count_new (coord_skeletons c)))
        (λ i k lt.
        let l = length-numbers 0 (count_new (coord_skeletons c)) in
        let at = number_at 0 (count_new (coord_skeletons c)) i k (omega (arith, lt, l)) in
        each (get_or (below (count_new (coord_skeletons c))) i k) (omega (arith, lt, l, at))))

    before : (j : ℕ) → j < n → is_due c now (txn j) ≡ false
    before j lt = by_test (is_due c now (txn j)) refl
      where
        by_test : (b : Bool) → is_due c now (txn j) ≡ b → is_due c now (txn j) ≡ false
        by_test false e = e
        by_test true e =
            let within = item.0 in
            let passes : is_expired c now (txn j) ≡ true = and_l (is_expired c now (txn j)) _ e in
            let waits_there : waits c j ≡ true = and_l (waits c j) (nat_le (deadline_of c (txn j)) now) passes in
            let all : list_all (no_later now j) (below (count_new (coord_skeletons c))) ≡ true = sym (by_number now j) ∙ and_r (is_expired c now (txn j)) _ e in
            let l = length-numbers 0 (count_new (coord_skeletons c)) in
            let at : get_or (below (count_new (coord_skeletons c))) n n ≡ n = number_at 0 (count_new (coord_skeletons c)) n n (omega (arith, within)) ∙ omega arith in
            let one : no_later now j n ≡ true = subst (λ (k : ℕ). no_later now j k ≡ true) at (AllPass-from_list_all (no_later now j) (below (count_new (coord_skeletons c))) all n n (omega (arith, within, l))) in
            let le : nat_le (deadline_of c (txn j)) (deadline_of c (txn n)) ≡ true = ⊎_elim (λ h. absurd (no_true (sym (ap not expired) ∙ h))) (λ h. h) (or_cases (not (is_expired c now (txn n))) _ one) in
            let low = not_earlier j (omega (arith, lt, within)) waits_there in
            let same = item.2 in
            let equal : deadline_of c (txn j) ≡ d = search (arith, le, low, same) in
            absurd (never_before j (omega (arith, lt, within)) waits_there (inr (equal, lt)))

    pub first_waiting : first_due c now ≡ Some (txn n)
    first_waiting =
        let within = item.0 in
        find-map txn (is_due c now) (below (count_new (coord_skeletons c)))
        ∙ ap (option_map txn) (found (λ k. is_due c now (txn k)) 0 (count_new (coord_skeletons c)) n (omega arith) (omega (arith, within)) (λ j from lt. before j lt) here)

  -- how many are due
  pub due_waiting : (now : ℕ) → count_by (λ item. nat_le item.0 now) (waiting c) ≡ count_by (is_expired c now) (transactions c)
  due_waiting now =
      count_map (deadline_at c) (λ item. nat_le item.0 now) open_ones ∙ passing (waits c) (λ k. nat_le (deadline_of c (txn k)) now) (below (count_new (coord_skeletons c)))
      ∙ sym (count_map txn (is_expired c now) (below (count_new (coord_skeletons c))))
    where
      passing : (p f : ℕ → Bool) (ks : List ℕ) → count_by f (filter p ks) ≡ count_by (λ k. p k && f k) ks
      passing p f [] = refl
      passing p f (k ∷ ks) = go (p k) (passing p f ks) ∙ sym (sum_by-cons (λ j. cond (p j && f j) 1 0) k ks)
        where
          go : (b : Bool) → count_by f (filter p ks) ≡ count_by (λ k. p k && f k) ks → count_by f (cond b (k ∷ filter p ks) (filter p ks)) ≡ cond {A = ℕ} (b && f k) 1 0 + count_by (λ k. p k && f k) ks
          go true h = sum_by-cons (λ j. cond (f j) 1 0) k (filter p ks) ∙ ap (λ (n : ℕ). cond {A = ℕ} (f k) 1 0 + n) h
          go false h = h ∙ omega arith
