-- The numbers that pass a test, in order, and how they change where the test changes at one number.
use Rattle.std.proofs.Common.{◌≡◌, ◌≢◌, ◌⊎◌, ⊎_elim, inl, inr, ℕ, zero, suc, ◌+◌, ◌<◌, ◌≤◌, arith, Bool, true, false, cond, List, [], ◌∷◌, ◌++◌, length, get_or, insert, remove, filter, map, Some, None, refl, sym, ap, ap₂, ◌∙◌, subst, count_by}
use Rattle.std.specs.Prelude.{All, Contains, Option, find}
use Rattle.std.proofs.lemmas.Bool.{cases_lt}
use Rattle.std.proofs.lemmas.List.Elements.{All-filter, filter_passes}
use Rattle.std.proofs.lemmas.List.Kept.{AllPairs-filter}
use Rattle.std.proofs.lemmas.List.Sums.{sum_by-cons, length-filter, count_by-le-length}
use Rattle.txn_model.specs.Words.{numbers_from, below}
use Rattle.txn_table.specs.Table.{IsGap, IsPlace, Rises}

-- ---- Numbers in order.

pub length-numbers : (a n : ℕ) → length (numbers_from a n) ≡ n
length-numbers a zero = refl
length-numbers a (suc n) = ap suc (length-numbers (suc a) n)

pub number_at : (a n i d : ℕ) → i < n → get_or (numbers_from a n) i d ≡ a + i
number_at a zero i d lt = absurd (omega arith)
number_at a (suc n) zero d lt = omega arith
number_at a (suc n) (suc i) d lt = let h = number_at (suc a) n i d (omega arith) in h ∙ omega arith

pub numbers_more : (a n : ℕ) → numbers_from a (suc n) ≡ numbers_from a n ++ (a + n) ∷ []
numbers_more a zero = ap (λ (k : ℕ). k ∷ []) (omega arith)
numbers_more a (suc n) = ap (λ (ks : List ℕ). a ∷ ks) (numbers_more (suc a) n ∙ ap (λ (k : ℕ). numbers_from (suc a) n ++ k ∷ []) (omega arith))

pub below_more : (n : ℕ) → below (suc n) ≡ below n ++ n ∷ []
below_more n = numbers_more 0 n ∙ ap (λ (k : ℕ). numbers_from 0 n ++ k ∷ []) (omega arith)

pub passing_rise : (p : ℕ → Bool) (a n : ℕ) → Rises (filter p (numbers_from a n))
passing_rise p a n = AllPairs-filter (λ (j k : ℕ). j < k) p (numbers_from a n)
    (λ i j d lt within.
    let l = length-numbers a n in
    let at_i = number_at a n i d (omega arith) in
    let at_j = number_at a n j d (omega arith) in
    omega arith)

pub passing_from : (p : ℕ → Bool) (a n : ℕ) → All (λ j. a ≤ j) (filter p (numbers_from a n))
passing_from p a n = All-filter p (λ j. a ≤ j) (numbers_from a n)
    (λ i d lt.
    let l = length-numbers a n in
    let at_i = number_at a n i d (omega arith) in
    omega arith)

pub few_pass : (p : ℕ → Bool) (a n : ℕ) → length (filter p (numbers_from a n)) ≤ n
few_pass p a n =
    let e = length-filter p (numbers_from a n) in
    let most = count_by-le-length p (numbers_from a n) in
    let l = length-numbers a n in
    omega arith

-- ---- Another test.

pub same_pass : (p q : ℕ → Bool) (a n : ℕ) → ((j : ℕ) → a ≤ j → j < a + n → q j ≡ p j) → filter q (numbers_from a n) ≡ filter p (numbers_from a n)
same_pass p q a zero same = refl
same_pass p q a (suc n) same =
    ap₂ (λ (b : Bool) (ks : List ℕ). cond b (a ∷ ks) ks) (same a (omega arith) (omega arith)) (same_pass p q (suc a) n (λ j from lt. same j (omega arith) (omega arith)))

-- a number is below another, the same, or above
data_of : (a k : ℕ) → a ≤ k → (a ≡ k) ⊎ (a < k)
data_of a k le = ⊎_elim (λ lt. inr lt) (λ ge. inl (omega arith)) (cases_lt a k)

tail_gap : (a k i : ℕ) (ks : List ℕ) → IsGap (a ∷ ks) k (suc i) → IsGap ks k i
tail_gap a k i ks gap =
    let fits = gap.fits in
    record {
      fits = omega arith;
      below = λ j d lt. gap.below (suc j) d (omega arith);
      above = λ j d from lt. gap.above (suc j) d (omega arith) (omega arith);
    }

tail_place : (a k i : ℕ) (ks : List ℕ) → IsPlace (a ∷ ks) k (suc i) → IsPlace ks k i
tail_place a k i ks place = let within = place.0 in (omega arith, λ d. place.1 d)

module _ (p q : ℕ → Bool) (k : ℕ) (other : (j : ℕ) → j ≢ k → q j ≡ p j) where
  same_above : (a n : ℕ) → k < a → filter q (numbers_from a n) ≡ filter p (numbers_from a n)
  same_above a n past = same_pass p q a n (λ j from lt. other j (omega arith))

  -- where it passes now, it is put among those that pass
  pub passes_more : p k ≡ false → q k ≡ true → (a n : ℕ) → a ≤ k → k < a + n → (i : ℕ) → IsGap (filter p (numbers_from a n)) k i → filter q (numbers_from a n) ≡ insert (filter p (numbers_from a n)) i k
  passes_more fails passes a zero low high i gap = absurd (omega arith)
  passes_more fails passes a (suc n) low high i gap = by_place (data_of a k low) (λ lt j g. passes_more fails passes (suc a) n (omega (arith, lt)) (omega (arith, high)) j g)
    where
      here : (j : ℕ) → a ≡ k → IsGap (filter p (numbers_from (suc a) n)) k j → a ∷ filter q (numbers_from (suc a) n) ≡ insert (filter p (numbers_from (suc a) n)) j k
      here zero e g = ap₂ (λ (x : ℕ) (ks : List ℕ). x ∷ ks) e (same_above (suc a) n (omega arith))
      here (suc j) e g =
          let fits = g.fits in
          let lower = g.below 0 0 (omega arith) in
          let from = passing_from p (suc a) n 0 0 (omega arith) in
          absurd (omega arith)

      before : (b : Bool) (j : ℕ) → a < k → ((m : ℕ) → IsGap (filter p (numbers_from (suc a) n)) k m → filter q (numbers_from (suc a) n) ≡ insert (filter p (numbers_from (suc a) n)) m k) → IsGap (cond b (a ∷ filter p (numbers_from (suc a) n)) (filter p (numbers_from (suc a) n))) k j
          → cond b (a ∷ filter q (numbers_from (suc a) n)) (filter q (numbers_from (suc a) n)) ≡ insert (cond b (a ∷ filter p (numbers_from (suc a) n)) (filter p (numbers_from (suc a) n))) j k
      before true zero lt next g = let higher = g.above 0 0 (omega arith) (omega arith) in absurd (omega arith)
      before true (suc j) lt next g = ap (λ (ks : List ℕ). a ∷ ks) (next j (tail_gap a k j (filter p (numbers_from (suc a) n)) g))
      before false j lt next g = next j g

      by_place : (a ≡ k) ⊎ (a < k) → (a < k → (j : ℕ) → IsGap (filter p (numbers_from (suc a) n)) k j → filter q (numbers_from (suc a) n) ≡ insert (filter p (numbers_from (suc a) n)) j k)
          → filter q (numbers_from a (suc n)) ≡ insert (filter p (numbers_from a (suc n))) i k
      by_place (inl e) next =
          let was : p a ≡ false = ap p e ∙ fails in
          let is : q a ≡ true = ap q e ∙ passes in
          let gap' : IsGap (filter p (numbers_from (suc a) n)) k i = subst (λ (b : Bool). IsGap (cond b (a ∷ filter p (numbers_from (suc a) n)) (filter p (numbers_from (suc a) n))) k i) was gap in
          ap (λ (b : Bool). cond b (a ∷ filter q (numbers_from (suc a) n)) (filter q (numbers_from (suc a) n))) is
          ∙ here i e gap' ∙ sym (ap (λ (b : Bool). insert (cond b (a ∷ filter p (numbers_from (suc a) n)) (filter p (numbers_from (suc a) n))) i k) was)
      by_place (inr lt) next =
          ap (λ (b : Bool). cond b (a ∷ filter q (numbers_from (suc a) n)) (filter q (numbers_from (suc a) n))) (other a (omega arith)) ∙ before (p a) i lt (next lt) gap

  -- where it passes no longer, it is taken out of those that pass
  pub passes_less : p k ≡ true → q k ≡ false → (a n : ℕ) → a ≤ k → k < a + n → (i : ℕ) → IsPlace (filter p (numbers_from a n)) k i → filter q (numbers_from a n) ≡ remove (filter p (numbers_from a n)) i
  passes_less passes fails a zero low high i place = absurd (omega arith)
  passes_less passes fails a (suc n) low high i place = by_place (data_of a k low) (λ lt j g. passes_less passes fails (suc a) n (omega (arith, lt)) (omega (arith, high)) j g)
    where
      here : (j : ℕ) → a ≡ k → IsPlace (a ∷ filter p (numbers_from (suc a) n)) k j → filter q (numbers_from (suc a) n) ≡ remove (a ∷ filter p (numbers_from (suc a) n)) j
      here zero e g = same_above (suc a) n (omega arith)
      here (suc j) e g =
          let within = g.0 in
          let at : get_or (filter p (numbers_from (suc a) n)) j 0 ≡ k = g.1 0 in
          let from = passing_from p (suc a) n j 0 (omega arith) in
          absurd (omega arith)

      before : (b : Bool) (j : ℕ) → a < k → ((m : ℕ) → IsPlace (filter p (numbers_from (suc a) n)) k m → filter q (numbers_from (suc a) n) ≡ remove (filter p (numbers_from (suc a) n)) m) → IsPlace (cond b (a ∷ filter p (numbers_from (suc a) n)) (filter p (numbers_from (suc a) n))) k j
          → cond b (a ∷ filter q (numbers_from (suc a) n)) (filter q (numbers_from (suc a) n)) ≡ remove (cond b (a ∷ filter p (numbers_from (suc a) n)) (filter p (numbers_from (suc a) n))) j
      before true zero lt next g = let at : a ≡ k = g.1 0 in absurd (omega arith)
      before true (suc j) lt next g = ap (λ (ks : List ℕ). a ∷ ks) (next j (tail_place a k j (filter p (numbers_from (suc a) n)) g))
      before false j lt next g = next j g

      by_place : (a ≡ k) ⊎ (a < k) → (a < k → (j : ℕ) → IsPlace (filter p (numbers_from (suc a) n)) k j → filter q (numbers_from (suc a) n) ≡ remove (filter p (numbers_from (suc a) n)) j)
          → filter q (numbers_from a (suc n)) ≡ remove (filter p (numbers_from a (suc n))) i
      by_place (inl e) next =
          let was : p a ≡ true = ap p e ∙ passes in
          let is : q a ≡ false = ap q e ∙ fails in
          let place' : IsPlace (a ∷ filter p (numbers_from (suc a) n)) k i = subst (λ (b : Bool). IsPlace (cond b (a ∷ filter p (numbers_from (suc a) n)) (filter p (numbers_from (suc a) n))) k i) was place in
          ap (λ (b : Bool). cond b (a ∷ filter q (numbers_from (suc a) n)) (filter q (numbers_from (suc a) n))) is
          ∙ here i e place' ∙ sym (ap (λ (b : Bool). remove (cond b (a ∷ filter p (numbers_from (suc a) n)) (filter p (numbers_from (suc a) n))) i) was)
      by_place (inr lt) next =
          ap (λ (b : Bool). cond b (a ∷ filter q (numbers_from (suc a) n)) (filter q (numbers_from (suc a) n))) (other a (omega arith)) ∙ before (p a) i lt (next lt) place

-- ---- Which numbers pass.

pub one_passes : (p : ℕ → Bool) (k : ℕ) (xs : List ℕ) → Contains (filter p xs) k → p k ≡ true
one_passes p k xs there = subst (λ (j : ℕ). p j ≡ true) there.2 (filter_passes p xs there.0 k there.1)

pub one_is_there : (p : ℕ → Bool) (k a n : ℕ) → a ≤ k → k < a + n → p k ≡ true → Contains (filter p (numbers_from a n)) k
one_is_there p k a zero low high passes = absurd (omega arith)
one_is_there p k a (suc n) low high passes = by_place (data_of a k low) (λ lt. one_is_there p k (suc a) n (omega (arith, lt)) (omega (arith, high)) passes)
  where
    behind : (b : Bool) → Contains (filter p (numbers_from (suc a) n)) k → Contains (cond b (a ∷ filter p (numbers_from (suc a) n)) (filter p (numbers_from (suc a) n))) k
    behind true there = let within = there.1 in (suc there.0, omega arith, there.2)
    behind false there = there

    by_place : (a ≡ k) ⊎ (a < k) → (a < k → Contains (filter p (numbers_from (suc a) n)) k) → Contains (filter p (numbers_from a (suc n))) k
    by_place (inl e) next =
        subst (λ (b : Bool). Contains (cond b (a ∷ filter p (numbers_from (suc a) n)) (filter p (numbers_from (suc a) n))) k) (sym (ap p e ∙ passes)) (0, omega arith, e)
    by_place (inr lt) next = behind (p a) (next lt)

-- ---- The first that passes, and how many do.

abbrev pub first_of_list : List ℕ → Option ℕ
first_of_list [] = None
first_of_list (x ∷ xs) = Some x

pub find_passing : (p : ℕ → Bool) (xs : List ℕ) → find p xs ≡ first_of_list (filter p xs)
find_passing p [] = refl
find_passing p (x ∷ xs) = by_test (p x) (find_passing p xs)
  where
    by_test : (b : Bool) → find p xs ≡ first_of_list (filter p xs) → cond b (Some x) (find p xs) ≡ first_of_list (cond b (x ∷ filter p xs) (filter p xs))
    by_test true h = refl
    by_test false h = h

pub count_map : {A B : Type 0} (g : A → B) (f : B → Bool) (xs : List A) → count_by f (map g xs) ≡ count_by (λ x. f (g x)) xs
count_map g f [] = refl
count_map g f (x ∷ xs) =
    sum_by-cons (λ y. cond (f y) 1 0) (g x) (map g xs) ∙ ap (λ (n : ℕ). cond {A = ℕ} (f (g x)) 1 0 + n) (count_map g f xs) ∙ sym (sum_by-cons (λ y. cond (f (g y)) 1 0) x xs)

-- where one doesn't pass, fewer do
pub fewer_pass : (p : ℕ → Bool) (k a n : ℕ) → a ≤ k → k < a + n → p k ≡ false → length (filter p (numbers_from a n)) < n
fewer_pass p k a zero low high fails = absurd (omega arith)
fewer_pass p k a (suc n) low high fails = by_place (data_of a k low) (λ lt. fewer_pass p k (suc a) n (omega (arith, lt)) (omega (arith, high)) fails)
  where
    behind : (b : Bool) → length (filter p (numbers_from (suc a) n)) < n → length (cond b (a ∷ filter p (numbers_from (suc a) n)) (filter p (numbers_from (suc a) n))) < suc n
    behind true lt = omega arith
    behind false lt = omega arith

    by_place : (a ≡ k) ⊎ (a < k) → (a < k → length (filter p (numbers_from (suc a) n)) < n) → length (filter p (numbers_from a (suc n))) < suc n
    by_place (inl e) next =
        subst (λ (b : Bool). length (cond b (a ∷ filter p (numbers_from (suc a) n)) (filter p (numbers_from (suc a) n))) < suc n) (sym (ap p e ∙ fails)) (let h = few_pass p (suc a) n in omega arith)
    by_place (inr lt) next = behind (p a) (next lt)
