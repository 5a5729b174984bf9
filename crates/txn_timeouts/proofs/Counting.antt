-- What is due among deadlines in order.
use Rattle.std.proofs.Common.{◌≡◌, ◌<◌, ◌≤◌, ◌+◌, ℕ, Bool, true, false, List, [], ◌∷◌, length, zero, suc, inl, inr, refl, sym, subst, ap, arith, count_by, slice_index_or, nat_lt, cond}
use Rattle.std.specs.List.Sorted.{IsNonDecreasingBy}
use Rattle.std.proofs.lemmas.List.Sums.{sum_by-cons}
use Rattle.txn_timeouts.specs.Due.{IsInOrder, IsFirst, comes_before}
use Rattle.txn_timeouts.proofs.Order.{never_both}

-- what comes before has no later deadline
pub never_later : (x y : ℕ × ℕ) → comes_before x y → x.0 ≤ y.0
never_later x y (inl h) = omega arith
never_later x y (inr h) = let e = h.0 in omega arith

pub never_fall : (items : List (ℕ × ℕ)) → IsInOrder items → IsNonDecreasingBy (λ x. x.0) items
never_fall items order i j d le within = go (nat_lt i j) refl
  where
    go : (b : Bool) → nat_lt i j ≡ b → (slice_index_or items i d).0 ≤ (slice_index_or items j d).0
    go true e = never_later _ _ (order i j d (search (arith, e)) within)
    go false e = let same : i ≡ j = search (arith, e) in rw same (omega arith)

-- where those before i pass and those from i on don't, i pass
pub count_at : {X : Type 0} (p : X → Bool) (items : List X) (i : ℕ) → i ≤ length items
    → ((k : ℕ) (d : X) → k < i → p (slice_index_or items k d) ≡ true)
    → ((k : ℕ) (d : X) → i ≤ k → k < length items → p (slice_index_or items k d) ≡ false) → count_by p items ≡ i
count_at p [] i fits passes fails = omega arith
count_at p (x ∷ rest) zero fits passes fails =
    let more : count_by p (x ∷ rest) ≡ cond {A = ℕ} (p x) 1 0 + count_by p rest = sum_by-cons _ x rest in
    let one : cond {A = ℕ} (p x) 1 0 ≡ 0 = ap (λ (b : Bool). cond {A = ℕ} b 1 0) (fails zero x (omega arith) (omega arith)) in
    let others : count_by p rest ≡ 0 = count_at p rest zero (omega arith) (λ k d lt. absurd (omega arith)) (λ k d from lt. fails (suc k) d (omega arith) (omega arith)) in
    omega arith
count_at p (x ∷ rest) (suc i) fits passes fails =
    let more : count_by p (x ∷ rest) ≡ cond {A = ℕ} (p x) 1 0 + count_by p rest = sum_by-cons _ x rest in
    let one : cond {A = ℕ} (p x) 1 0 ≡ 1 = ap (λ (b : Bool). cond {A = ℕ} b 1 0) (passes zero x (omega arith)) in
    let others : count_by p rest ≡ i = count_at p rest i (omega arith) (λ k d lt. passes (suc k) d (omega arith)) (λ k d from lt. fails (suc k) d (omega arith) (omega arith)) in
    omega arith

-- all have a later deadline where the first one has
pub all_behind : (items : List (ℕ × ℕ)) → IsInOrder items → (now : ℕ) (first : ℕ × ℕ) → first ≡ slice_index_or items 0 first → now < first.0
    → (k : ℕ) (d : ℕ × ℕ) → k < length items → now < (slice_index_or items k d).0
all_behind [] order now first is late k d lt = absurd (omega arith)
all_behind (x ∷ rest) order now first is late k d lt =
    let rises : x.0 ≤ (slice_index_or (x ∷ rest) k d).0 = never_fall (x ∷ rest) order 0 k d (omega arith) lt in
    let same : first.0 ≡ x.0 = ap (λ (y : ℕ × ℕ). y.0) is in
    omega arith

-- where the first one is due, it is the first that is
pub first_is : (items : List (ℕ × ℕ)) → IsInOrder items → (now : ℕ) (first : ℕ × ℕ) → first ≡ slice_index_or items 0 first → 0 < length items → first.0 ≤ now → IsFirst now items first.1
first_is [] order now first is some due = absurd (omega arith)
first_is (x ∷ rest) order now first is some due = record { deadline = first.0; there = (0, omega arith, sym is); due = due; least = least }
  where
    least : (k : ℕ) (d : ℕ × ℕ) → k < length (x ∷ rest) → comes_before (slice_index_or (x ∷ rest) k d) first → ⊥
    least zero d lt before = never_both x x (subst (λ (y : ℕ × ℕ). comes_before x y) is before) (subst (λ (y : ℕ × ℕ). comes_before x y) is before)
    least (suc k) d lt before = never_both _ _ before (subst (λ (y : ℕ × ℕ). comes_before y (slice_index_or rest k d)) (sym is) (order 0 (suc k) d (omega arith) lt))
