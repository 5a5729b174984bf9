-- Deadlines in a list in their order.
use Rattle.std.proofs.Common.{◌≡◌, ◌<◌, ◌≤◌, ◌+◌, ◌-◌, ◌⊎◌, ℕ, Bool, true, false, List, length, inl, inr, refl, sym, ap₂, subst, arith, Option, None, slice_index_or, insert, remove, nat_le, insert, Contains, Result, Ok, Err}
use Rattle.std.specs.Prelude.{IfOk, IfErr, OnOk, OnErr, OnSome, IsSome, Some}
use Rattle.std.proofs.Common.{Ordering}
use Rattle.std.specs.Ordering.{MatchOrdering, nat_cmp, ordering_then, is_lt}
use Rattle.std.specs.declared.cmp.Ordering.TheVariants.{Less, Equal, Greater}
use Rattle.std.specs.List.Sorted.{IsBinarySearchResult, IsSearchInRange, IsSortedBy}
use Rattle.std.proofs.lemmas.Cmp.{nat_cmp_total, on_total, ranked, then_total}
use Rattle.std.proofs.lemmas.List.Sorted.{searchable_from_sorted}
use Rattle.std.proofs.lemmas.List.Edits.{get_or-insert_above, get_or-insert_at, get_or-insert_below, get_or-remove_above, get_or-remove_below, length-insert, length-remove}
use Rattle.txn_timeouts.specs.Due.{IsAt, IsGapFor, IsInOrder, comes_before}

abbrev pub pair_cmp : ℕ × ℕ → ℕ × ℕ → Ordering
pair_cmp a b = ordering_then (nat_cmp a.0 b.0) (nat_cmp a.1 b.1)

pub pair_ranked : (a b : ℕ × ℕ) → MatchOrdering (pair_cmp a b) (comes_before a b) (a ≡ b) (comes_before b a)
pair_ranked a b = go (nat_cmp a.0 b.0) refl (nat_cmp a.1 b.1) refl
  where
    go : (o : Ordering) → o ≡ nat_cmp a.0 b.0 → (p : Ordering) → p ≡ nat_cmp a.1 b.1 → MatchOrdering (ordering_then o p) (comes_before a b) (a ≡ b) (comes_before b a)
    go Less e p f = inl (ranked a.0 b.0 Less e)
    go Greater e p f = inl (ranked a.0 b.0 Greater e)
    go Equal e Less f = inr (ranked a.0 b.0 Equal e, ranked a.1 b.1 Less f)
    go Equal e Greater f = inr (sym (ranked a.0 b.0 Equal e), ranked a.1 b.1 Greater f)
    go Equal e Equal f = ap₂ (λ (x y : ℕ). (x, y)) (ranked a.0 b.0 Equal e) (ranked a.1 b.1 Equal f)

pub never_both : (a b : ℕ × ℕ) → comes_before a b → comes_before b a → ⊥
never_both a b (inl h) (inl k) = omega arith
never_both a b (inl h) (inr k) = let e = k.0 in omega arith
never_both a b (inr h) (inl k) = let e = h.0 in omega arith
never_both a b (inr h) (inr k) = let f = h.1 in let g = k.1 in omega arith

never_less : (a b : ℕ × ℕ) → comes_before a b → is_lt (pair_cmp b a) ≡ false
never_less a b h = go (pair_cmp b a) (pair_ranked b a)
  where
    go : (o : Ordering) → MatchOrdering o (comes_before b a) (b ≡ a) (comes_before a b) → is_lt o ≡ false
    go Less k = absurd (never_both a b h k)
    go Equal k = refl
    go Greater k = refl

sorted : (items : List (ℕ × ℕ)) → IsInOrder items → IsSortedBy (λ a b. is_lt (pair_cmp a b)) items
sorted items order k d low high = never_less _ _ (order k (k + 1) d (omega arith) high)

same_when_equal : (a b : ℕ × ℕ) → pair_cmp a b ≡ Equal → a ≡ b
same_when_equal a b e = subst (λ (o : Ordering). MatchOrdering o (comes_before a b) (a ≡ b) (comes_before b a)) e (pair_ranked a b)

before_when_less : (a b : ℕ × ℕ) → pair_cmp a b ≡ Less → comes_before a b
before_when_less a b e = subst (λ (o : Ordering). MatchOrdering o (comes_before a b) (a ≡ b) (comes_before b a)) e (pair_ranked a b)

after_when_greater : (a b : ℕ × ℕ) → pair_cmp a b ≡ Greater → comes_before b a
after_when_greater a b e = subst (λ (o : Ordering). MatchOrdering o (comes_before a b) (a ≡ b) (comes_before b a)) e (pair_ranked a b)

-- what a binary search finds
pub found : (items : List (ℕ × ℕ)) (x : ℕ × ℕ) (r : Result ℕ ℕ) → IsSearchInRange r (length items) → IsInOrder items → IsBinarySearchResult (λ y. pair_cmp y x) items r
    → IfOk r (IsAt items x) × IfErr r (IsGapFor items x)
found items x (Ok i) range order at = ((range, λ d. same_when_equal _ x (at d)), tt)
found items x (Err i) range order point =
    let parts = point (searchable_from_sorted (then_total (on_total (λ (p : ℕ × ℕ). p.0) nat_cmp_total) (on_total (λ (p : ℕ × ℕ). p.1) nat_cmp_total)) (λ y. y) items x (sorted items order)) in
    (tt, record { fits = range; below = λ k d below. before_when_less _ x (parts.0 k d (omega arith) below); above = λ k d from below. after_when_greater _ x (parts.1 k d from below) })

-- one that isn't there has a gap
pub gap_of : (items : List (ℕ × ℕ)) (x : ℕ × ℕ) (r : Result ℕ ℕ) (i : ℕ) → (r ≡ Ok i) ⊎ (r ≡ Err i) → IfOk r (IsAt items x) → IfErr r (IsGapFor items x) → (Contains items x → ⊥) → IsGapFor items x i
gap_of items x r i (inl e) found absent fresh =
    let at : IsAt items x i = rw e at found in
    absurd (fresh (i, at.0, at.1 x))
gap_of items x r i (inr e) found absent fresh = rw e at absent

itself : (y : ℕ × ℕ) → comes_before y y → ⊥
itself y h = never_both y y h h

-- one that is there is found
pub never_absent : (items : List (ℕ × ℕ)) (x : ℕ × ℕ) (i : ℕ) → IsGapFor items x i → Contains items x → ⊥
never_absent items x i gap there = go (nat_le i there.0) refl
  where
    go : (b : Bool) → nat_le i there.0 ≡ b → ⊥
    go true e = itself x (subst (λ (y : ℕ × ℕ). comes_before x y) there.2 (gap.above there.0 x (search (arith, e)) there.1))
    go false e = itself x (subst (λ (y : ℕ × ℕ). comes_before y x) there.2 (gap.below there.0 x (search (arith, e))))

-- a place is before i, at it or behind it
three : (k i : ℕ) → (k < i) ⊎ ((k ≡ i) ⊎ ((j : ℕ) × (k ≡ j + 1) × (i ≤ j)))
three k i = go (nat_cmp k i) (ranked k i (nat_cmp k i) refl)
  where
    go : (o : Ordering) → MatchOrdering o (k < i) (k ≡ i) (i < k) → (k < i) ⊎ ((k ≡ i) ⊎ ((j : ℕ) × (k ≡ j + 1) × (i ≤ j)))
    go Less h = inl h
    go Equal h = inr (inl h)
    go Greater h = inr (inr (k - 1, omega arith, omega arith))

later : {k i : ℕ} → (k ≡ i) ⊎ ((j : ℕ) × (k ≡ j + 1) × (i ≤ j)) → i ≤ k
later (inl e) = omega arith
later (inr p) = let e = p.1 in let f = p.2 in omega arith

-- one that is put between those before it and those after it stands in order
pub put_in_order : (items : List (ℕ × ℕ)) (x : ℕ × ℕ) (i : ℕ) → IsGapFor items x i → IsInOrder items → IsInOrder (insert items i x)
put_in_order items x i gap order a b d lt within = put_at gap.fits gap.below gap.above (three a i) (three b i)
  where
    put_at : i ≤ length items → ((k : ℕ) (d : ℕ × ℕ) → k < i → comes_before (slice_index_or items k d) x) → ((k : ℕ) (d : ℕ × ℕ) → i ≤ k → k < length items → comes_before x (slice_index_or items k d))
        → (a < i) ⊎ ((a ≡ i) ⊎ ((j : ℕ) × (a ≡ j + 1) × (i ≤ j))) → (b < i) ⊎ ((b ≡ i) ⊎ ((j : ℕ) × (b ≡ j + 1) × (i ≤ j)))
        → comes_before (slice_index_or (insert items i x) a d) (slice_index_or (insert items i x) b d)
    put_at fits below above (inl al) (inl bl) = rw (get_or-insert_below items i x d a al fits, get_or-insert_below items i x d b bl fits) (order a b d lt (omega arith))
    put_at fits below above (inl al) (inr (inl be)) = rw (get_or-insert_below items i x d a al fits, be, get_or-insert_at items i x d fits) (below a d al)
    put_at fits below above (inl al) (inr (inr q)) =
        let n = length-insert items i x fits in
        let e = q.1 in
        let f = q.2 in
        rw (get_or-insert_below items i x d a al fits, q.1, get_or-insert_above items i x d q.0 q.2 fits) (order a q.0 d (omega arith) (omega arith))
    put_at fits below above (inr (inl ae)) (inl bl) = absurd (omega arith)
    put_at fits below above (inr (inl ae)) (inr (inl be)) = absurd (omega arith)
    put_at fits below above (inr (inl ae)) (inr (inr q)) =
        let n = length-insert items i x fits in
        let e = q.1 in
        rw (ae, get_or-insert_at items i x d fits, q.1, get_or-insert_above items i x d q.0 q.2 fits) (above q.0 d q.2 (omega arith))
    put_at fits below above (inr (inr p)) (inl bl) = let e = p.1 in let f = p.2 in absurd (omega arith)
    put_at fits below above (inr (inr p)) (inr (inl be)) = let e = p.1 in let f = p.2 in absurd (omega arith)
    put_at fits below above (inr (inr p)) (inr (inr q)) =
        let n = length-insert items i x fits in
        let e = p.1 in
        let f = q.1 in
        rw (p.1, q.1, get_or-insert_above items i x d p.0 p.2 fits, get_or-insert_above items i x d q.0 q.2 fits) (order p.0 q.0 d (omega arith) (omega arith))

pub taken_in_order : (items : List (ℕ × ℕ)) (i : ℕ) → i < length items → IsInOrder items → IsInOrder (remove items i)
taken_in_order items i fits order a b d lt within = go (three a i) (three b i)
  where
    at : (k : ℕ) → i ≤ k → slice_index_or (remove items i) k d ≡ slice_index_or items (k + 1) d
    at k le = get_or-remove_above items i d k le fits

    go : (a < i) ⊎ ((a ≡ i) ⊎ ((j : ℕ) × (a ≡ j + 1) × (i ≤ j))) → (b < i) ⊎ ((b ≡ i) ⊎ ((j : ℕ) × (b ≡ j + 1) × (i ≤ j)))
        → comes_before (slice_index_or (remove items i) a d) (slice_index_or (remove items i) b d)
    go (inl al) (inl bl) = rw (get_or-remove_below items i d a al fits, get_or-remove_below items i d b bl fits) (order a b d lt (omega arith))
    go (inl al) (inr q) =
        let n = length-remove items i fits in
        let behind : i ≤ b = later q in
        rw (get_or-remove_below items i d a al fits, at b behind) (order a (b + 1) d (omega arith) (omega arith))
    go (inr p) q =
        let n = length-remove items i fits in
        let behind : i ≤ a = later p in
        rw (at a behind, at b (omega arith)) (order (a + 1) (b + 1) d (omega arith) (omega arith))

pub when_ok : {T E P Q : Type 0} (r : Result T E) → OnOk r P → OnErr r Q → (Q → ⊥) → P
when_ok (Ok x) p q never = p
when_ok (Err e) p q never = absurd (never q)

pub when_some : {T P : Type 0} (r : Option T) → OnSome r P → IsSome r → P
when_some (Some x) p some = p
when_some None p some = cc
