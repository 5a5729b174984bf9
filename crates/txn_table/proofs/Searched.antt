-- Where a number stands among numbers in order.
use Rattle.std.proofs.Common.{◌≡◌, ◌<◌, ◌+◌, ℕ, Bool, true, false, List, length, refl, sym, arith, slice_index_or, nat_le, Ok, Err, Ordering}
use Rattle.std.specs.Prelude.{Contains, Result, Option, Some, None, IfOk, IfErr, OnOk, OnErr, OnSome, IsSome}
use Rattle.std.specs.Ordering.{MatchOrdering, nat_cmp, is_lt}
use Rattle.std.specs.declared.cmp.Ordering.TheVariants.{Less, Equal, Greater}
use Rattle.std.specs.List.Sorted.{IsBinarySearchResult, IsSearchInRange, IsSortedBy}
use Rattle.std.proofs.lemmas.Cmp.{nat_cmp_total, ranked}
use Rattle.std.proofs.lemmas.List.Sorted.{searchable_from_sorted}
use Rattle.txn_table.specs.Table.{IsGap, IsPlace, Rises}

never_less : (a b : ℕ) → a < b → is_lt (nat_cmp b a) ≡ false
never_less a b h = go (nat_cmp b a) (ranked b a (nat_cmp b a) refl)
  where
    go : (o : Ordering) → MatchOrdering o (b < a) (b ≡ a) (a < b) → is_lt o ≡ false
    go Less k = absurd (omega arith)
    go Equal k = refl
    go Greater k = refl

sorted : (numbers : List ℕ) → Rises numbers → IsSortedBy (λ a b. is_lt (nat_cmp a b)) numbers
sorted numbers order k d low high = never_less _ _ (order k (k + 1) d (omega arith) high)

-- what a binary search finds
pub found : (numbers : List ℕ) (x : ℕ) (r : Result ℕ ℕ) → IsSearchInRange r (length numbers) → Rises numbers → IsBinarySearchResult (λ y. nat_cmp y x) numbers r
    → IfOk r (IsPlace numbers x) × IfErr r (IsGap numbers x)
found numbers x (Ok i) range order at = ((range, λ d. ranked _ x Equal (sym (at d))), tt)
found numbers x (Err i) range order point =
    let parts = point (searchable_from_sorted nat_cmp_total (λ y. y) numbers x (sorted numbers order)) in
    (tt, record { fits = range; below = λ k d below. ranked _ x Less (sym (parts.0 k d (omega arith) below)); above = λ k d from below. ranked _ x Greater (sym (parts.1 k d from below)) })

-- one that is there has no gap
pub never_absent : (numbers : List ℕ) (x i : ℕ) → IsGap numbers x i → Contains numbers x → ⊥
never_absent numbers x i gap there = go (nat_le i there.0) refl
  where
    go : (b : Bool) → nat_le i there.0 ≡ b → ⊥
    go true e = let at : x < slice_index_or numbers there.0 x = gap.above there.0 x (search (arith, e)) there.1 in let same = there.2 in omega arith
    go false e = let at : slice_index_or numbers there.0 x < x = gap.below there.0 x (search (arith, e)) in let same = there.2 in omega arith

-- one that stands somewhere is there
pub never_there : (numbers : List ℕ) (x i : ℕ) → IsPlace numbers x i → (Contains numbers x → ⊥) → ⊥
never_there numbers x i place fresh = fresh (i, place.0, place.1 x)

pub when_ok : {T E P Q : Type 0} (r : Result T E) → OnOk r P → OnErr r Q → (Q → ⊥) → P
when_ok (Ok x) p q never = p
when_ok (Err e) p q never = absurd (never q)

pub when_some : {T P : Type 0} (r : Option T) → OnSome r P → IsSome r → P
when_some (Some x) p some = p
when_some None p some = cc
