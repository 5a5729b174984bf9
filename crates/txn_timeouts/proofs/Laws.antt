-- The door: what other crates take of this crate's proofs. What is said of deadlines doesn't depend on their order in a list.
use Rattle.std.proofs.Common.{◌≡◌, ◌<◌, ℕ, List, count_by}
use Rattle.std.specs.Prelude.{IsPermutation, Option, Some, None}
use Rattle.std.proofs.lemmas.List.Sorted.{All-permutation, Contains-permutation, sum_by-IsPermutation}
use Rattle.txn_timeouts.specs.Due.{IsFirstDue, comes_before, is_due}

-- The first one that is due.
pub first_due_in_any_order : (now : ℕ) (xs ys : List (ℕ × ℕ)) (result : Option ℕ) → IsPermutation xs ys → IsFirstDue now xs result → IsFirstDue now ys result
first_due_in_any_order now xs ys None moved all = All-permutation (λ (x : ℕ × ℕ). now < x.0) xs ys moved all
first_due_in_any_order now xs ys (Some number) moved first =
    record {
      deadline = first.deadline;
      there = Contains-permutation xs ys (first.deadline, number) moved first.there;
      due = first.due;
      least = All-permutation (λ (x : ℕ × ℕ). comes_before x (first.deadline, number) → ⊥) xs ys moved first.least;
    }

-- How many are due.
pub due_count_in_any_order : (now : ℕ) (xs ys : List (ℕ × ℕ)) → IsPermutation xs ys → count_by (is_due now) ys ≡ count_by (is_due now) xs
due_count_in_any_order now xs ys moved = sum_by-IsPermutation _ xs ys moved
