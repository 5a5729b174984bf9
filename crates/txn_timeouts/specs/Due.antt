-- Deadlines, and which of them are due.
use Rattle.std.specs.Prelude.{◌≡◌, ◌<◌, ◌≤◌, ◌⊎◌, ℕ, Bool, nat_le, List, All, AllPairs, Contains, HoldsAt, IsPermutation, ◌∷◌, Option, Some, None, length, slice_index_or}

-- What deadlines are seen as: each with the number of its transaction, the earliest first; and for how many more there is room.
pub record DeadlinesView : Type 0 where
  pub items : List (ℕ × ℕ)
  pub room : ℕ

-- a has the earlier deadline, or the lower number at the same one.
abbrev pub comes_before : ℕ × ℕ → ℕ × ℕ → Type 0
comes_before a b = (a.0 < b.0) ⊎ ((a.0 ≡ b.0) × (a.1 < b.1))

-- Each comes before those behind it, so none stands there twice.
abbrev pub IsInOrder : List (ℕ × ℕ) → Type 0
IsInOrder items = AllPairs comes_before items

-- At the moment `now` this one is due: its deadline is at most the moment.
abbrev pub is_due : ℕ → ℕ × ℕ → Bool
is_due now item = nat_le item.0 now

-- Among these, the one of this number is due at the moment `now`, and none comes before it.
pub record IsFirst (now : ℕ) (items : List (ℕ × ℕ)) (number : ℕ) : Type 0 where
  pub deadline : ℕ
  pub there : Contains items (deadline, number)
  pub due : deadline ≤ now
  pub least : All (λ item. comes_before item (deadline, number) → ⊥) items

-- Among these, at the moment `now`, this is the number of the one with the least deadline that is due, and of these the least
-- number. Or none is due.
abbrev pub IsFirstDue : ℕ → List (ℕ × ℕ) → Option ℕ → Type 0
IsFirstDue now items (Some number) = IsFirst now items number
IsFirstDue now items None = All (λ item. now < item.0) items

-- These are the others with x among them.
abbrev pub IsWith : ℕ × ℕ → List (ℕ × ℕ) → List (ℕ × ℕ) → Type 0
IsWith x others items = IsPermutation (x ∷ others) items

-- x stands at place i.
abbrev pub IsAt : List (ℕ × ℕ) → ℕ × ℕ → ℕ → Type 0
IsAt items x i = (i < length items) × HoldsAt (λ y. y ≡ x) items i

-- x would go to place i.
pub record IsGapFor (items : List (ℕ × ℕ)) (x : ℕ × ℕ) (i : ℕ) : Type 0 where
  pub fits : i ≤ length items
  pub below : (k : ℕ) (d : ℕ × ℕ) → k < i → comes_before (slice_index_or items k d) x
  pub above : (k : ℕ) (d : ℕ × ℕ) → i ≤ k → k < length items → comes_before x (slice_index_or items k d)
