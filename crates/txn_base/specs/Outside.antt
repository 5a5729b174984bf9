-- What calls of the outside do, and how their faults are counted.
use Rattle.std.specs.Prelude.{◌≡◌, [], ◌∷◌, Some, None, ℕ, ◌+◌, ◌-◌, ◌^◌, min, ◌≤◌, List, length, take, Option, Result, MatchResult, OnErr}
use Rattle.std.specs.Io.KnownBytes.{Appends}

-- a count rose by one at least, or stands at its end
abbrev pub Rose : ℕ → ℕ → Type 0
Rose before now = min (before + 1) (2 ^ 64 - 1) ≤ now

-- A count after so many more. It stands still at its type's end.
abbrev pub counted : ℕ → ℕ → ℕ
counted more count = min (count + more) (2 ^ 64 - 1)

-- a count never falls, and a call fails only where it rose
pub record HasCause {T E : Type 0} (before now : ℕ) (result : Result T E) : Type 0 where
  pub later : before ≤ now
  pub failed : OnErr result (Rose before now)

-- all the bytes were put, or a front of them
abbrev pub PutsAll : {T E : Type 0} → Option (List ℕ) → Option (List ℕ) → Result T E → List ℕ → Type 0
PutsAll old new r bytes = MatchResult r (λ _. Appends old new bytes) (λ _. (n : ℕ) × (n ≤ length bytes) × Appends old new (take n bytes))

-- The moments of a clock are a list whose last one repeats, or 0 where it is empty.
abbrev pub first_moment : List ℕ → ℕ
first_moment [] = 0
first_moment (m ∷ ms) = m

abbrev pub later_moments : List ℕ → List ℕ
later_moments [] = []
later_moments (m ∷ []) = m ∷ []
later_moments (m ∷ n ∷ ms) = n ∷ ms

-- a clock told this moment
abbrev pub TellsMoment : Option (List ℕ) → ℕ → Option (List ℕ) → Type 0
TellsMoment None m new = new ≡ None
TellsMoment (Some ms) m new = (m ≡ first_moment ms) × (new ≡ Some (later_moments ms))
