-- Which of the calls to come fail, as numbers of calls to wait for them.
use Rattle.std.specs.Prelude.{ℕ, ◌-◌, ◌==◌, Bool, List, map}
use Rattle.std.specs.List.{list_any}

-- The next call is one of those that fail.
abbrev pub is_listed : List ℕ → Bool
is_listed waits = list_any (λ n. n == 1) waits

-- After one call each number is less by one.
abbrev pub counted_down : List ℕ → List ℕ
counted_down waits = map (λ n. n - 1) waits
