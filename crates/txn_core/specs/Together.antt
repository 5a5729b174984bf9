-- Lists of skeletons, that of part p at p: when each is lawful by itself, and when they are lawful together.
use Rattle.std.specs.Prelude.{ℕ, ◌==◌, Bool, if◌then◌else◌, List, []}
use Rattle.txn_base.specs.declared.core_entry.CoreEntry.{CoreEntry}
use Rattle.txn_model.specs.Words.{all_follow, IsLawfulBy}
use Rattle.txn_model.specs.Coord.{coord_allows}
use Rattle.txn_model.specs.Topic.{part_allows}
use Rattle.txn_model.specs.World.{RegisteredFirst, MarkerDecided, ClosedComplete}

-- Where there are n parts beside the coordinator, which is part 0: in the list of the part p, after these entries, this one
-- is allowed. An entry of the other kind never is.
abbrev pub core_allows : ℕ → ℕ → List CoreEntry → CoreEntry → Bool
core_allows n p before e = if p == 0 then coord_allows n before e else part_allows before e

-- The list of the part p is lawful by itself, as a test.
abbrev pub is_alone : ℕ → ℕ → List CoreEntry → Bool
is_alone n p es = all_follow (core_allows n p) [] es

-- The list of the part p is lawful by itself: each entry is allowed after those before it.
abbrev pub IsAlone : ℕ → ℕ → List CoreEntry → Type 0
IsAlone n p es = IsLawfulBy (core_allows n p) es

-- The lists are lawful together: each is by itself, and the three rules across lists hold.
pub record AreLawful (n : ℕ) (lists : ℕ → List CoreEntry) : Type 0 where
  pub alone : (p : ℕ) → IsAlone n p (lists p)
  pub registered : RegisteredFirst (lists 0) lists
  pub decided : MarkerDecided (lists 0) lists
  pub closed : ClosedComplete (lists 0) lists
