-- The catalog: names, and their numbers as parts.
use Rattle.std.specs.Prelude.{ℕ, suc, ◌-◌, ◌==◌, ◌&&◌, ◌||◌, not, nat_lt, Bool, if◌then◌else◌, List, [], length, Option, option_map, position, slice_index_or, bytes_eq, codes}
use Rattle.std.specs.List.{list_any}
use Rattle.txn_base.specs.Names.{is_name, is_sub, topic_of}
use Rattle.txn_model.specs.Words.{IsLawfulBy}

-- Among these names, the number of the part of this one: they are numbered from 1 in their order.
abbrev pub part_of : List (List ℕ) → List ℕ → Option ℕ
part_of names name = option_map suc (position (bytes_eq name) names)

-- Among these names, that of the part p; that of part 0 is the coordinator's.
abbrev pub name_of : List (List ℕ) → ℕ → List ℕ
name_of names p = if p == 0 then codes "@coordinator" else slice_index_or names (p - 1) []

-- These names have this one.
abbrev pub has_name : List (List ℕ) → List ℕ → Bool
has_name names name = list_any (bytes_eq name) names

-- After these names, this one is allowed: it has the form, isn't there yet, a subscription's topic is, and there are at most 62.
abbrev pub name_allows : List (List ℕ) → List ℕ → Bool
name_allows names name = is_name name && not (has_name names name) && (not (is_sub name) || has_name names (topic_of name)) && nat_lt (length names) 62

-- Each of these names is allowed after those before it.
abbrev pub NamesLawful : List (List ℕ) → Type 0
NamesLawful names = IsLawfulBy name_allows names
