-- How many items and members a value has, and its texts.
use Rattle.std.proofs.Common.{◌≡◌, ℕ, suc, ◌==◌, false, List, [], ◌∷◌, ◌++◌, length, Option, Some, option_map, String, Global, refl, ap}
use Rattle.serde_json.specs.Data.{Data, null, boolean, number, string, array, object}
use Rattle.serde_json.specs.Find.{as_array}
use Rattle.serde_json.specs.Events.{items_len, members_len}
use Rattle.serde_json.specs.View.{items_view, members_view}
use Rattle.serde_json.specs.declared.value.Value.{Value}
use Rattle.txn_wire.specs.Values.{texts_of, bodies_of}

pub items_len-view : (vs : List Value) → items_len (items_view vs) ≡ length vs
items_len-view [] = refl
items_len-view (v ∷ vs) = ap suc (items_len-view vs)

pub members_len-view : (ms : List (String Global × Value)) → members_len (members_view ms) ≡ length ms
members_len-view [] = refl
members_len-view (m ∷ ms) = ap suc (members_len-view ms)

pub ruleset counts = (items_len-view, members_len-view)

-- the texts so far, and those of the items that are left
abbrev pub joined : List (List ℕ) → Option (List (List ℕ)) → Option (List (List ℕ))
joined front rest = option_map (λ more. front ++ more) rest

abbrev pub joined_numbers : List ℕ → Option (List ℕ) → Option (List ℕ)
joined_numbers front rest = option_map (λ more. front ++ more) rest

-- a list that isn't empty has the texts of its items
pub bodies_of-array : (d : Data) (vs : List Value) → as_array d ≡ Some (items_view vs) → (length vs == 0) ≡ false → texts_of (items_view vs) ≡ bodies_of d
bodies_of-array null vs e h = cc
bodies_of-array (boolean b) vs e h = cc
bodies_of-array (number n) vs e h = cc
bodies_of-array (string s) vs e h = cc
bodies_of-array (array ds) [] e h = cc
bodies_of-array (array ds) (v ∷ vs) e h = let same : items_view (v ∷ vs) ≡ ds = cc in ap (λ x. bodies_of (array x)) same
bodies_of-array (object ms) vs e h = cc
