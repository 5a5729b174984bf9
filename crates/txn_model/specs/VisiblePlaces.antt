-- The visible places of a topic's list, of which only the skeletons are known.
use Rattle.std.specs.Prelude.{ℕ, suc, List, [], ◌∷◌, Option, Some, None}
use Rattle.txn_base.specs.declared.txn.Decision.{Decision}
use Rattle.txn_base.specs.declared.txn.Decision.TheVariants.{Commit, Abort}
use Rattle.txn_base.specs.declared.core_entry.CoreEntry.{CoreEntry}
use Rattle.txn_base.specs.declared.core_entry.CoreEntry.TheVariants as core
use Rattle.txn_model.specs.Topic.{marker_of}

-- A place by the marker of its transaction: shown, passed over, or where there is none the end.
abbrev pub shown_place : Option Decision → ℕ → List ℕ → List ℕ
shown_place (Some Commit) k rest = k ∷ rest
shown_place (Some Abort) k rest = rest
shown_place None k rest = []

-- Where all are the whole list, from place k on, the visible places of these entries.
abbrev pub visible_places_from : List CoreEntry → ℕ → List CoreEntry → List ℕ
visible_places_from all k [] = []
visible_places_from all k (core.Plain ∷ es) = k ∷ visible_places_from all (suc k) es
visible_places_from all k (core.Inside x ∷ es) = shown_place (marker_of all x) k (visible_places_from all (suc k) es)
visible_places_from all k (_ ∷ es) = visible_places_from all (suc k) es

-- The visible places of a list of skeletons.
abbrev pub visible_places : List CoreEntry → List ℕ
visible_places es = visible_places_from es 0 es
