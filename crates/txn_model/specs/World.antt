-- Worlds: all durable lists together.
use Rattle.std.specs.Prelude.{◌≡◌, ℕ, Bool, true, false, if◌then◌else◌, List, [], ◌∷◌, ◌++◌, length, Some}
use Rattle.std.specs.List.{list_any}
use mathlib.Core.List.{IsPrefix}
use Rattle.txn_base.specs.declared.txn.TxnId.{TxnId}
use Rattle.txn_base.specs.declared.txn.Decision.{Decision}
use Rattle.txn_base.specs.declared.core_entry.CoreEntry.{CoreEntry}
use Rattle.txn_base.specs.declared.core_entry.CoreEntry.TheVariants as core
use Rattle.txn_base.specs.declared.entry.CoordEntry.{CoordEntry}
use Rattle.txn_base.specs.declared.entry.TopicEntry.{TopicEntry}
use Rattle.txn_base.specs.declared.entry.AckEntry.{AckEntry}
use Rattle.txn_model.specs.declared.world.World.{World}
use Rattle.txn_model.specs.Words.{list_at}
use Rattle.txn_model.specs.Skeletons.{same_txn, coord_skeletons, topic_skeletons, ack_skeletons}
use Rattle.txn_base.specs.Names.{is_sub}
use Rattle.txn_model.specs.Names.{NamesLawful, name_of}
use Rattle.txn_model.specs.Coord.{CoordLawful, decision_of, closing_of, in_parts}
use Rattle.txn_model.specs.Topic.{TopicLawful, marker_of}
use Rattle.txn_model.specs.Ack.{AckLawful}

-- The coordinator's log of a world, as skeletons.
abbrev pub log_of : World → List CoreEntry
log_of w = coord_skeletons w.coord

-- In a world, the list of the part p, a topic or a subscription by its name, as skeletons.
abbrev pub part_skeletons : World → ℕ → List CoreEntry
part_skeletons w p = if is_sub (name_of w.names p) then ack_skeletons (list_at w.subs p) else topic_skeletons (list_at w.topics p)

-- Of x, the entry is a message or a hold.
abbrev pub is_inside : TxnId → CoreEntry → Bool
is_inside x (core.Inside y) = same_txn x y
is_inside x _ = false

-- Among these entries, there is a message or a hold of x.
abbrev pub has_inside : List CoreEntry → TxnId → Bool
has_inside es x = list_any (is_inside x) es

-- Over the log c and the lists of the parts:
-- Registered first: a message or hold of x in the list of p needs p among the parts of x.
abbrev pub RegisteredFirst : List CoreEntry → (ℕ → List CoreEntry) → Type 0
RegisteredFirst c parts = (p : ℕ) (x : TxnId) → has_inside (parts p) x ≡ true → in_parts c x p ≡ true

-- A marker follows its decision: a marker d of x in the list of p needs the logged decision d of x.
abbrev pub MarkerDecided : List CoreEntry → (ℕ → List CoreEntry) → Type 0
MarkerDecided c parts = (p : ℕ) (x : TxnId) (d : Decision) → marker_of (parts p) x ≡ Some d → decision_of c x ≡ Some d

-- Markers stand before the closings: where one of these closes x by d, each part of x has the marker d of x.
abbrev pub MarkersStand : List CoreEntry → List CoreEntry → (ℕ → List CoreEntry) → Type 0
MarkersStand closings c parts = (x : TxnId) (d : Decision) (p : ℕ) → closing_of closings x ≡ Some d → in_parts c x p ≡ true → marker_of (parts p) x ≡ Some d

-- Closed after all markers: where x is closed by d, each of its parts has the marker d of x.
abbrev pub ClosedComplete : List CoreEntry → (ℕ → List CoreEntry) → Type 0
ClosedComplete c parts = MarkersStand c c parts

-- Each list of a world is lawful by itself, whatever stands in the others.
pub record EachLawful (w : World) : Type 0 where
  pub coord : CoordLawful (length w.names) (log_of w)
  pub topics : (p : ℕ) → TopicLawful (list_at w.topics p)
  pub subs : (p : ℕ) → AckLawful (list_at w.subs p)

-- A world is lawful where each of its lists is, and the three rules across lists hold.
pub record Lawful (w : World) : Type 0 where
  pub names : NamesLawful w.names
  pub coord : CoordLawful (length w.names) (log_of w)
  pub topics : (p : ℕ) → TopicLawful (list_at w.topics p)
  pub subs : (p : ℕ) → AckLawful (list_at w.subs p)
  pub registered : RegisteredFirst (log_of w) (part_skeletons w)
  pub decided : MarkerDecided (log_of w) (part_skeletons w)
  pub closed : ClosedComplete (log_of w) (part_skeletons w)

-- Each list of the world w is a front of the same list of w'.
pub record Extends (w w' : World) : Type 0 where
  pub names : IsPrefix w.names w'.names
  pub coord : IsPrefix w.coord w'.coord
  pub topics : (p : ℕ) → IsPrefix (list_at w.topics p) (list_at w'.topics p)
  pub subs : (p : ℕ) → IsPrefix (list_at w.subs p) (list_at w'.subs p)

-- The batch that each part is writing, or nothing, by its number.
pub record Flights : Type 0 where
  pub coord : List CoordEntry
  pub topics : ℕ → List TopicEntry
  pub subs : ℕ → List AckEntry

abbrev pub no_flights : Flights
no_flights = record { coord = []; topics = λ p. []; subs = λ p. [] }

-- Where `stays` names a part, its flight follows its list; the other lists stay as they are.
abbrev pub followed : {E : Type 0} → (ℕ → Bool) → (ℕ → List E) → List (ℕ × List E) → List (ℕ × List E)
followed stays flights [] = []
followed stays flights (l ∷ ls) = (l.0, if stays l.0 then l.1 ++ flights l.0 else l.1) ∷ followed stays flights ls

-- What a stop keeps of the world w and the flights f: those of the parts that `stays` names, each whole.
abbrev pub with_kept : World → Flights → (ℕ → Bool) → World
with_kept w f stays =
    record {
      names = w.names;
      coord = if stays 0 then w.coord ++ f.coord else w.coord;
      topics = followed stays f.topics w.topics;
      subs = followed stays f.subs w.subs;
    }
