-- The core: what each part has settled and has in flight, what was told, and the steps.
use Rattle.std.specs.Prelude.{ℕ, ◌+◌, ◌==◌, nat_le, nat_lt, ◌&&◌, ◌||◌, not, Bool, true, false, if◌then◌else◌, List, [], ◌∷◌, ◌++◌, length, take, drop, filter, replicate, slice_index_or, slice_set, Option, Some, None}
use Rattle.std.specs.List.{list_all}
use Rattle.txn_base.specs.declared.txn.TxnId.{TxnId}
use Rattle.txn_base.specs.declared.txn.Decision.{Decision}
use Rattle.txn_base.specs.declared.txn.Decision.TheVariants.{Commit, Abort}
use Rattle.txn_base.specs.declared.core_entry.CoreEntry.{CoreEntry}
use Rattle.txn_base.specs.declared.core_entry.CoreEntry.TheVariants as core
use Rattle.txn_model.specs.Coord.{decision_of, in_parts, parts_of}
use Rattle.txn_model.specs.Topic.{marker_of}
use Rattle.txn_model.specs.VisiblePlaces.{visible_places}
use Rattle.txn_core.specs.declared.step.CoreRow.{CoreRow}
use Rattle.txn_core.specs.declared.step.CoreStep.{CoreStep}
use Rattle.txn_core.specs.declared.step.CoreStep.TheVariants as act
use Rattle.txn_core.specs.declared.step.Told.{Told}
use Rattle.txn_core.specs.Together.{is_alone}

-- What each part has, that of part p at position p, and all that was told.
pub record CoreState : Type 0 where
  pub rows : List CoreRow
  pub told : List Told

abbrev pub no_row : CoreRow
no_row = record { settled = []; flight = []; sure = false }

-- The coordinator and n parts more, of which none has any entry.
abbrev pub started : ℕ → CoreState
started n = record { rows = replicate (n + 1) no_row; told = [] }

abbrev pub row_of : CoreState → ℕ → CoreRow
row_of s p = slice_index_or s.rows p no_row

abbrev pub settled_of : CoreState → ℕ → List CoreEntry
settled_of s p = (row_of s p).settled

abbrev pub flight_of : CoreState → ℕ → List CoreEntry
flight_of s p = (row_of s p).flight

abbrev pub with_row : CoreState → ℕ → CoreRow → CoreState
with_row s p r = record { rows = slice_set s.rows p r; told = s.told }

-- ---- What a start asks.

-- There is this decision.
abbrev pub is_decision : Option Decision → Decision → Bool
is_decision (Some Commit) Commit = true
is_decision (Some Abort) Abort = true
is_decision _ _ = false

-- In these lists, each part of x has the marker d of x.
abbrev pub is_marked : (ℕ → List CoreEntry) → TxnId → Decision → Bool
is_marked lists x d = list_all (λ q. is_decision (marker_of (lists q) x) d) (parts_of (lists 0) x)

-- Of the settled lists, what an entry of the part p asks: a message or hold, that the part is one of its transaction's; a
-- marker, its decision; a closing, that marker at each part of the transaction.
abbrev pub may_cross : (ℕ → List CoreEntry) → ℕ → CoreEntry → Bool
may_cross lists p (core.Inside x) = in_parts (lists 0) x p
may_cross lists p (core.Marker x d) = is_decision (decision_of (lists 0) x) d
may_cross lists p (core.Committed x) = is_marked lists x Commit
may_cross lists p (core.Aborted x) = is_marked lists x Abort
may_cross lists p _ = true

-- A batch has 1 to 64 entries, and the coordinator's has one.
abbrev pub is_batch : ℕ → List CoreEntry → Bool
is_batch p es = nat_le 1 (length es) && nat_le (length es) (if p == 0 then 1 else 64)

-- The part p may start these entries: it has a row and nothing in flight; they are a batch; behind the settled list they
-- make one that is lawful by itself; and the other lists give what each of them asks.
abbrev pub may_start : ℕ → CoreState → ℕ → List CoreEntry → Bool
may_start n s p es =
    nat_lt p (length s.rows) && length (flight_of s p) == 0 && is_batch p es
    && is_alone n p (settled_of s p ++ es) && list_all (may_cross (settled_of s) p) es

-- ---- What is told.

-- Of an entry, whether its place is visible where no undecided one stands before it; none where it is undecided itself.
abbrev pub is_shown_by : Option Decision → Option Bool
is_shown_by (Some Commit) = Some true
is_shown_by (Some Abort) = Some false
is_shown_by None = None

abbrev pub is_shown : List CoreEntry → CoreEntry → Option Bool
is_shown all core.Plain = Some true
is_shown all (core.Inside x) = is_shown_by (marker_of all x)
is_shown all _ = Some false

-- Those of the places that are at or past the first.
abbrev pub from_place : ℕ → List ℕ → List ℕ
from_place first places = filter (nat_le first) places

-- Of a list, the first of the visible places from one on, so many of them.
abbrev pub told_places : List CoreEntry → ℕ → ℕ → List ℕ
told_places es first count = take count (from_place first (visible_places es))

-- ---- The steps.

-- A part has a flight.
abbrev pub is_flying : CoreState → ℕ → Bool
is_flying s p = nat_lt p (length s.rows) && nat_lt 0 (length (flight_of s p))

-- Where there are n parts beside the coordinator, the step is allowed.
abbrev pub can : ℕ → CoreState → CoreStep → Bool
can n s (act.Start p es) = may_start n s p es
can n s (act.Settle p) = is_flying s p
can n s (act.Stop p stays) = is_flying s p && (stays || not (row_of s p).sure)
can n s (act.Tell topic first count) = nat_le count (length (from_place first (visible_places (settled_of s topic))))

-- A row whose part starts these entries, whose first entry in flight settles, whose flight is kept or lost.
abbrev pub start_row : List CoreEntry → CoreRow → CoreRow
start_row es r = record { settled = r.settled; flight = es; sure = false }

abbrev pub settle_row : CoreRow → CoreRow
settle_row r = record { settled = r.settled ++ take 1 r.flight; flight = drop 1 r.flight; sure = nat_lt 0 (length (drop 1 r.flight)) }

abbrev pub stop_row : Bool → CoreRow → CoreRow
stop_row stays r = record { settled = if stays then r.settled ++ r.flight else r.settled; flight = []; sure = false }

-- The state after a step.
abbrev pub core_after : CoreState → CoreStep → CoreState
core_after s (act.Start p es) = with_row s p (start_row es (row_of s p))
core_after s (act.Settle p) = with_row s p (settle_row (row_of s p))
core_after s (act.Stop p stays) = with_row s p (stop_row stays (row_of s p))
core_after s (act.Tell topic first count) =
    record { rows = s.rows; told = s.told ++ record { topic = topic; first = first; places = told_places (settled_of s topic) first count } ∷ [] }

-- The state after these steps, without those that aren't allowed.
abbrev pub run : ℕ → List CoreStep → CoreState → CoreState
run n [] s = s
run n (step ∷ steps) s = run n steps (if can n s step then core_after s step else s)

-- The lists that a stop leaves where it keeps the flights of the parts that `stays` names.
abbrev pub kept_of : CoreState → (ℕ → Bool) → ℕ → List CoreEntry
kept_of s stays p = if stays p then settled_of s p ++ flight_of s p else settled_of s p
