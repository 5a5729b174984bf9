-- The rows of the seats: each part's stands in one view.
use Rattle.std.specs.Prelude.{◌≡◌, ◌≢◌, ◌⊎◌, ℕ, suc, ◌-◌, ◌==◌, ◌<◌, Bool, false, if◌then◌else◌, List, [], ◌∷◌, ◌++◌, length, slice_index_or, Option, Some, None}
use Rattle.txn_base.specs.declared.core_entry.CoreEntry.{CoreEntry}
use Rattle.txn_core.specs.declared.step.CoreRow.{CoreRow}
use Rattle.txn_core.specs.Steps.{CoreState, row_of, start_row, settle_row, stop_row}
use Rattle.txn_core.specs.Kept.{resting_row}
use Rattle.txn_board.specs.declared.view.SeatRow.{SeatRow}
use Rattle.txn_board.specs.declared.view.Load.{Load}
use Rattle.txn_board.specs.declared.view.View.{View}
use Rattle.txn_board.specs.Words.{low_of_log}

-- Of lists that a board is opened with: how many parts there are beside the coordinator, the list of a part, and the low
-- watermark.
abbrev pub parts_in : List (List CoreEntry) → ℕ
parts_in lists = length lists - 1

abbrev pub list_in : List (List CoreEntry) → ℕ → List CoreEntry
list_in lists p = slice_index_or lists p []

abbrev pub low_in : List (List CoreEntry) → ℕ
low_in lists = low_of_log (list_in lists 0)

-- Each of these rows is the core's row of its part, and the part is this seat's.
abbrev pub AreSeatRows : CoreState → (ℕ → ℕ) → ℕ → List SeatRow → Type 0
AreSeatRows s owner id [] = Unit {0}
AreSeatRows s owner id (r ∷ rs) = ((owner r.part ≡ id) × (r.part < length s.rows) × (row_of s r.part ≡ r.row)) × AreSeatRows s owner id rs

-- The part has none of these rows.
abbrev pub NoneOf : ℕ → List SeatRow → Type 0
NoneOf p [] = Unit {0}
NoneOf p (r ∷ rs) = (p ≢ r.part) × NoneOf p rs

-- No part has two of these rows.
abbrev pub AreApart : List SeatRow → Type 0
AreApart [] = Unit {0}
AreApart (r ∷ rs) = NoneOf r.part rs × AreApart rs

-- The part has one of these rows.
abbrev pub HasSeatRow : ℕ → List SeatRow → Type 0
HasSeatRow p [] = ⊥
HasSeatRow p (r ∷ rs) = (p ≡ r.part) ⊎ HasSeatRow p rs

-- The rows are those of the parts from p on, in order.
abbrev pub AreFrom : ℕ → List SeatRow → Type 0
AreFrom p [] = Unit {0}
AreFrom p (r ∷ rs) = (r.part ≡ p) × AreFrom (suc p) rs

-- The number that a seat keeps is its part's, where it has one row, and it keeps none where it has no row.
abbrev pub IsNumberOf : Option ℕ → List SeatRow → Type 0
IsNumberOf number [] = number ≡ None
IsNumberOf number (r ∷ []) = number ≡ Some r.part
IsNumberOf number (r ∷ q ∷ rs) = Unit {0}

-- A seat has the row of one part: of this one, with these entries settled and in flight.
pub record IsSeatOf (part : ℕ) (row : CoreRow) (v : View) : Type 0 where
  pub one : v.rows ≡ record { part = part; row = row } ∷ []

-- A seat has the row of this part, and no other.
abbrev pub IsOfPart : ℕ → View → Type 0
IsOfPart part v = (row : CoreRow) × IsSeatOf part row v

-- ---- What the steps of the core make of the row of a seat that has one.

abbrev pub with_row_by : (CoreRow → CoreRow) → List SeatRow → List SeatRow
with_row_by f [] = []
with_row_by f (r ∷ rs) = record { part = r.part; row = f r.row } ∷ rs

-- A view whose part starts these entries, whose first entry in flight settles, whose flight is lost.
abbrev pub start_view : List CoreEntry → View → View
start_view es v = record { rows = with_row_by (start_row es) v.rows; loads = v.loads }

abbrev pub settle_view : View → View
settle_view v = record { rows = with_row_by settle_row v.rows; loads = v.loads }

abbrev pub drop_view : View → View
drop_view v = record { rows = with_row_by (stop_row false) v.rows; loads = v.loads }

-- A view with these loads more, with one more.
abbrev pub with_loads : List Load → View → View
with_loads more v = record { rows = v.rows; loads = v.loads ++ more }

abbrev pub loaded : ℕ → ℕ → View → View
loaded place value v = with_loads (record { place = place; value = value } ∷ []) v

-- ---- Opening, splitting, joining.

abbrev pub rows_from : ℕ → List (List CoreEntry) → List SeatRow
rows_from p [] = []
rows_from p (l ∷ ls) = record { part = p; row = resting_row l } ∷ rows_from (suc p) ls

-- The view of the seat that has every part's row.
abbrev pub opening_view : List (List CoreEntry) → View
opening_view lists = record { rows = rows_from 0 lists; loads = [] }

abbrev pub rest_rows : List SeatRow → List SeatRow
rest_rows [] = []
rest_rows (r ∷ rs) = rs

abbrev pub first_rows : List SeatRow → List SeatRow
first_rows [] = []
first_rows (r ∷ rs) = r ∷ []

-- A view without its first row; a view with that row alone.
abbrev pub rest_view : View → View
rest_view v = record { rows = rest_rows v.rows; loads = v.loads }

abbrev pub dealt_view : View → View
dealt_view v = record { rows = first_rows v.rows; loads = [] }

-- A view with the rows of two; what is left of the other.
abbrev pub joined_view : View → View → View
joined_view v w = record { rows = v.rows ++ w.rows; loads = v.loads }

abbrev pub spent_view : View
spent_view = record { rows = []; loads = [] }

-- By these rows, the list of the part p, with its flight where that is kept.
abbrev pub kept_rows : List SeatRow → (ℕ → Bool) → ℕ → List CoreEntry
kept_rows [] stays p = []
kept_rows (r ∷ rs) stays p = if p == r.part then (if stays p then r.row.settled ++ r.row.flight else r.row.settled) else kept_rows rs stays p
