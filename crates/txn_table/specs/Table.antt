-- Which rows are the table of a coordinator's entries.
use Rattle.std.specs.Prelude.{◌≡◌, ℕ, ◌*◌, ◌%◌, ◌^◌, ◌<◌, ◌≤◌, bit_or, Bool, true, false, if◌then◌else◌, List, [], ◌∷◌, ◌++◌, length, slice_set, slice_index_or, insert, remove, filter, Contains, HoldsAt, AllPairs, Option, Some, None, unwrap_or, All}
use Rattle.std.specs.Int.{bit_at}
use Rattle.txn_base.specs.declared.txn.TxnId.{TxnId}
use Rattle.txn_base.specs.declared.txn.Decision.{Decision}
use Rattle.txn_base.specs.declared.txn.Decision.TheVariants.{Commit, Abort}
use Rattle.txn_base.specs.declared.txn.Status.{Status}
use Rattle.txn_base.specs.declared.txn.Status.TheVariants.{Open, Committing, Committed, Aborting, Aborted}
use Rattle.txn_base.specs.declared.entry.CoordEntry.{CoordEntry}
use Rattle.txn_base.specs.declared.entry.CoordEntry.TheVariants as coord
use Rattle.txn_base.specs.Records.{IsCoordEntry}
use Rattle.txn_model.specs.Words.{first_of, last_of, below}
use Rattle.txn_model.specs.Skeletons.{same_txn, coord_skeleton, coord_skeletons}
use Rattle.txn_model.specs.Coord.{status_of, has_new, says_status, in_parts, count_new, coord_allows, CoordLawful}
use Rattle.txn_model.specs.Deadlines.{txn, says_deadline, is_closed, is_undriven}
use Rattle.txn_table.specs.declared.row.Row.{Row}

-- What a table is seen as: the entries whose table it is, and how many New entries it takes without memory. Any other entry
-- takes none.
pub record TableView : Type 0 where
  pub front : List CoordEntry
  pub room : ℕ

-- After the entries c, this is the row of x.
pub record IsRow (c : List CoordEntry) (x : TxnId) (row : Row) : Type 0 where
  pub begun : has_new (coord_skeletons c) x ≡ true
  pub status : unwrap_or (last_of (says_status x) (coord_skeletons c)) Open ≡ row.status
  pub deadline : first_of (says_deadline x) c ≡ Some row.deadline
  pub parts : (p : ℕ) → bit_at row.parts p ≡ (if in_parts (coord_skeletons c) x p then 1 else 0)

-- The entries c say nothing of x.
pub record IsBlank (c : List CoordEntry) (x : TxnId) : Type 0 where
  pub begun : has_new (coord_skeletons c) x ≡ false
  pub status : last_of (says_status x) (coord_skeletons c) ≡ None
  pub deadline : first_of (says_deadline x) c ≡ None
  pub parts : (p : ℕ) → in_parts (coord_skeletons c) x p ≡ false

-- What is kept of entries, beside their rows: their fields lie in their ranges, and each is allowed after those before it.
pub record AreEntries (c : List CoordEntry) : Type 0 where
  pub entries : All IsCoordEntry c
  pub lawful : CoordLawful 62 (coord_skeletons c)

-- The rows of the transactions that c has begun, in order of number; c says nothing of any other.
pub record AreRows (rows : List Row) (c : List CoordEntry) : Type 0 where
  pub count : length rows ≡ count_new (coord_skeletons c)
  pub each : (k : ℕ) (row : Row) → k < length rows → IsRow c (txn k) (slice_index_or rows k row)
  pub past : (x : TxnId) → (x.most ≡ 0 → length rows ≤ x.least) → IsBlank c x

-- All transactions below this number are closed.
pub record IsPassed (rows : List Row) (low : ℕ) : Type 0 where
  pub within : low ≤ length rows
  pub below : (k : ℕ) (row : Row) → k < low → is_closed (Some (slice_index_or rows k row).status) ≡ true

-- They are, and the transaction of this number isn't closed, if there is one.
pub record IsLow (rows : List Row) (low : ℕ) : Type 0 where
  pub passed : IsPassed rows low
  pub here : (row : Row) → low < length rows → is_closed (Some (slice_index_or rows low row).status) ≡ false

-- The transaction that an entry speaks of.
abbrev pub txn_in : CoordEntry → TxnId
txn_in (coord.New x deadline) = x
txn_in (coord.AddPart x part) = x
txn_in (coord.Committing x) = x
txn_in (coord.Committed x) = x
txn_in (coord.Aborting x) = x
txn_in (coord.Aborted x) = x

-- The row of a transaction of which an entry was added, by its row before.
abbrev pub row_after : CoordEntry → Row → Row
row_after (coord.New x deadline) row = row
row_after (coord.AddPart x part) row = record { deadline = row.deadline; status = row.status; parts = bit_or row.parts (1 * 2 ^ part % 2 ^ 64) }
row_after (coord.Committing x) row = record { deadline = row.deadline; status = Committing; parts = row.parts }
row_after (coord.Committed x) row = record { deadline = row.deadline; status = Committed; parts = row.parts }
row_after (coord.Aborting x) row = record { deadline = row.deadline; status = Aborting; parts = row.parts }
row_after (coord.Aborted x) row = record { deadline = row.deadline; status = Aborted; parts = row.parts }

-- The row of a transaction whose first entry this is.
abbrev pub first_row : CoordEntry → Option Row
first_row (coord.New x deadline) = Some (record { deadline = deadline; status = Open; parts = 0 })
first_row (coord.AddPart x part) = None
first_row (coord.Committing x) = None
first_row (coord.Committed x) = None
first_row (coord.Aborting x) = None
first_row (coord.Aborted x) = None

abbrev pub row_grown : CoordEntry → Option Row → Option Row
row_grown e None = first_row e
row_grown e (Some row) = Some (row_after e row)

-- The row of x after an entry, by its row before.
abbrev pub row_with : TxnId → Option Row → CoordEntry → Option Row
row_with x row e = if same_txn x (txn_in e) then row_grown e row else row

-- A row of which nothing is said.
abbrev pub empty_row : Row
empty_row = record { deadline = 0; status = Open; parts = 0 }

-- The rows after an entry: a new one stands behind the others, or that of its transaction changes.
abbrev pub rows_with : CoordEntry → List Row → List Row
rows_with (coord.New x deadline) rows = rows ++ record { deadline = deadline; status = Open; parts = 0 } ∷ []
rows_with e rows = slice_set rows (txn_in e).least (row_after e (slice_index_or rows (txn_in e).least empty_row))

-- The transaction of an entry has one of so many rows, but for a new one.
abbrev pub HasRow : CoordEntry → ℕ → Type 0
HasRow (coord.New x deadline) count = Unit {0}
HasRow e count = (txn_in e).least < count

-- After the entries c, the row of x is this one; or it has none, and c says nothing of it.
abbrev pub IsRowOf : List CoordEntry → TxnId → Option Row → Type 0
IsRowOf c x None = IsBlank c x
IsRowOf c x (Some row) = IsRow c x row

-- A table: its entries, their rows, and the low watermark.
pub record IsTable (rows : List Row) (low : ℕ) (c : List CoordEntry) : Type 0 where
  pub kept : AreEntries c
  pub are : AreRows rows c
  pub low_is : IsLow rows low

-- The decision that a status tells.
abbrev pub decision_in : Option Status → Option Decision
decision_in None = None
decision_in (Some Open) = None
decision_in (Some Committing) = Some Commit
decision_in (Some Committed) = Some Commit
decision_in (Some Aborting) = Some Abort
decision_in (Some Aborted) = Some Abort

-- The entry begins a transaction.
abbrev pub is_new_entry : CoordEntry → Bool
is_new_entry (coord.New x deadline) = true
is_new_entry _ = false

-- The status in a row, if there is one.
abbrev pub status_in : Option Row → Option Status
status_in None = None
status_in (Some row) = Some row.status

-- 1 where the row, if there is one, has this part, and 0 where it hasn't.
abbrev pub has_bit : Option Row → ℕ → ℕ
has_bit None part = 0
has_bit (Some row) part = bit_at row.parts part

-- Where so many parts are named, the entry is allowed after those of c.
abbrev pub may_follow : ℕ → List CoordEntry → CoordEntry → Bool
may_follow named c e = coord_allows named (coord_skeletons c) (coord_skeleton e)

-- After the entries c, bit p of the number says whether p is a part of x.
abbrev pub ArePartsOf : List CoordEntry → TxnId → ℕ → Type 0
ArePartsOf c x bits = (p : ℕ) → bit_at bits p ≡ (if in_parts (coord_skeletons c) x p then 1 else 0)

-- After the entries c, x is decided and not closed.
abbrev pub is_undriven_in : List CoordEntry → TxnId → Bool
is_undriven_in c x = is_undriven (status_of (coord_skeletons c) x)

-- The transaction of this row is decided and not closed.
abbrev pub drives : List Row → ℕ → Bool
drives rows k = is_undriven (Some (slice_index_or rows k empty_row).status)

-- The numbers of those that are, in order.
abbrev pub undriven_of : List Row → List ℕ
undriven_of rows = filter (drives rows) (below (length rows))

-- Each number is below those behind it.
abbrev pub Rises : List ℕ → Type 0
Rises numbers = AllPairs (λ (j k : ℕ). j < k) numbers

-- Number k would go to place i: those before it are lower, and the others higher.
pub record IsGap (numbers : List ℕ) (k i : ℕ) : Type 0 where
  pub fits : i ≤ length numbers
  pub below : (j d : ℕ) → j < i → slice_index_or numbers j d < k
  pub above : (j d : ℕ) → i ≤ j → j < length numbers → k < slice_index_or numbers j d

-- Number k stands at place i.
abbrev pub IsPlace : List ℕ → ℕ → ℕ → Type 0
IsPlace numbers k i = (i < length numbers) × HoldsAt (λ j. j ≡ k) numbers i

-- Number k was put where it belongs; number k was taken out.
abbrev pub IsPut : ℕ → List ℕ → List ℕ → Type 0
IsPut k old new = (i : ℕ) × IsGap old k i × (new ≡ insert old i k)

abbrev pub IsTaken : ℕ → List ℕ → List ℕ → Type 0
IsTaken k old new = (i : ℕ) × IsPlace old k i × (new ≡ remove old i)

-- What an entry changes of these numbers: a decision puts that of its transaction, and a closing takes it out.
abbrev pub IsKept : CoordEntry → List ℕ → List ℕ → Type 0
IsKept (coord.New x deadline) old new = new ≡ old
IsKept (coord.AddPart x part) old new = new ≡ old
IsKept (coord.Committing x) old new = IsPut x.least old new
IsKept (coord.Committed x) old new = IsTaken x.least old new
IsKept (coord.Aborting x) old new = IsPut x.least old new
IsKept (coord.Aborted x) old new = IsTaken x.least old new

-- A decision finds room for its number, which isn't there; a closing finds it.
abbrev pub IsReady : CoordEntry → List ℕ → ℕ → Type 0
IsReady (coord.New x deadline) numbers room = Unit {0}
IsReady (coord.AddPart x part) numbers room = Unit {0}
IsReady (coord.Committing x) numbers room = (Contains numbers x.least → ⊥) × (length numbers < room)
IsReady (coord.Committed x) numbers room = Contains numbers x.least
IsReady (coord.Aborting x) numbers room = (Contains numbers x.least → ⊥) × (length numbers < room)
IsReady (coord.Aborted x) numbers room = Contains numbers x.least

-- What a table keeps: its rows and low watermark are those of its entries, its numbers those of the undriven transactions, for
-- as many of which as there are rows there is room.
pub record Keeps (rows : List Row) (low : ℕ) (numbers : List ℕ) (room : ℕ) (c : List CoordEntry) : Type 0 where
  pub table : IsTable rows low c
  pub undriven : numbers ≡ undriven_of rows
  pub room_for : length rows ≤ room
