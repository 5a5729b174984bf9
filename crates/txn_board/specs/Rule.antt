-- The rule of the board, which holds between any two steps.
use Rattle.std.specs.Prelude.{◌≡◌, ◌⊎◌, ℕ, ◌≤◌, ◌<◌, ◌+◌, true, false, Some, slice_set, slice_index, Contains, List, [], ◌∷◌, ◌++◌, length}
use mathlib.Core.Option.{some}
use lib.ListN.{get_elem?}
use Rattle.std.specs.Int.{bit_at}
use Rattle.atomic_table.specs.Table as table
use Rattle.txn_base.specs.declared.core_entry.CoreEntry.{CoreEntry}
use Rattle.txn_model.specs.Coord.{count_new}
use Rattle.txn_base.specs.declared.txn.Status.{Status}
use Rattle.txn_model.specs.Deadlines.{txn, is_closed}
use Rattle.txn_core.specs.declared.step.CoreStep.{CoreStep}
use Rattle.txn_core.specs.Together.{AreLawful}
use Rattle.txn_core.specs.Steps.{CoreState, row_of, can, core_after, run, settled_of, flight_of}
use Rattle.txn_core.specs.Kept.{resting_core}
use Rattle.txn_board.specs.declared.words.Word.{Word}
use Rattle.txn_board.specs.declared.words.Word.TheVariants.{Decided}
use Rattle.txn_board.specs.declared.view.SeatRow.{SeatRow}
use Rattle.txn_board.specs.declared.view.Load.{Load}
use Rattle.txn_board.specs.declared.view.View.{View}
use Rattle.txn_board.specs.Words.{window, IsIn, is_in, word_at, WordsSay, StillHolds, entries_of}
use Rattle.txn_board.specs.Rows.{parts_in, low_in, list_in, AreSeatRows, AreApart, HasSeatRow, loaded, with_loads}

-- Each of these loads still holds.
abbrev pub LoadsHold : List ℕ → List Load → Type 0
LoadsHold words [] = Unit {0}
LoadsHold words (l ∷ ls) = StillHolds words l.place l.value × LoadsHold words ls

-- Each load that a seat's view has still holds.
abbrev pub KeepLoads : table.State ℕ View → Type 0
KeepLoads s = (id : ℕ) (v : View) → get_elem? s.views id ≡ some v → LoadsHold s.words v.loads

-- A load of this place with this value shows every bit that one of these showed there.
abbrev pub ShowsOn : ℕ → ℕ → List Load → Type 0
ShowsOn place value loads = (l : Load) → Contains loads l → l.place ≡ place → (p : ℕ) → bit_at l.value p ≤ bit_at value p

-- Lists that a board may be opened with: there are at most 62 beside the coordinator's; they are lawful together; and the
-- window has each transaction that is begun, from the low watermark on.
pub record CanOpenBoard (lists : List (List CoreEntry)) : Type 0 where
  pub few : parts_in lists ≤ 62
  pub lawful : AreLawful (parts_in lists) (list_in lists)
  pub fits : count_new (list_in lists 0) ≤ low_in lists + window

-- The seat of this number has a view with the part's row.
pub record HasSeat (views : List View) (id part : ℕ) : Type 0 where
  pub view : View
  pub there : get_elem? views id ≡ some view
  pub row : HasSeatRow part view.rows

-- Each part of the core is seated: the seat that owns it has its row.
abbrev pub AreSeated : CoreState → (ℕ → ℕ) → List View → Type 0
AreSeated c owner views = (p : ℕ) → p < length c.rows → HasSeat views (owner p) p

-- Of each transaction below the low watermark the entries of every part are those of the opening, and all are settled.
abbrev pub IsSettledBelow : List (List CoreEntry) → CoreState → Type 0
IsSettledBelow lists c = (x p : ℕ) → x < low_in lists → entries_of (txn x) (settled_of c p ++ flight_of c p) ≡ entries_of (txn x) (list_in lists p)

-- The window ends past each transaction that is begun, also where its New is in flight.
abbrev pub FitsWindow : List (List CoreEntry) → CoreState → Type 0
FitsWindow lists c = count_new (settled_of c 0 ++ flight_of c 0) ≤ low_in lists + window

-- From the lists of the opening, steps of the core lead to a state of which the words speak, in the window, and the lists of
-- the opening below it; each view's rows are rows of that state, and each part has one seat; and each load still holds.
pub record Holds (lists : List (List CoreEntry)) (s : table.State ℕ View) : Type 0 where
  pub state : CoreState
  pub owner : ℕ → ℕ
  pub may : CanOpenBoard lists
  pub steps : List CoreStep
  pub reached : run (parts_in lists) steps (resting_core lists) ≡ state
  pub words : WordsSay (low_in lists) window s.words (settled_of state)
  pub settled_below : IsSettledBelow lists state
  pub fits : FitsWindow lists state
  pub seated : AreSeated state owner s.views
  pub rows : (id : ℕ) (v : View) → get_elem? s.views id ≡ some v → AreSeatRows state owner id v.rows
  pub apart : (id : ℕ) (v : View) → get_elem? s.views id ≡ some v → AreApart v.rows
  pub loads : KeepLoads s

-- Whatever the board is, when the word i becomes f of the value that it had, the seat's next view by that value keeps what
-- `holds`.
abbrev pub AllowsTo : (table.State ℕ View → Type 0) → ℕ → View → ℕ → (ℕ → ℕ) → (ℕ → View) → Type 0
AllowsTo holds id v i f next = (s : table.State ℕ View) → holds s → get_elem? s.views id ≡ some v → holds (record { words = slice_set s.words i (f (slice_index s.words i)); homes = s.homes; views = slice_set s.views id (next (slice_index s.words i)) })

-- A load of this place by a seat of this view showed this value: the rule held of a board where the seat had that view, and
-- the value stood at that place.
pub record Found (lists : List (List CoreEntry)) (place value : ℕ) (v : View) : Type 0 where
  pub board : table.State ℕ View
  pub seat : ℕ
  pub rule : Holds lists board
  pub view : get_elem? board.views seat ≡ some v
  pub stood : slice_index board.words place ≡ value

-- The rule held of a board where a seat had this view.
pub record HeldBy (lists : List (List CoreEntry)) (v : View) : Type 0 where
  pub board : table.State ℕ View
  pub seat : ℕ
  pub rule : Holds lists board
  pub view : get_elem? board.views seat ≡ some v

-- Of each of these loads in turn, from this view on, this is so by its place, its value and the view before it.
abbrev pub EachInTurn : (ℕ → ℕ → View → Type 0) → View → List Load → Type 0
EachInTurn fact v [] = Unit {0}
EachInTurn fact v (l ∷ ls) = fact l.place l.value v × EachInTurn fact (loaded l.place l.value v) ls

-- Each of these loads in turn showed what stood at its place; each shows every bit that an earlier one of its place showed.
abbrev pub AreFound : List (List CoreEntry) → View → List Load → Type 0
AreFound lists = EachInTurn (Found lists)

abbrev pub ShowOn : View → List Load → Type 0
ShowOn = EachInTurn (λ place value v. ShowsOn place value v.loads)

-- A call brought a seat from the first view to the other by loads. At the last of them the rule held of a board where the
-- seat had its view then, the load showed what stood at its place, and this was so of the core's state.
pub record AtLastLoad (lists : List (List CoreEntry)) (before now : View) (fact : CoreState → Type 0) : Type 0 where
  pub view : View
  pub front : List Load
  pub last : Load
  pub from : view ≡ with_loads front before
  pub to : now ≡ loaded last.place last.value view
  pub found : Found lists last.place last.value view
  pub is : fact found.rule.state

-- Of the transaction x a call told this of the core's state: in the window it was so at the call's last load, where the
-- promise is made; outside it is so at every moment.
pub record IsTold (made : Type 0) (lists : List (List CoreEntry)) (x : ℕ) (before now : View) (fact : CoreState → Type 0) : Type 0 where
  pub within : made → IsIn (low_in lists) window x → AtLastLoad lists before now fact
  pub outside : is_in (low_in lists) window x ≡ false → (s : table.State ℕ View) (h : Holds lists s) → fact h.state

-- ---- The rule as sentences.

-- Of each board at which the rule holds, this is so of its words and views and of the core's state; of each view of one, this
-- is so of the core's state.
abbrev pub AtEachMoment : (List (List CoreEntry) → table.State ℕ View → CoreState → Type 0) → Type 0
AtEachMoment fact = (lists : List (List CoreEntry)) (s : table.State ℕ View) (h : Holds lists s) → fact lists s h.state

abbrev pub OfEachView : (List (List CoreEntry) → CoreState → View → Type 0) → Type 0
OfEachView fact = AtEachMoment (λ lists s c. (id : ℕ) (v : View) → get_elem? s.views id ≡ some v → fact lists c v)

-- Of each load of a word of a transaction of the window, this is so of the value, of the view that it was made with, and of
-- the core's state then.
abbrev pub OfEachLoad : (ℕ → Word → ℕ → View → CoreState → Type 0) → Type 0
OfEachLoad fact = (lists : List (List CoreEntry)) (x : ℕ) (w : Word) (n : ℕ) (v : View) (f : Found lists (word_at (low_in lists) x w) n v) → IsIn (low_in lists) window x → fact x w n v f.rule.state

-- Of each lists that may open a board, and of words that say what they say, this is so.
abbrev pub OpensBy : (List (List CoreEntry) → List ℕ → Type 0) → Type 0
OpensBy fact = (lists : List (List CoreEntry)) (words : List ℕ) → CanOpenBoard lists → WordsSay (low_in lists) window words (list_in lists) → fact lists words

-- The part of each list has a seat.
abbrev pub HaveSeats : List (List CoreEntry) → table.State ℕ View → Type 0
HaveSeats lists s = (p : ℕ) → p < length lists → (id : ℕ) × HasSeat s.views id p

-- Each row of a view is the core's row of its part, which is that of a list.
abbrev pub RowsAreCores : List (List CoreEntry) → table.State ℕ View → CoreState → Type 0
RowsAreCores lists s c = (id : ℕ) (v : View) (r : SeatRow) → get_elem? s.views id ≡ some v → Contains v.rows r → (r.part < length lists) × (row_of c r.part ≡ r.row)

-- No view has two rows of one part.
abbrev pub RowsAreApart : table.State ℕ View → Type 0
RowsAreApart s = (id : ℕ) (v : View) → get_elem? s.views id ≡ some v → AreApart v.rows

-- No two seats have a row of one part.
abbrev pub SeatsAreApart : table.State ℕ View → Type 0
SeatsAreApart s = (id other p : ℕ) (v w : View) → get_elem? s.views id ≡ some v → get_elem? s.views other ≡ some w → HasSeatRow p v.rows → HasSeatRow p w.rows → id ≡ other

-- Each bit that a load of a view showed is set now.
abbrev pub LoadsStay : table.State ℕ View → Type 0
LoadsStay s = (id p : ℕ) (v : View) (l : Load) → get_elem? s.views id ≡ some v → Contains v.loads l → bit_at l.value p ≤ bit_at (slice_index s.words l.place) p

-- Of the decision word of a transaction of the window, no bit past the first two is set.
abbrev pub TwoBitsDecide : List (List CoreEntry) → table.State ℕ View → Type 0
TwoBitsDecide lists s = (x p : ℕ) → IsIn (low_in lists) window x → 2 ≤ p → p < 64 → bit_at (slice_index s.words (word_at (low_in lists) x Decided)) p ≡ 0

-- The first 64 bits of these numbers are the same.
abbrev pub SameBits : ℕ → ℕ → Type 0
SameBits a b = (p : ℕ) → p < 64 → bit_at a p ≡ bit_at b p

-- Each load of the decision word of a transaction of the window showed nothing, or what stands there now.
abbrev pub DecisionsAreWhole : List (List CoreEntry) → table.State ℕ View → Type 0
DecisionsAreWhole lists s = (id x : ℕ) (v : View) (l : Load) → get_elem? s.views id ≡ some v → Contains v.loads l → IsIn (low_in lists) window x → l.place ≡ word_at (low_in lists) x Decided → SameBits l.value 0 ⊎ SameBits l.value (slice_index s.words l.place)

-- Where there are n parts beside the coordinator, the core may make this step, and after it the view has the core's row of
-- this part alone.
pub record StepsTo (n : ℕ) (c : CoreState) (step : CoreStep) (part : ℕ) (next : View) : Type 0 where
  pub allowed : can n c step ≡ true
  pub row : next.rows ≡ record { part = part; row = row_of (core_after c step) part } ∷ []

-- A transaction with this status isn't closed.
abbrev pub IsUnclosed : Status → Type 0
IsUnclosed st = is_closed (Some st) ≡ false
