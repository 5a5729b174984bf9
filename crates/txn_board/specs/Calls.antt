-- What the calls of the board ask of the row of a seat.
use Rattle.std.specs.Prelude.{◌≡◌, ◌≢◌, ◌<◌, ◌&&◌, not, ℕ, ◌==◌, nat_lt, Bool, true, false, if◌then◌else◌, List, [], ◌∷◌, ◌++◌, replicate, find, Option, Some, None}
use Rattle.txn_base.specs.declared.txn.Decision.{Decision}
use Rattle.txn_base.specs.declared.core_entry.CoreEntry.{CoreEntry}
use Rattle.txn_base.specs.declared.core_entry.CoreEntry.TheVariants as core
use Rattle.txn_model.specs.Words.{numbers_from}
use Rattle.txn_model.specs.Coord.{decision_skeleton, closing_skeleton, decision_of}
use Rattle.txn_model.specs.Deadlines.{txn}
use Rattle.txn_core.specs.declared.step.CoreRow.{CoreRow}
use Rattle.txn_core.specs.declared.step.CoreStep.TheVariants as act
use Rattle.txn_core.specs.Together.{is_alone}
use Rattle.txn_core.specs.Steps.{CoreState, settled_of, may_cross, is_batch}
use Rattle.txn_board.specs.declared.view.SeatRow.{SeatRow}
use Rattle.txn_board.specs.declared.view.View.{View}
use Rattle.txn_board.specs.declared.words.Mark.{Mark}
use Rattle.txn_board.specs.declared.words.OwnStart.{OwnStart}
use Rattle.txn_board.specs.declared.words.OwnStart.TheVariants as own
use Rattle.txn_board.specs.declared.words.Word.TheVariants.{Registered, Decided, Done}
use Rattle.txn_board.specs.declared.words.RowStep.{RowStep}
use Rattle.txn_board.specs.declared.words.RowStep.TheVariants as turn
use Rattle.txn_board.specs.declared.words.Word.{Word}
use Rattle.txn_board.specs.Seen.{decision_by}
use Rattle.std.specs.List.{list_any, list_all}
use Rattle.txn_board.specs.Words.{window, IsIn, is_in, word_at, own_place, mark_of, is_bit_set, sets, teller}
use Rattle.txn_board.specs.Rows.{parts_in, low_in, start_view, settle_view, drop_view, loaded}
use Rattle.txn_board.specs.Rule.{Holds, AllowsTo, Found, HeldBy, ShowsOn, StepsTo}

-- The seat has the row of this part alone, and this entry is the first in flight.
pub record IsSettling (part : ℕ) (e : CoreEntry) (v : View) : Type 0 where
  pub row : CoreRow
  pub rest : List CoreEntry
  pub one : v.rows ≡ record { part = part; row = row } ∷ []
  pub first : row.flight ≡ e ∷ rest

-- The seat has one row, and what it has in flight isn't sure to stay.
pub record MayDrop (v : View) : Type 0 where
  pub row : SeatRow
  pub entry : CoreEntry
  pub rest : List CoreEntry
  pub one : v.rows ≡ row ∷ []
  pub first : row.row.flight ≡ entry ∷ rest
  pub unsure : row.row.sure ≡ false

-- The first entry in flight of the seat's part sets this bit, or none.
pub record IsSetting (mark : Option Mark) (v : View) : Type 0 where
  pub part : ℕ
  pub entry : CoreEntry
  pub settling : IsSettling part entry v
  pub sets : mark_of part entry ≡ mark

-- A message, a hold: an entry that sets no bit.
abbrev pub is_quiet : CoreEntry → Bool
is_quiet core.Plain = true
is_quiet (core.Inside x) = true
is_quiet _ = false

-- The first entry in flight is a message or a hold.
pub record IsSettlingOwn (v : View) : Type 0 where
  pub part : ℕ
  pub entry : CoreEntry
  pub settling : IsSettling part entry v
  pub quiet : is_quiet entry ≡ true

-- What registers: New for the coordinator, AddPart for another part.
abbrev pub reg_entry : ℕ → ℕ → CoreEntry
reg_entry x part = if part == 0 then core.New (txn x) else core.AddPart (txn x) part

-- What ends x by d: a closing in the coordinator's list, a marker in another.
abbrev pub end_entry : ℕ → ℕ → Decision → CoreEntry
end_entry part x d = if part == 0 then closing_skeleton (txn x) d else core.Marker (txn x) d

-- The first entry in flight closes x, or is a marker of it.
pub record IsEnding (x : ℕ) (v : View) : Type 0 where
  pub part : ℕ
  pub decision : Decision
  pub settling : IsSettling part (end_entry part x decision) v

-- The bit that a part's marker of x sets, or the coordinator's closing.
abbrev pub ending_mark : Option ℕ → ℕ → Option Mark
ending_mark None x = None
ending_mark (Some part) x = if nat_lt part 64 then Some (record { txn = x; word = Done; bit = part }) else None

-- ---- What the starts ask.

-- Where there are n parts beside the coordinator: the seat has one row, and by that row its part may start these entries.
-- It has nothing in flight, they are a batch, and behind what is settled they make a list that is lawful by itself.
pub record MayStart (n : ℕ) (es : List CoreEntry) (v : View) : Type 0 where
  pub row : SeatRow
  pub one : v.rows ≡ row ∷ []
  pub resting : row.row.flight ≡ []
  pub batch : is_batch row.part es ≡ true
  pub alone : is_alone n row.part (row.row.settled ++ es) ≡ true

-- The settled lists give what each of these entries of the part asks of other lists.
abbrev pub MayCross : CoreState → ℕ → List CoreEntry → Type 0
MayCross c part es = list_all (may_cross (settled_of c) part) es ≡ true

-- What a part starts of its own.
abbrev pub own_entries : OwnStart → List CoreEntry
own_entries (own.Plain count) = replicate count core.Plain
own_entries (own.New x) = core.New (txn x) ∷ []
own_entries (own.AddPart x part) = core.AddPart (txn x) part ∷ []
own_entries (own.Decide x decision) = decision_skeleton (txn x) decision ∷ []

-- A view whose part starts these entries, where there are any.
abbrev pub start_where : List CoreEntry → View → View
start_where [] v = v
start_where (e ∷ es) v = start_view (e ∷ es) v

-- The word has the bit of the seat's part.
abbrev pub bit_found : Option ℕ → ℕ → Bool
bit_found None n = false
bit_found (Some part) n = nat_lt part 64 && is_bit_set n part

abbrev pub inside_where : Bool → ℕ → ℕ → List CoreEntry
inside_where found x count = if found then replicate count (core.Inside (txn x)) else []

abbrev pub marker_where : ℕ → Option Decision → List CoreEntry
marker_where x None = []
marker_where x (Some d) = core.Marker (txn x) d ∷ []

-- ---- The start of a closing.

-- By a word of registered parts and one of those done, the least registered part that isn't done.
abbrev pub first_missing : ℕ → ℕ → Option ℕ
first_missing reg done = find (λ p. is_bit_set reg p && not (is_bit_set done p)) (numbers_from 1 63)

-- What closes x by a decision; by the one row of a seat, as that has it.
abbrev pub closing_by : Option Decision → ℕ → List CoreEntry
closing_by None x = []
closing_by (Some d) x = closing_skeleton (txn x) d ∷ []

abbrev pub closing_in : List SeatRow → ℕ → List CoreEntry
closing_in [] x = []
closing_in (r ∷ []) x = closing_by (decision_of r.row.settled (txn x)) x
closing_in (r ∷ q ∷ rs) x = []

-- What starts where no part is missing.
abbrev pub closing_where : Option ℕ → List SeatRow → ℕ → List CoreEntry
closing_where None rows x = closing_in rows x
closing_where (Some p) rows x = []

-- The seat has the coordinator's row, which has the decision of x, and may start its closing as far as that row shows.
pub record MayClose (n x : ℕ) (v : View) : Type 0 where
  pub decision : Decision
  pub may : MayStart n (closing_skeleton (txn x) decision ∷ []) v
  pub first : may.row.part ≡ 0
  pub decided : decision_of may.row.row.settled (txn x) ≡ Some decision

-- Of the seat's one row, a value of this word of x has the bits that the part's list tells.
abbrev pub IsOfRow : ℕ → Word → ℕ → View → Type 0
IsOfRow x w n v = (r : SeatRow) → v.rows ≡ r ∷ [] → (p : ℕ) → p < 64 → teller w p ≡ r.part → is_bit_set n p ≡ list_any (sets w p (txn x)) r.row.settled

-- What a load of this value makes of a view: entries start, of its own; messages or a hold where the part's bit is set; a
-- marker where there is a decision; a closing where each registered part is done. Or the first entry in flight settles, or
-- the flight is lost.
abbrev pub row_step : RowStep → View → ℕ → View
row_step (turn.Own own) v n = start_where (own_entries own) v
row_step (turn.Inside x count part) v n = start_where (inside_where (bit_found part n) x count) v
row_step (turn.Marker x) v n = start_where (marker_where x (decision_by (is_bit_set n 0) (is_bit_set n 1))) v
row_step (turn.Close x reg) v n = start_where (closing_where (first_missing reg n) v.rows x) v
row_step turn.Settle v n = settle_view v
row_step turn.Lose v n = drop_view v

-- The rule lets a load of this place make that of a seat's view.
abbrev pub AllowsStep : List (List CoreEntry) → ℕ → View → ℕ → RowStep → Type 0
AllowsStep lists id v place step = AllowsTo (Holds lists) id v place (λ n. n) (λ n. loaded place n (row_step step v n))

-- The place of the word of x in the window.
abbrev pub start_place : List (List CoreEntry) → ℕ → Word → Option ℕ
start_place lists x w = if is_in (low_in lists) window x then Some (word_at (low_in lists) x w) else None

-- For messages or a hold: the part is another than the coordinator's.
pub record MayStartIn (n x count : ℕ) (v : View) : Type 0 where
  pub may : MayStart n (replicate count (core.Inside (txn x))) v
  pub part : may.row.part ≢ 0

-- The part of the seat may start the marker of x, whichever decision that has.
abbrev pub MayMark : ℕ → ℕ → View → Type 0
MayMark n x v = (d : Decision) → MayStart n (marker_where x (Some d)) v

-- The transaction of what a part starts of its own lies in the window.
abbrev pub IsOwnIn : List (List CoreEntry) → OwnStart → Type 0
IsOwnIn lists (own.Plain count) = Unit {0}
IsOwnIn lists (own.New x) = IsIn (low_in lists) window x
IsOwnIn lists (own.AddPart x part) = IsIn (low_in lists) window x
IsOwnIn lists (own.Decide x decision) = IsIn (low_in lists) window x

-- ---- What the starts tell.

-- The call made one load, of whose value nothing is made, and the row changed as in this view.
pub record Turns (made : Type 0) (lists : List (List CoreEntry)) (next before now : View) : Type 0 where
  pub value : ℕ
  pub view : now ≡ loaded own_place value next
  pub found : made → Found lists own_place value before
  pub grows : ShowsOn own_place value before.loads

-- The first entry in flight settled. Where the promise is made, the rule held of a board where a seat had the view before, and
-- of one where it has this view.
pub record Settled (made : Type 0) (lists : List (List CoreEntry)) (before now : View) : Type 0 where
  pub view : now ≡ settle_view before
  pub from : made → HeldBy lists before
  pub to : made → HeldBy lists now

-- The call loaded this word of x, which showed the value n, and these entries started.
pub record Starts (made : Type 0) (lists : List (List CoreEntry)) (x : ℕ) (w : Word) (n : ℕ) (es : List CoreEntry) (before now : View) : Type 0 where
  pub view : now ≡ loaded (word_at (low_in lists) x w) n (start_where es before)
  pub found : made → Found lists (word_at (low_in lists) x w) n before
  pub grows : ShowsOn (word_at (low_in lists) x w) n before.loads

-- By the word of registered parts, messages or a hold started where the part's bit is set in it.
pub record StartsInside (made : Type 0) (lists : List (List CoreEntry)) (x count n : ℕ) (told : Bool) (before now : View) : Type 0 where
  pub starts : Starts made lists x Registered n (inside_where told x count) before now
  pub is : (r : SeatRow) → before.rows ≡ r ∷ [] → told ≡ bit_found (Some r.part) n

-- By the word of the decision, a marker started where there is one.
pub record StartsMarker (made : Type 0) (lists : List (List CoreEntry)) (x n : ℕ) (told : Option Decision) (before now : View) : Type 0 where
  pub starts : Starts made lists x Decided n (marker_where x told) before now
  pub is : told ≡ decision_by (is_bit_set n 0) (is_bit_set n 1)

-- By the word of registered parts, which is that of the coordinator's row, and then the word of those done, a closing started
-- where no part is missing.
pub record StartsClosing (made : Type 0) (lists : List (List CoreEntry)) (x reg done : ℕ) (missing : Option ℕ) (before now : View) : Type 0 where
  pub looked : made → Found lists (word_at (low_in lists) x Registered) reg before
  pub grows : ShowsOn (word_at (low_in lists) x Registered) reg before.loads
  pub of_row : made → IsOfRow x Registered reg before
  pub starts : Starts made lists x Done done (closing_where missing before.rows x) (loaded (word_at (low_in lists) x Registered) reg before) now
  pub least : missing ≡ first_missing reg done

-- ---- The core's steps that a seat's row makes.

-- The view's row settles, is dropped and starts by a step of the core.
abbrev pub SettlesByStep : List (List CoreEntry) → CoreState → View → Type 0
SettlesByStep lists c v = (part : ℕ) (e : CoreEntry) → IsSettling part e v → StepsTo (parts_in lists) c (act.Settle part) part (settle_view v)

abbrev pub DropsByStep : List (List CoreEntry) → CoreState → View → Type 0
DropsByStep lists c v = (m : MayDrop v) → StepsTo (parts_in lists) c (act.Stop m.row.part false) m.row.part (drop_view v)

abbrev pub StartsByStep : List (List CoreEntry) → CoreState → View → Type 0
StartsByStep lists c v = (es : List CoreEntry) (m : MayStart (parts_in lists) es v) → MayCross c m.row.part es → StepsTo (parts_in lists) c (act.Start m.row.part es) m.row.part (start_view es v)

-- A start that loads words of its transaction is a step of the core, allowed on the board of the rule that its last load tells:
-- that of messages or a hold, of a marker, of a closing.
abbrev pub InsideByStep : Type 0 → Type 0
InsideByStep made = (lists : List (List CoreEntry)) (x count n : ℕ) (before now : View) (k : StartsInside made lists x count n true before now) (p : made) (m : MayStartIn (parts_in lists) x count before) → IsIn (low_in lists) window x
    → StepsTo (parts_in lists) (k.starts.found p).rule.state (act.Start m.may.row.part (replicate count (core.Inside (txn x)))) m.may.row.part now

abbrev pub MarkerByStep : Type 0 → Type 0
MarkerByStep made = (lists : List (List CoreEntry)) (x n : ℕ) (d : Decision) (before now : View) (k : StartsMarker made lists x n (Some d) before now) (p : made) (m : MayMark (parts_in lists) x before) → IsIn (low_in lists) window x
    → StepsTo (parts_in lists) (k.starts.found p).rule.state (act.Start (m d).row.part (core.Marker (txn x) d ∷ [])) (m d).row.part now

abbrev pub CloseByStep : Type 0 → Type 0
CloseByStep made = (lists : List (List CoreEntry)) (x reg done : ℕ) (before now : View) (k : StartsClosing made lists x reg done None before now) (p : made) (m : MayClose (parts_in lists) x before) → IsIn (low_in lists) window x
    → StepsTo (parts_in lists) (k.starts.found p).rule.state (act.Start 0 (closing_skeleton (txn x) m.decision ∷ [])) 0 now

-- ---- The same, in the window and outside it.

abbrev pub StartsInsideWithin : Type 0 → List (List CoreEntry) → ℕ → ℕ → Bool → View → View → Type 0
StartsInsideWithin made lists x count told before now = IsIn (low_in lists) window x → (n : ℕ) × StartsInside made lists x count n told before now

abbrev pub StartsMarkerWithin : Type 0 → List (List CoreEntry) → ℕ → Option Decision → View → View → Type 0
StartsMarkerWithin made lists x told before now = IsIn (low_in lists) window x → (n : ℕ) × StartsMarker made lists x n told before now

abbrev pub StartsClosingWithin : Type 0 → List (List CoreEntry) → ℕ → Option ℕ → View → View → Type 0
StartsClosingWithin made lists x missing before now = IsIn (low_in lists) window x → (reg done : ℕ) × StartsClosing made lists x reg done missing before now

-- Where x isn't in the window, this is told, and the view is as it was.
abbrev pub NothingOutside : List (List CoreEntry) → ℕ → Type 0 → View → View → Type 0
NothingOutside lists x told before now = is_in (low_in lists) window x ≡ false → told × (now ≡ before)
