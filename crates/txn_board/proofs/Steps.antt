-- A step at which the one row of a seat changes as the core's row does, or at which none changes.
use Rattle.std.proofs.Common.{◌≡◌, ◌≢◌, inl, inr, ℕ, zero, suc, ◌+◌, ◌*◌, ◌^◌, ◌<◌, ◌≤◌, arith, Bool, true, false, if◌then◌else◌, List, [], ◌∷◌, ◌++◌, length, get_or, set, Some, None, refl, sym, ap, ◌∙◌, subst, max}
use Rattle.std.specs.Prelude.{Option, slice_index, slice_index_or, map}
use Rattle.std.specs.Int.{bit_at}
use Rattle.std.specs.Int.Bits.{bit_or}
use Rattle.std.proofs.lemmas.Nat.Bits.{bit_at_or}
use Rattle.std.proofs.lemmas.List.{get_or-set_same, get_or-set_other, set-get_or, get_or_past, length-set, append-nil}
use Rattle.std.proofs.lemmas.List.Elements.{filter-append}
use mathlib.Core.List.{IsPrefix}
use mathlib.Core.Option.{some, some-injective, some-ne-none}
use lib.ListN.{get_elem?}
use native.Mathlib.Decide.{ℕ_discrete, dec_lt}
use Rattle.atomic_table.specs.Table.{Allows, keeps}
use Rattle.atomic_table.specs.Table as table
use Rattle.atomic_table.proofs.Lists.{at_set, set_here, set_else}
use Rattle.txn_base.specs.declared.core_entry.CoreEntry.{CoreEntry}
use Rattle.txn_model.specs.Coord.{count_new, CoordLawful}
use Rattle.txn_model.specs.Deadlines.{txn}
use Rattle.txn_core.specs.declared.step.CoreRow.{CoreRow}
use Rattle.txn_core.specs.declared.step.CoreStep.{CoreStep}
use Rattle.txn_core.specs.Together.{AreLawful}
use Rattle.txn_core.specs.Steps.{CoreState, no_row, row_of, settled_of, flight_of, with_row, can, core_after, run}
use Rattle.txn_core.specs.Kept.{CoreInvariant, resting_row, resting_core}
use Rattle.txn_core.proofs.Laws.{alone_front, alone_log, run_keeps, run-append, opened_kept, run_longer}
use Rattle.txn_board.specs.declared.view.SeatRow.{SeatRow}
use Rattle.txn_board.specs.declared.view.Load.{Load}
use Rattle.txn_board.specs.declared.view.View.{View}
use Rattle.txn_board.specs.declared.words.Mark.{Mark}
use Rattle.txn_board.specs.Words.{window, is_in, word_at, WordsSay, set_bit, with_mark, is_of, entries_of}
use Rattle.txn_board.specs.Rows.{parts_in, list_in, low_in, AreSeatRows, AreApart, HasSeatRow, loaded, settle_view}
use Rattle.txn_board.specs.Rule.{LoadsHold, KeepLoads, ShowsOn, HasSeat, Holds, AllowsTo, Found}
use Rattle.txn_board.specs.Calls.{Settled}
use Rattle.txn_board.proofs.Marks.{in_of, place_within}
use Rattle.txn_board.proofs.Entries.{cut_off}

-- ---- The core's state.

resting_at : (lists : List (List CoreEntry)) (p : ℕ) → slice_index_or (map resting_row lists) p no_row ≡ resting_row (slice_index_or lists p [])
resting_at [] p = refl
resting_at (l ∷ ls) zero = refl
resting_at (l ∷ ls) (suc p) = resting_at ls p

pub settled_at : (lists : List (List CoreEntry)) (p : ℕ) → settled_of (resting_core lists) p ≡ list_in lists p
settled_at lists p = ap (λ (r : CoreRow). r.settled) (resting_at lists p)

pub row_at : (lists : List (List CoreEntry)) (p : ℕ) → row_of (resting_core lists) p ≡ resting_row (list_in lists p)
row_at lists p = resting_at lists p

pub kept : (lists : List (List CoreEntry)) (s : table.State ℕ View) (h : Holds lists s) → CoreInvariant (parts_in lists) h.state
kept lists s h =
    subst (CoreInvariant (parts_in lists)) h.reached (run_keeps (parts_in lists) (resting_core lists) h.steps h.may.few (opened_kept (parts_in lists) lists (subst (AreLawful (parts_in lists)) (λ i p. sym (settled_at lists p) i) h.may.lawful)))

-- each list begins with that of the opening
pub begins_as : (lists : List (List CoreEntry)) (s : table.State ℕ View) (h : Holds lists s) (p : ℕ) → IsPrefix (list_in lists p) (settled_of h.state p)
begins_as lists s h p =
    subst (λ l. IsPrefix l (settled_of h.state p)) (settled_at lists p) (subst (λ c. IsPrefix (settled_of (resting_core lists) p) (settled_of c p)) h.reached (run_longer (parts_in lists) (resting_core lists) h.steps p))

-- the coordinator's settled list is a lawful log
pub log_lawful : (lists : List (List CoreEntry)) (s : table.State ℕ View) (h : Holds lists s) → CoordLawful (parts_in lists) (settled_of h.state 0)
log_lawful lists s h = alone_log (parts_in lists) (settled_of h.state 0) (alone_front (parts_in lists) 0 (settled_of h.state 0) (flight_of h.state 0) ((kept lists s h).stands.alone 0))

-- below the low watermark the settled entries are those of the opening, and none is in flight
pub below_settled : (lists : List (List CoreEntry)) (s : table.State ℕ View) (h : Holds lists s) (x p : ℕ) → x < low_in lists
    → (entries_of (txn x) (settled_of h.state p) ≡ entries_of (txn x) (list_in lists p)) × (entries_of (txn x) (flight_of h.state p) ≡ [])
below_settled lists s h x p lt =
    let b = begins_as lists s h p in
    let e : entries_of (txn x) ((list_in lists p ++ b.0) ++ flight_of h.state p) ≡ entries_of (txn x) (list_in lists p) = ap (λ l. entries_of (txn x) (l ++ flight_of h.state p)) b.1 ∙ h.settled_below x p lt in
    let c = cut_off (is_of (txn x)) (list_in lists p) b.0 (flight_of h.state p) e in (
      ap (entries_of (txn x)) (sym b.1) ∙ (filter-append (is_of (txn x)) (list_in lists p) b.0 ∙ (ap (λ l. entries_of (txn x) (list_in lists p) ++ l) c.0 ∙ append-nil (entries_of (txn x) (list_in lists p)))),
      c.1,
    )

-- one step more
reached_more : (lists : List (List CoreEntry)) (steps : List CoreStep) (state : CoreState) (st : CoreStep) → run (parts_in lists) steps (resting_core lists) ≡ state → can (parts_in lists) state st ≡ true
    → run (parts_in lists) (steps ++ st ∷ []) (resting_core lists) ≡ core_after state st
reached_more lists steps state st e c =
    run-append (parts_in lists) (resting_core lists) steps (st ∷ []) ∙ (ap (λ s. if can (parts_in lists) s st then core_after s st else s) e ∙ ap (λ b. if b then core_after state st else state) c)

-- ---- Loads.

pub loads_grow : (words words' : List ℕ) → ((place p : ℕ) → bit_at (slice_index words place) p ≤ bit_at (slice_index words' place) p) → (ls : List Load) → LoadsHold words ls → LoadsHold words' ls
loads_grow words words' grow [] h = tt
loads_grow words words' grow (l ∷ ls) h = (record { bits = λ p. omega (arith, h.0.bits p, grow l.place p) }, loads_grow words words' grow ls h.1)

pub loads_more : (words : List ℕ) (ls : List Load) (place : ℕ) → LoadsHold words ls → LoadsHold words (ls ++ record { place = place; value = slice_index words place } ∷ [])
loads_more words [] place h = (record { bits = λ p. omega arith }, tt)
loads_more words (l ∷ ls) place h = (h.0, loads_more words ls place h.1)

le_max : (a b : ℕ) → a ≤ max a b
le_max a b = omega arith

or_grows : (words : List ℕ) (i m : ℕ) → i < length words → (place p : ℕ) → bit_at (slice_index words place) p ≤ bit_at (slice_index (set words i (bit_or (slice_index words i) m)) place) p
or_grows words i m lt place p = go (ℕ_discrete place i)
  where
    go : Dec (place ≡ i) → bit_at (slice_index words place) p ≤ bit_at (slice_index (set words i (bit_or (slice_index words i) m)) place) p
    go (yes e) =
        subst (λ k. bit_at (slice_index words k) p ≤ bit_at (slice_index (set words i (bit_or (slice_index words i) m)) k) p) (sym e)
        (subst (λ k. bit_at (slice_index words i) p ≤ bit_at k p) (sym (get_or-set_same words i (bit_or (slice_index words i) m) 0 lt))
        (subst (λ k. bit_at (slice_index words i) p ≤ k) (sym (bit_at_or (slice_index words i) m p)) (le_max (bit_at (slice_index words i) p) (bit_at m p))))
    go (no n) = subst (λ k. bit_at (slice_index words place) p ≤ bit_at k p) (sym (get_or-set_other words i place (bit_or (slice_index words i) m) 0 n)) (omega arith)

pub marked_grows : (first count : ℕ) (m : Option Mark) (words : List ℕ) → length words ≡ 3 * count → (place p : ℕ) → bit_at (slice_index words place) p ≤ bit_at (slice_index (with_mark first count m words) place) p
marked_grows first count None words size place p = omega arith
marked_grows first count (Some m) words size place p = go (is_in first count m.txn) refl
  where
    go : (b : Bool) → is_in first count m.txn ≡ b → bit_at (slice_index words place) p ≤ bit_at (slice_index (if b then set_bit words (word_at first m.txn m.word) m.bit else words) place) p
    go true e = or_grows words (word_at first m.txn m.word) (2 ^ m.bit) (subst (λ n. word_at first m.txn m.word < n) (sym size) (place_within first count m.txn m.word (in_of first count m.txn e))) place p
    go false e = omega arith

-- ---- The rows of all views after one changed.

-- a row of another seat is another part's
rows_else : (s : CoreState) (owner : ℕ → ℕ) (id j p : ℕ) (x : CoreRow) (rs : List SeatRow) → owner p ≡ id → j ≢ id → AreSeatRows s owner j rs → AreSeatRows (with_row s p x) owner j rs
rows_else s owner id j p x [] mine apart f = tt
rows_else s owner id j p x (r ∷ rs) mine apart f =
    let m : r.part ≢ p = λ e. apart (sym f.0.0 ∙ (ap owner e ∙ mine)) in
    ((f.0.0, subst (λ n. r.part < n) (sym (length-set s.rows p x)) f.0.1, get_or-set_other s.rows p r.part x no_row m ∙ f.0.2), rows_else s owner id j p x rs mine apart f.1)

-- a fact of each view, after one changed
pub views_set : (P : ℕ → View → Type 0) (views : List View) (id : ℕ) (w : View) → P id w → ((j : ℕ) (u : View) → j ≢ id → get_elem? views j ≡ some u → P j u) → (j : ℕ) (u : View) → get_elem? (set views id w) j ≡ some u → P j u
views_set P views id w new old j u e =
    elim (at_set views id j w u e) [
      | inl t ↦ subst (λ k. P k u) (sym t.0) (subst (P id) t.1 new)
      | inr t ↦ old j u t.0 t.1
    ]

-- ---- The seats of the parts.

pub there_less : {A : Type 0} (l : List A) (i : ℕ) (a : A) → get_elem? l i ≡ some a → i < length l
there_less [] i a e = absurd (some-ne-none a (sym e))
there_less (x ∷ xs) zero a e = omega arith
there_less (x ∷ xs) (suc i) a e = let k = there_less xs i a e in omega (arith, k)

-- a view takes the place of one, and has the part if this had it
pub seat_set : (views : List View) (id : ℕ) (v w : View) → get_elem? views id ≡ some v → (i p : ℕ) → (HasSeatRow p v.rows → HasSeatRow p w.rows) → HasSeat views i p → HasSeat (set views id w) i p
seat_set views id v w at i p more k = go (ℕ_discrete i id)
  where
    go : Dec (i ≡ id) → HasSeat (set views id w) i p
    go (yes e) =
        record {
          view = w;
          there = ap (get_elem? (set views id w)) e ∙ set_here views id w (there_less views id v at);
          row = more (subst (λ (u : View). HasSeatRow p u.rows) (some-injective k.view v (sym k.there ∙ (ap (get_elem? views) e ∙ at))) k.row);
        }
    go (no n) = record { view = k.view; there = set_else views id i w n ∙ k.there; row = k.row }

-- what else a row keeps that takes the place of a seat's
pub record RowStays (lists : List (List CoreEntry)) (r : SeatRow) (row : CoreRow) : Type 0 where
  pub below : (x : ℕ) → x < low_in lists → entries_of (txn x) (row.settled ++ row.flight) ≡ entries_of (txn x) (r.row.settled ++ r.row.flight)
  pub fits : r.part ≡ 0 → count_new (row.settled ++ row.flight) ≤ low_in lists + window

module _ (lists : List (List CoreEntry)) (s : table.State ℕ View) (h : Holds lists s) (id : ℕ) (v : View) (seat : get_elem? s.views id ≡ some v) where
  -- no row changes, and the word i was loaded
  pub looks : (i : ℕ) → Holds lists (record { words = set s.words i (slice_index s.words i); homes = s.homes; views = set s.views id (loaded i (slice_index s.words i) v) })
  looks i =
      record {
        state = h.state;
        owner = h.owner;
        may = h.may;
        steps = h.steps;
        reached = h.reached;
        words = subst (λ ws. WordsSay (low_in lists) window ws (settled_of h.state)) (sym same) h.words;
        settled_below = h.settled_below;
        fits = h.fits;
        seated = λ p lt. seat_set s.views id v next seat (h.owner p) p (λ k. k) (h.seated p lt);
        rows = views_set (λ j u. AreSeatRows h.state h.owner j u.rows) s.views id next (h.rows id v seat) (λ j u away e. h.rows j u e);
        apart = views_set (λ j u. AreApart u.rows) s.views id next (h.apart id v seat) (λ j u away e. h.apart j u e);
        loads = subst (λ ws. (j : ℕ) (u : View) → get_elem? (set s.views id next) j ≡ some u → LoadsHold ws u.loads) (sym same)
            (views_set (λ j u. LoadsHold s.words u.loads) s.views id next (loads_more s.words v.loads i (h.loads id v seat)) (λ j u away e. h.loads j u e));
      }
    where
      same : set s.words i (slice_index s.words i) ≡ s.words
      same = set-get_or s.words i 0

      next : View
      next = loaded i (slice_index s.words i) v

  module _ (r : SeatRow) (is : v.rows ≡ r ∷ []) where
    pub mine : (h.owner r.part ≡ id) × (r.part < length h.state.rows) × (row_of h.state r.part ≡ r.row)
    mine = (subst (λ l. AreSeatRows h.state h.owner id l) is (h.rows id v seat)).0

    -- what the coordinator's row has begun, where it is this one
    pub row_fits : r.part ≡ 0 → count_new (r.row.settled ++ r.row.flight) ≤ low_in lists + window
    row_fits z = subst (λ (k : CoreRow). count_new (k.settled ++ k.flight) ≤ low_in lists + window) (ap (row_of h.state) (sym z) ∙ mine.2) h.fits

    pub row_changes : (st : CoreStep) → can (parts_in lists) h.state st ≡ true → (row : CoreRow) → RowStays lists r row → core_after h.state st ≡ with_row h.state r.part row
        → (next : View) → next.rows ≡ record { part = r.part; row = row } ∷ [] → (words : List ℕ) → WordsSay (low_in lists) window words (settled_of (with_row h.state r.part row))
        → ((ls : List Load) → LoadsHold s.words ls → LoadsHold words ls) → LoadsHold words next.loads
        → Holds lists (record { words = words; homes = s.homes; views = set s.views id next })
    row_changes st may row keep becomes next rows' words say old new =
        record {
          state = state';
          owner = h.owner;
          may = h.may;
          steps = h.steps ++ st ∷ [];
          reached = reached_more lists h.steps h.state st h.reached may ∙ becomes;
          words = say;
          settled_below = λ x p lt. below x p lt (ℕ_discrete p r.part);
          fits = log_fits (ℕ_discrete 0 r.part);
          seated = λ p lt. seat_set s.views id v next seat (h.owner p) p (λ k. subst (HasSeatRow p) (sym rows') (subst (HasSeatRow p) is k)) (h.seated p (subst (λ n. p < n) (length-set h.state.rows r.part row) lt));
          rows = views_set (λ j u. AreSeatRows state' h.owner j u.rows) s.views id next here (λ j u away e. rows_else h.state h.owner id j r.part row u.rows mine.0 away (h.rows j u e));
          apart = views_set (λ j u. AreApart u.rows) s.views id next (subst AreApart (sym rows') (tt, tt)) (λ j u away e. h.apart j u e);
          loads = views_set (λ j u. LoadsHold words u.loads) s.views id next new (λ j u away e. old u.loads (h.loads j u e));
        }
      where
        state' : CoreState
        state' = with_row h.state r.part row

        below : (x p : ℕ) → x < low_in lists → Dec (p ≡ r.part) → entries_of (txn x) (settled_of state' p ++ flight_of state' p) ≡ entries_of (txn x) (list_in lists p)
        below x p lt (yes e) =
            subst (λ q. entries_of (txn x) (settled_of state' q ++ flight_of state' q) ≡ entries_of (txn x) (list_in lists q)) (sym e)
            (ap (λ (k : CoreRow). entries_of (txn x) (k.settled ++ k.flight)) (get_or-set_same h.state.rows r.part row no_row mine.1)
            ∙ (keep.below x lt ∙ (sym (ap (λ (k : CoreRow). entries_of (txn x) (k.settled ++ k.flight)) mine.2) ∙ h.settled_below x r.part lt)))
        below x p lt (no m) = ap (λ (k : CoreRow). entries_of (txn x) (k.settled ++ k.flight)) (get_or-set_other h.state.rows r.part p row no_row m) ∙ h.settled_below x p lt

        log_fits : Dec (0 ≡ r.part) → count_new (settled_of state' 0 ++ flight_of state' 0) ≤ low_in lists + window
        log_fits (yes e) = subst (λ (k : CoreRow). count_new (k.settled ++ k.flight) ≤ low_in lists + window) (sym (ap (row_of state') e ∙ get_or-set_same h.state.rows r.part row no_row mine.1)) (keep.fits (sym e))
        log_fits (no m) = subst (λ (k : CoreRow). count_new (k.settled ++ k.flight) ≤ low_in lists + window) (sym (get_or-set_other h.state.rows r.part 0 row no_row m)) h.fits

        here : AreSeatRows state' h.owner id next.rows
        here =
            subst (λ l. AreSeatRows state' h.owner id l) (sym rows')
            ((mine.0, subst (λ n. r.part < n) (sym (length-set h.state.rows r.part row)) mine.1, get_or-set_same h.state.rows r.part row no_row mine.1), tt)

    -- the settled list of the row is as it was, and the word i was loaded
    pub row_stays : (st : CoreStep) → can (parts_in lists) h.state st ≡ true → (row : CoreRow) → RowStays lists r row → core_after h.state st ≡ with_row h.state r.part row → row.settled ≡ r.row.settled
        → (next : View) → next.rows ≡ record { part = r.part; row = row } ∷ [] → (i : ℕ) → next.loads ≡ v.loads ++ record { place = i; value = slice_index s.words i } ∷ []
        → Holds lists (record { words = set s.words i (slice_index s.words i); homes = s.homes; views = set s.views id next })
    row_stays st may row keep becomes list next rows' i loads' =
        row_changes st may row keep becomes next rows' (set s.words i (slice_index s.words i))
        (subst (λ ws. WordsSay (low_in lists) window ws (settled_of (with_row h.state r.part row))) (sym same) (subst (WordsSay (low_in lists) window s.words) (λ j q. sym (lists_same q) j) h.words))
        (subst (λ ws. (ls : List Load) → LoadsHold s.words ls → LoadsHold ws ls) (sym same) (λ ls k. k))
        (subst (λ ws. LoadsHold ws next.loads) (sym same) (subst (LoadsHold s.words) (sym loads') (loads_more s.words v.loads i (h.loads id v seat))))
      where
        same : set s.words i (slice_index s.words i) ≡ s.words
        same = set-get_or s.words i 0

        lists_same : (q : ℕ) → settled_of (with_row h.state r.part row) q ≡ settled_of h.state q
        lists_same q = go (ℕ_discrete q r.part)
          where
            go : Dec (q ≡ r.part) → settled_of (with_row h.state r.part row) q ≡ settled_of h.state q
            go (yes e) =
                subst (λ k. settled_of (with_row h.state r.part row) k ≡ settled_of h.state k) (sym e)
                (ap (λ (x : CoreRow). x.settled) (get_or-set_same h.state.rows r.part row no_row mine.1) ∙ (list ∙ sym (ap (λ (x : CoreRow). x.settled) mine.2)))
            go (no m) = ap (λ (x : CoreRow). x.settled) (get_or-set_other h.state.rows r.part q row no_row m)

-- ---- Loads, whatever is promised.

pub load_in : (words : List ℕ) (ls : List Load) (l : Load) (p k : ℕ) → LoadsHold words ls → k < length ls → get_or ls k l ≡ l → bit_at l.value p ≤ bit_at (slice_index words l.place) p
load_in words [] l p k h lt e = absurd (omega (arith, lt))
load_in words (m ∷ ls) l p zero h lt e = subst (λ (t : Load). bit_at t.value p ≤ bit_at (slice_index words t.place) p) e (h.0.bits p)
load_in words (m ∷ ls) l p (suc k) h lt e = load_in words ls l p k h.1 (omega (arith, lt)) e

-- what stands at a place shows each bit that a load of it showed
pub shows_on : (words : List ℕ) (ls : List Load) (place : ℕ) → LoadsHold words ls → ShowsOn place (slice_index words place) ls
shows_on words ls place h l k e p = subst (λ i. bit_at l.value p ≤ bit_at (slice_index words i) p) e (load_in words ls l p k.0 h k.1 k.2)

-- at a load
pub load_keeps : (id : ℕ) (v : View) (i : ℕ) (next : ℕ → View) → ((n : ℕ) → (next n).loads ≡ v.loads ++ record { place = i; value = n } ∷ []) → AllowsTo KeepLoads id v i (λ n. n) next
load_keeps id v i next is =
    λ s h seat. subst (λ ws. (j : ℕ) (u : View) → get_elem? (set s.views id (next (slice_index s.words i))) j ≡ some u → LoadsHold ws u.loads) (sym (set-get_or s.words i 0))
    (views_set (λ j u. LoadsHold s.words u.loads) s.views id (next (slice_index s.words i)) (subst (LoadsHold s.words) (sym (is (slice_index s.words i))) (loads_more s.words v.loads i (h id v seat))) (λ j u away e. h j u e))

-- bits that are set wherever there is a word
any_or_grows : (words : List ℕ) (i m place p : ℕ) → bit_at (slice_index words place) p ≤ bit_at (slice_index (set words i (bit_or (slice_index words i) m)) place) p
any_or_grows words i m place p = go (dec_lt i (length words)) (ℕ_discrete place i)
  where
    new : ℕ
    new = bit_or (slice_index words i) m

    go : Dec (i < length words) → Dec (place ≡ i) → bit_at (slice_index words place) p ≤ bit_at (slice_index (set words i new) place) p
    go (yes lt) d = or_grows words i m lt place p
    go (no n) (no away) = subst (λ k. bit_at (slice_index words place) p ≤ bit_at k p) (sym (get_or-set_other words i place new 0 away)) (omega arith)
    go (no n) (yes e) =
        subst (λ k. bit_at k p ≤ bit_at (slice_index (set words i new) place) p) (sym (get_or_past words place 0 (omega (arith, n, e))))
        (subst (λ k. bit_at 0 p ≤ bit_at k p) (sym (get_or_past (set words i new) place 0 (omega (arith, n, e, length-set words i new)))) (omega arith))

-- at a step that sets bits and leaves the seat's loads
pub or_keeps : (id : ℕ) (v : View) (i m : ℕ) (next : View) → next.loads ≡ v.loads → AllowsTo KeepLoads id v i (λ n. bit_or n m) (λ n. next)
or_keeps id v i m next is =
    λ s h seat. views_set (λ j u. LoadsHold (set s.words i (bit_or (slice_index s.words i) m)) u.loads) s.views id next
    (loads_grow s.words (set s.words i (bit_or (slice_index s.words i) m)) (any_or_grows s.words i m) next.loads (subst (LoadsHold s.words) (sym is) (h id v seat)))
    (λ j u away e. loads_grow s.words (set s.words i (bit_or (slice_index s.words i) m)) (any_or_grows s.words i m) u.loads (h j u e))

-- ---- Steps whose next view is told, under a promise.

-- at a settle, before and after which the rule held of a board
pub guarded_settled : (φ : Type 0) (key lists : List (List CoreEntry)) → key ≡ lists → (slots id : ℕ) (me : View × List (ℕ × ℕ)) (i : ℕ) (f : ℕ → ℕ) → AllowsTo KeepLoads id me.0 i f (λ n. settle_view me.0)
    → (φ → AllowsTo (Holds lists) id me.0 i f (λ n. settle_view me.0)) → Allows (λ s. KeepLoads s × (φ → Holds key s)) slots id me i f (λ n w. Settled φ lists me.0 w.0 × (w.1 ≡ me.1))
guarded_settled φ key lists same slots id me i f loads allows =
    λ s h len seat fits.
    let next : View = settle_view me.0 in
    let now : table.State ℕ View = record { words = set s.words i (f (slice_index s.words i)); homes = s.homes; views = set s.views id next } in
    let before : φ → Holds lists s = λ p. subst (λ (k : List (List CoreEntry)). Holds k s) same (h.1 p) in
    let after : φ → Holds lists now = λ p. allows p s (before p) seat in (
      next,
      keeps,
      tt,
      (loads s h.0 seat, λ p. subst (λ (k : List (List CoreEntry)). Holds k now) (sym same) (after p)),
      (
        record {
          view = refl;
          from = λ p. record { board = s; seat = id; rule = before p; view = seat };
          to = λ p. record { board = now; seat = id; rule = after p; view = set_here s.views id next (there_less s.views id me.0 seat) };
        },
        refl,
      ),
    )

-- at a load, which shows what stood at its place
pub guarded_found : (φ : Type 0) (key lists : List (List CoreEntry)) → key ≡ lists → (slots id : ℕ) (me : View × List (ℕ × ℕ)) (i : ℕ) (next : ℕ → View) → ((n : ℕ) → (next n).loads ≡ me.0.loads ++ record { place = i; value = n } ∷ [])
    → (φ → AllowsTo (Holds lists) id me.0 i (λ n. n) next)
    → Allows (λ s. KeepLoads s × (φ → Holds key s)) slots id me i (λ n. n) (λ n w. (w ≡ (next n, me.1)) × (φ → Found lists i n me.0) × ShowsOn i n me.0.loads)
guarded_found φ key lists same slots id me i next is allows =
    λ s h len seat fits. (
      next (slice_index s.words i),
      keeps,
      tt,
      (
        load_keeps id me.0 i next is s h.0 seat,
        λ p. subst (λ (k : List (List CoreEntry)). Holds k (record { words = set s.words i (slice_index s.words i); homes = s.homes; views = set s.views id (next (slice_index s.words i)) })) (sym same) (allows p s (subst (λ (k : List (List CoreEntry)). Holds k s) same (h.1 p)) seat),
      ),
      (refl, (λ p. record { board = s; seat = id; rule = subst (λ (k : List (List CoreEntry)). Holds k s) same (h.1 p); view = seat; stood = refl }), shows_on s.words me.0.loads i (h.0 id me.0 seat)),
    )
