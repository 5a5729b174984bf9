-- The rule as sentences, and which status lies in the window.
use Rattle.std.proofs.Common.{◌≡◌, ◌⊎◌, inl, inr, ℕ, zero, suc, ◌+◌, ◌<◌, ◌≤◌, arith, ◌==◌, Bool, true, false, ◌&&◌, if◌then◌else◌, List, [], ◌∷◌, length, get_or, set, replicate, Some, None, refl, sym, ap, ◌∙◌, subst}
use Rattle.std.specs.Prelude.{Contains, slice_index, unwrap_or, nat_le, nat_lt}
use Rattle.std.specs.Int.{bit_at}
use Rattle.std.specs.List.{list_any, list_all}
use Rattle.std.proofs.lemmas.Bool.{lt-ltb, le-ltb}
use Rattle.std.proofs.lemmas.List.{length-replicate, get_or-set_same}
use Rattle.std.proofs.lemmas.Nat.Bits.{bit_at-zero}
use mathlib.Core.Option.{some}
use lib.ListN.{get_elem?}
use native.Mathlib.Decide.{dec_lt}
use Rattle.atomic_table.specs.Table as table
use Rattle.txn_base.specs.declared.txn.Status.{Status}
use Rattle.txn_base.specs.declared.core_entry.CoreEntry.{CoreEntry}
use Rattle.txn_base.specs.declared.core_entry.CoreEntry.TheVariants as core
use Rattle.txn_base.specs.declared.txn.Decision.{Decision}
use Rattle.txn_base.specs.declared.txn.Status.TheVariants.{Open}
use Rattle.txn_model.specs.Words.{last_of}
use Rattle.txn_model.specs.Coord.{has_new, says_status, status_of, count_new, closing_skeleton}
use Rattle.txn_model.specs.Deadlines.{txn, is_closed}
use Rattle.txn_model.proofs.Laws.Tests.{no_true, and_l}
use Rattle.txn_core.specs.declared.step.CoreRow.{CoreRow}
use Rattle.txn_core.specs.declared.step.CoreStep.TheVariants as act
use Rattle.txn_core.specs.Together.{AreLawful}
use Rattle.txn_core.specs.Steps.{CoreState, no_row, row_of, settled_of, start_row, settle_row, stop_row, may_cross}
use Rattle.txn_board.specs.declared.view.SeatRow.{SeatRow}
use Rattle.txn_board.specs.declared.view.Load.{Load}
use Rattle.txn_board.specs.declared.view.View.{View}
use Rattle.txn_board.specs.declared.words.Word.{Word}
use Rattle.txn_board.specs.declared.words.Word.TheVariants.{Registered, Decided, Done}
use Rattle.txn_board.specs.Words.{window, IsIn, is_in, word_at, as_bit, is_bit_set, tells, has_closing}
use Rattle.txn_board.specs.Rows.{parts_in, list_in, low_in, AreSeatRows, with_row_by, settle_view, drop_view, start_view, loaded}
use Rattle.txn_board.specs.Rule.{CanOpenBoard, HasSeat, Holds, StepsTo, IsUnclosed, SameBits, DecisionsAreWhole}
use Rattle.txn_board.specs.Calls.{IsSettling, MayDrop, MayStart, MayStartIn, MayMark, MayClose, start_where, closing_by, closing_in, first_missing, StartsInside, StartsMarker, StartsClosing}
use Rattle.txn_board.specs.Seen.{last_value, bit_seen, status_by, decision_by, status_told, ReadsStatus}
use Rattle.txn_board.proofs.Steps.{log_lawful, load_in, mine}
use Rattle.txn_board.proofs.Seating.{rows_of}
use Rattle.txn_board.proofs.Settling.{may_settle, may_lose}
use Rattle.txn_board.proofs.Startings.{can_start, inside_allowed, marker_allowed}
use Rattle.txn_board.proofs.Closings.{closing_allowed}
use Rattle.txn_board.proofs.Watermark.{closed_below, closed_is, closing_is}
use Rattle.txn_board.proofs.Meanings.{status_is, one_decision}
use Rattle.txn_board.proofs.Telling.{logged_below, below_same, status_bits, no_loads}

-- ---- Rows and loads.

row_in : (c : CoreState) (owner : ℕ → ℕ) (id : ℕ) (rs : List SeatRow) (r : SeatRow) (k : ℕ) → AreSeatRows c owner id rs → k < length rs → get_or rs k r ≡ r → (r.part < length c.rows) × (row_of c r.part ≡ r.row)
row_in c owner id [] r k f lt e = absurd (omega (arith, lt))
row_in c owner id (q ∷ rs) r zero f lt e = subst (λ (t : SeatRow). (t.part < length c.rows) × (row_of c t.part ≡ t.row)) e (f.0.1, f.0.2)
row_in c owner id (q ∷ rs) r (suc k) f lt e = row_in c owner id rs r k f.1 (omega (arith, lt)) e

pub rows_are : (lists : List (List CoreEntry)) (s : table.State ℕ View) (h : Holds lists s) (id : ℕ) (v : View) (r : SeatRow) → get_elem? s.views id ≡ some v → Contains v.rows r → (r.part < length lists) × (row_of h.state r.part ≡ r.row)
rows_are lists s h id v r seat k = let f = row_in h.state h.owner id v.rows r k.0 (h.rows id v seat) k.1 k.2 in (subst (λ n. r.part < n) (rows_of lists s h) f.0, f.1)

pub seated_all : (lists : List (List CoreEntry)) (s : table.State ℕ View) (h : Holds lists s) (p : ℕ) → p < length lists → (id : ℕ) × HasSeat s.views id p
seated_all lists s h p lt = (h.owner p, h.seated p (subst (λ n. p < n) (sym (rows_of lists s h)) lt))

pub loads_stay : (lists : List (List CoreEntry)) (s : table.State ℕ View) (h : Holds lists s) (id p : ℕ) (v : View) (l : Load) → get_elem? s.views id ≡ some v → Contains v.loads l → bit_at l.value p ≤ bit_at (slice_index s.words l.place) p
loads_stay lists s h id p v l seat k = load_in s.words v.loads l p k.0 (h.loads id v seat) k.1 k.2

pub two_bits : (lists : List (List CoreEntry)) (s : table.State ℕ View) (h : Holds lists s) (x p : ℕ) → IsIn (low_in lists) window x → 2 ≤ p → p < 64 → bit_at (slice_index s.words (word_at (low_in lists) x Decided)) p ≡ 0
two_bits lists s h x zero inside low small = absurd (omega (arith, low))
two_bits lists s h x (suc zero) inside low small = absurd (omega (arith, low))
two_bits lists s h x (suc (suc p)) inside low small = h.words.bits x Decided (suc (suc p)) inside small ∙ ap as_bit (none (settled_of h.state 0))
  where
    none : (es : List CoreEntry) → list_any (λ e. false) es ≡ false
    none [] = refl
    none (e ∷ es) = none es

-- of two bits of which one is set at most, with those that a load showed
one_of : (a b : Bool) → (b ≡ true → a ≡ false) → as_bit a + as_bit b ≤ 1
one_of true true h = absurd (no_true (sym (h refl)))
one_of true false h = omega arith
one_of false true h = omega arith
one_of false false h = omega arith

-- a load of a decision word showed nothing, or what stands there now
pub whole : (lists : List (List CoreEntry)) (s : table.State ℕ View) (h : Holds lists s) → DecisionsAreWhole lists s
whole lists s h id x v l seat k inside e = go (dec_lt 0 (bit_at l.value 0)) (dec_lt 0 (bit_at l.value 1))
  where
    now : ℕ
    now = slice_index s.words l.place

    grows : (p : ℕ) → bit_at l.value p ≤ bit_at now p
    grows p = loads_stay lists s h id p v l seat k

    rest : (p : ℕ) → p < 62 → bit_at now (suc (suc p)) ≡ 0
    rest p small = ap (λ i. bit_at (slice_index s.words i) (suc (suc p))) e ∙ two_bits lists s h x (suc (suc p)) inside (omega arith) (omega (arith, small))

    bit : (p : ℕ) → p < 64 → bit_at now p ≡ as_bit (tells (settled_of h.state) (txn x) Decided p)
    bit p small = ap (λ i. bit_at (slice_index s.words i) p) e ∙ h.words.bits x Decided p inside small

    one : bit_at now 0 + bit_at now 1 ≤ 1
    one =
        let a = bit 0 (omega arith) in
        let b = bit 1 (omega arith) in
        let c = one_of (tells (settled_of h.state) (txn x) Decided 0) (tells (settled_of h.state) (txn x) Decided 1) (one_decision (parts_in lists) (settled_of h.state) (txn x) (log_lawful lists s h)) in
        omega (arith, a, b, c)

    none : (bit_at l.value 0 ≡ 0) → (bit_at l.value 1 ≡ 0) → SameBits l.value 0
    none a b zero small = a ∙ sym (bit_at-zero 0)
    none a b (suc zero) small = b ∙ sym (bit_at-zero 1)
    none a b (suc (suc p)) small = let g = grows (suc (suc p)) in let r = rest p (omega (arith, small)) in let z = bit_at-zero (suc (suc p)) in omega (arith, g, r, z)

    all : 0 < bit_at l.value 0 + bit_at l.value 1 → SameBits l.value now
    all any zero small = let f = grows 0 in let g = grows 1 in omega (arith, any, f, g, one)
    all any (suc zero) small = let f = grows 0 in let g = grows 1 in omega (arith, any, f, g, one)
    all any (suc (suc p)) small = let g = grows (suc (suc p)) in let r = rest p (omega (arith, small)) in omega (arith, g, r)

    go : Dec (0 < bit_at l.value 0) → Dec (0 < bit_at l.value 1) → SameBits l.value 0 ⊎ SameBits l.value now
    go (yes a) d = inr (all (omega (arith, a)))
    go (no n) (yes b) = inr (all (omega (arith, b)))
    go (no n) (no m) = inl (none (omega (arith, n)) (omega (arith, m)))

-- ---- Which status lies in the window.

-- the lists that a board is opened with close each transaction below the low watermark
low_closed : (lists : List (List CoreEntry)) → CanOpenBoard lists → (x : ℕ) → x < low_in lists → is_closed (status_of (list_in lists 0) (txn x)) ≡ true
low_closed lists may x lt = closed_is (parts_in lists) (list_in lists 0) (txn x) (may.lawful.alone 0) ∙ (sym (closing_is (list_in lists 0) x) ∙ closed_below (list_in lists 0) x lt)

-- a transaction that has a status and isn't closed lies in the window
pub open_within : (lists : List (List CoreEntry)) (s : table.State ℕ View) (h : Holds lists s) (x : ℕ) (st : Status) → status_of (settled_of h.state 0) (txn x) ≡ Some st → IsUnclosed st → IsIn (low_in lists) window x
open_within lists s h x st is unclosed = record { least = above (dec_lt x (low_in lists)); most = logged_below lists s h x Registered 0 (begun (has_new (settled_of h.state 0) (txn x)) refl is) }
  where
    begun : (b : Bool) → has_new (settled_of h.state 0) (txn x) ≡ b → status_of (settled_of h.state 0) (txn x) ≡ Some st → has_new (settled_of h.state 0) (txn x) ≡ true
    begun true e k = e
    begun false e k = absurd (cc (sym (ap (λ b. if b then Some (unwrap_or (last_of (says_status (txn x)) (settled_of h.state 0)) Open) else None) e) ∙ k))

    above : Dec (x < low_in lists) → low_in lists ≤ x
    above (no n) = omega (arith, n)
    above (yes lt) =
        let same : has_closing (settled_of h.state 0) x ≡ has_closing (list_in lists 0) x = below_same lists s h x Done 0 lt in
        let closed : is_closed (status_of (settled_of h.state 0) (txn x)) ≡ true = closed_is (parts_in lists) (settled_of h.state 0) (txn x) (log_lawful lists s h) ∙ (sym (closing_is (settled_of h.state 0) x) ∙ (same ∙ closed_below (list_in lists 0) x lt)) in
        absurd (no_true (sym unclosed ∙ (sym (ap is_closed is) ∙ closed)))

-- so does one of which a reader is told such a status
pub told_within : (made : Type 0) (lists : List (List CoreEntry)) (x : ℕ) (st : Status) (loads : List Load) (v w : View) → CanOpenBoard lists → ReadsStatus made lists x (Some st) loads v w → IsUnclosed st → IsIn (low_in lists) window x
told_within made lists x st loads v w may r unclosed = go (dec_lt x (low_in lists)) (dec_lt x (low_in lists + window))
  where
    go : Dec (x < low_in lists) → Dec (x < low_in lists + window) → IsIn (low_in lists) window x
    go (no n) (yes lt) = record { least = omega (arith, n); most = lt }
    go (yes lt) d =
        let bits : (u : Word) (p : ℕ) → bit_seen lists loads x u p ≡ tells (list_in lists) (txn x) u p = λ u p. ap (λ t. if t then tells (list_in lists) (txn x) u p else is_bit_set (last_value 0 loads (word_at (low_in lists) x u)) p) (lt-ltb x (low_in lists) lt) in
        let told : Some st ≡ status_told (list_in lists) (txn x) =
        r.is ∙ status_bits (bits Registered 0) (bits Decided 0) (bits Decided 1) (bits Done 0) in
        absurd (no_true (sym unclosed ∙ (ap is_closed (told ∙ status_is (parts_in lists) (list_in lists) (txn x) (may.lawful.alone 0)) ∙ low_closed lists may x lt)))
    go (no n) (no m) =
        let none : loads ≡ [] = no_loads lists x _ loads (outside n m) r.reads.places in
        let begun : bit_seen lists loads x Registered 0 ≡ false =
        ap (λ t. if t then tells (list_in lists) (txn x) Registered 0 else is_bit_set (last_value 0 loads (word_at (low_in lists) x Registered)) 0) (le-ltb x (low_in lists) (omega (arith, n)))
        ∙ (ap (λ ls. is_bit_set (last_value 0 ls (word_at (low_in lists) x Registered)) 0) none ∙ ap (λ k. k == 1) (bit_at-zero 0)) in
        absurd (cc (r.is ∙ ap (λ t. status_by t (bit_seen lists loads x Decided 0) (bit_seen lists loads x Decided 1) (bit_seen lists loads x Done 0)) begun))
      where
        outside : (x < low_in lists → ⊥) → (x < low_in lists + window → ⊥) → is_in (low_in lists) window x ≡ false
        outside n m = ap (λ b. nat_le (low_in lists) x && b) (le-ltb x (low_in lists + window) (omega (arith, m))) ∙ off (nat_le (low_in lists) x)
          where
            off : (b : Bool) → (b && false) ≡ false
            off true = refl
            off false = refl

-- ---- Rows change by steps of the core.

stepped : (lists : List (List CoreEntry)) (s : table.State ℕ View) (h : Holds lists s) (id : ℕ) (v : View) (seat : get_elem? s.views id ≡ some v) (r : SeatRow) → v.rows ≡ r ∷ [] → (f : CoreRow → CoreRow)
    → with_row_by f v.rows ≡ record { part = r.part; row = get_or (set h.state.rows r.part (f (row_of h.state r.part))) r.part no_row } ∷ []
stepped lists s h id v seat r is f =
    let its = mine lists s h id v seat r is in
    ap (with_row_by f) is ∙ ap (λ (k : CoreRow). (record { part = r.part; row = k }) ∷ []) (sym (get_or-set_same h.state.rows r.part (f (row_of h.state r.part)) no_row its.1 ∙ ap f its.2))

module _ (lists : List (List CoreEntry)) (s : table.State ℕ View) (h : Holds lists s) (id : ℕ) (v : View) (seat : get_elem? s.views id ≡ some v) where
  pub settles_by : (part : ℕ) (e : CoreEntry) → IsSettling part e v → StepsTo (parts_in lists) h.state (act.Settle part) part (settle_view v)
  settles_by part e k = let r : SeatRow = record { part = part; row = k.row } in record { allowed = may_settle lists s h id v seat r k.one e k.rest k.first; row = stepped lists s h id v seat r k.one settle_row }

  pub drops_by : (m : MayDrop v) → StepsTo (parts_in lists) h.state (act.Stop m.row.part false) m.row.part (drop_view v)
  drops_by m = record { allowed = may_lose lists s h id v seat m.row m.one m.entry m.rest m.first m.unsure; row = stepped lists s h id v seat m.row m.one (stop_row false) }

  pub starts_by : (es : List CoreEntry) (m : MayStart (parts_in lists) es v) → list_all (may_cross (settled_of h.state) m.row.part) es ≡ true → StepsTo (parts_in lists) h.state (act.Start m.row.part es) m.row.part (start_view es v)
  starts_by es m cross = record { allowed = can_start lists s h id v seat es m cross; row = stepped lists s h id v seat m.row m.one (start_row es) }

-- ---- Starts that load words of their transaction are steps of the core at their last load.

start_rows : (es : List CoreEntry) (v : View) → nat_le 1 (length es) ≡ true → (start_where es v).rows ≡ (start_view es v).rows
start_rows [] v h = absurd (no_true h)
start_rows (e ∷ es) v h = refl

-- of a view that a start made, by what the starting view shows
start_by : (lists : List (List CoreEntry)) (s : table.State ℕ View) (h : Holds lists s) (id : ℕ) (v : View) (seat : get_elem? s.views id ≡ some v) (es : List CoreEntry) (m : MayStart (parts_in lists) es v)
    → list_all (may_cross (settled_of h.state) m.row.part) es ≡ true → (w : View) → w.rows ≡ (start_where es v).rows → StepsTo (parts_in lists) h.state (act.Start m.row.part es) m.row.part w
start_by lists s h id v seat es m cross w rows =
    let k = starts_by lists s h id v seat es m cross in
    record { allowed = k.allowed; row = rows ∙ (start_rows es v (and_l (nat_le 1 (length es)) (nat_le (length es) (if m.row.part == 0 then 1 else 64)) m.batch) ∙ k.row) }

module _ (made : Type 0) (lists : List (List CoreEntry)) (x : ℕ) where
  pub inside_by : (count n : ℕ) (v w : View) (k : StartsInside made lists x count n true v w) (p : made) (m : MayStartIn (parts_in lists) x count v) → IsIn (low_in lists) window x
      → StepsTo (parts_in lists) (k.starts.found p).rule.state (act.Start m.may.row.part (replicate count (core.Inside (txn x)))) m.may.row.part w
  inside_by count n v w k p m inside =
      let f = k.starts.found p in
      start_by lists f.board f.rule f.seat v f.view (replicate count (core.Inside (txn x))) m.may
      (inside_allowed lists f.board f.rule (word_at (low_in lists) x Registered) x count m.may.row.part inside refl m.part (ap (λ j. nat_lt m.may.row.part 64 && is_bit_set j m.may.row.part) f.stood ∙ sym (k.is m.may.row m.may.one))) w
      (ap (λ (u : View). u.rows) k.starts.view)

  pub marker_by : (n : ℕ) (d : Decision) (v w : View) (k : StartsMarker made lists x n (Some d) v w) (p : made) (m : MayMark (parts_in lists) x v) → IsIn (low_in lists) window x
      → StepsTo (parts_in lists) (k.starts.found p).rule.state (act.Start (m d).row.part (core.Marker (txn x) d ∷ [])) (m d).row.part w
  marker_by n d v w k p m inside =
      let f = k.starts.found p in
      start_by lists f.board f.rule f.seat v f.view (core.Marker (txn x) d ∷ []) (m d)
      (marker_allowed lists f.board f.rule (word_at (low_in lists) x Decided) x (m d).row.part d inside refl (ap (λ j. decision_by (is_bit_set j 0) (is_bit_set j 1)) f.stood ∙ sym k.is)) w
      (ap (λ (u : View). u.rows) k.starts.view)

  pub close_by : (reg done : ℕ) (v w : View) (k : StartsClosing made lists x reg done None v w) (p : made) (m : MayClose (parts_in lists) x v) → IsIn (low_in lists) window x
      → StepsTo (parts_in lists) (k.starts.found p).rule.state (act.Start 0 (closing_skeleton (txn x) m.decision ∷ [])) 0 w
  close_by reg done v w k p m inside =
      let f = k.starts.found p in
      let u = loaded (word_at (low_in lists) x Registered) reg v in
      let may : MayStart (parts_in lists) (closing_skeleton (txn x) m.decision ∷ []) u =
      record { row = m.may.row; one = m.may.one; resting = m.may.resting; batch = m.may.batch; alone = m.may.alone } in
      let s : StepsTo (parts_in lists) f.rule.state (act.Start m.may.row.part (closing_skeleton (txn x) m.decision ∷ [])) m.may.row.part w =
      start_by lists f.board f.rule f.seat u f.view (closing_skeleton (txn x) m.decision ∷ []) may
      (closing_allowed lists f.board f.rule f.seat u f.view x reg m.may.row m.decision inside m.may.one m.first m.decided (k.of_row p) (ap (first_missing reg) f.stood ∙ sym k.least)) w
      (ap (λ (t : View). t.rows) k.starts.view ∙ ap (λ (es : List CoreEntry). (start_where es u).rows) (ap (λ rs. closing_in rs x) m.may.one ∙ ap (λ o. closing_by o x) m.decided)) in
      subst (λ q. StepsTo (parts_in lists) f.rule.state (act.Start q (closing_skeleton (txn x) m.decision ∷ [])) q w) m.first s

-- ---- Boards that can be opened.

blank_in : (k p : ℕ) → list_in (replicate k []) p ≡ []
blank_in zero p = refl
blank_in (suc k) zero = refl
blank_in (suc k) (suc p) = blank_in k p

blank_lawful : (n : ℕ) → AreLawful n (λ p. [])
blank_lawful n =
    record {
      alone = λ p. refl;
      registered = λ p x k. absurd (no_true k);
      decided = λ p x d k. absurd (cc k);
      closed = λ x d p k i. absurd (cc k);
    }

pub blank_opens : (n : ℕ) → n ≤ 62 → CanOpenBoard (replicate (n + 1) [])
blank_opens n few =
    let count : parts_in (replicate (n + 1) []) ≡ n = omega (arith, length-replicate {A = List CoreEntry} (n + 1) []) in
    record {
      few = subst (λ k. k ≤ 62) (sym count) few;
      lawful = subst (AreLawful (parts_in (replicate (n + 1) []))) (λ i p. sym (blank_in (n + 1) p) i) (blank_lawful (parts_in (replicate (n + 1) [])));
      fits = subst (λ l. count_new l ≤ low_in (replicate (n + 1) []) + window) (sym (blank_in (n + 1) 0)) (omega arith);
    }
