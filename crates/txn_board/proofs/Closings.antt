-- The coordinator starts a closing.
use Rattle.std.proofs.Common.{◌≡◌, ℕ, zero, suc, ◌+◌, ◌-◌, ◌==◌, ◌<◌, ◌≤◌, arith, Bool, true, false, not, ◌&&◌, ◌||◌, if◌then◌else◌, List, [], ◌∷◌, ◌++◌, Option, Some, None, refl, sym, ap, ◌∙◌, subst}
use Rattle.std.specs.Prelude.{slice_index, filter, find, is_some}
use Rattle.std.specs.List.{list_all, list_any}
use Rattle.std.specs.Option.{option_or}
use mathlib.Core.Option.{some}
use lib.ListN.{get_elem?}
use native.Mathlib.Decide.{ℕ_discrete}
use Rattle.atomic_table.specs.Table as table
use Rattle.txn_base.specs.declared.txn.TxnId.{TxnId}
use Rattle.txn_base.specs.declared.txn.Decision.{Decision}
use Rattle.txn_base.specs.declared.txn.Decision.TheVariants.{Commit, Abort}
use Rattle.txn_base.specs.declared.core_entry.CoreEntry.{CoreEntry}
use Rattle.txn_model.specs.Words.{numbers_from}
use Rattle.txn_model.specs.Coord.{decision_of, in_parts, count_new, closing_skeleton}
use Rattle.txn_model.specs.Topic.{marks, marker_of}
use Rattle.txn_model.specs.Deadlines.{txn}
use Rattle.txn_model.proofs.Laws.Tests.{no_true, and_both}
use Rattle.txn_model.proofs.Laws.Lists.{first_of-append}
use Rattle.txn_core.specs.declared.step.CoreRow.{CoreRow}
use Rattle.txn_core.specs.Steps.{settled_of, flight_of, is_decision, is_marked, may_cross}
use Rattle.txn_core.proofs.Laws.{decision_test}
use Rattle.txn_board.specs.declared.view.SeatRow.{SeatRow}
use Rattle.txn_board.specs.declared.view.View.{View}
use Rattle.txn_board.specs.declared.words.RowStep.TheVariants as turn
use Rattle.txn_board.specs.declared.words.Word.{Word}
use Rattle.txn_board.specs.declared.words.Word.TheVariants.{Registered, Done}
use Rattle.txn_board.specs.Words.{window, IsIn, word_at, as_bit, is_bit_set, ends, sets, teller, tells, entries_of}
use Rattle.txn_board.specs.Rows.{parts_in, low_in, loaded}
use Rattle.txn_board.specs.Rule.{Holds, AllowsTo, Found, ShowsOn}
use Rattle.txn_board.specs.Calls.{MayStart, MayClose, IsOfRow, first_missing, closing_by, closing_in, closing_where, start_where, row_step, StartsClosing}
use Rattle.txn_board.proofs.Entries.{none_one}
use Rattle.txn_board.proofs.Startings.{StartFits, below_none, no_begin, start_at, bit_true}
use Rattle.txn_board.proofs.Steps.{kept, mine}

-- ---- The first part that is missing.

-- from the part p on, of so many, the first whose bit is in the one word and not in the other
abbrev pub missing_from : ℕ → ℕ → ℕ → ℕ → Option ℕ
missing_from reg done zero p = None
missing_from reg done (suc left) p = if is_bit_set reg p && not (is_bit_set done p) then Some p else missing_from reg done left (p + 1)

missing_find : (reg done left p : ℕ) → missing_from reg done left p ≡ find (λ q. is_bit_set reg q && not (is_bit_set done q)) (numbers_from p left)
missing_find reg done zero p = refl
missing_find reg done (suc left) p = ap (λ o. if is_bit_set reg p && not (is_bit_set done p) then Some p else o) (ap (missing_from reg done left) more ∙ missing_find reg done left (suc p))
  where
    more : p + 1 ≡ suc p
    more = omega arith

pub missing_is : (reg done : ℕ) → missing_from reg done 63 1 ≡ first_missing reg done
missing_is reg done = missing_find reg done 63 1

none_missing : (reg done left p : ℕ) → missing_from reg done left p ≡ None → (q : ℕ) → p ≤ q → q < p + left → is_bit_set reg q ≡ true → is_bit_set done q ≡ true
none_missing reg done zero p e q low high h = absurd (omega (arith, low, high))
none_missing reg done (suc left) p e q low high h = go (is_bit_set reg p && not (is_bit_set done p)) refl e (λ k l r. none_missing reg done left (p + 1) k q l r h)
  where
    here : (a b : Bool) → (a && not b) ≡ false → a ≡ true → b ≡ true
    here true true f g = refl
    here true false f g = absurd (no_true (sym f))
    here false b f g = absurd (no_true g)

    go : (t : Bool) → (is_bit_set reg p && not (is_bit_set done p)) ≡ t → (if t then Some p else missing_from reg done left (p + 1)) ≡ None → (missing_from reg done left (p + 1) ≡ None → p + 1 ≤ q → q < p + 1 + left → is_bit_set done q ≡ true) → is_bit_set done q ≡ true
    go true f k later = absurd (cc k)
    go false f k later =
        elim (ℕ_discrete q p) [
          | yes is ↦ subst (λ j. is_bit_set done j ≡ true) (sym is) (here (is_bit_set reg p) (is_bit_set done p) f (subst (λ j. is_bit_set reg j ≡ true) is h))
          | no n ↦ later k (omega (arith, low, n)) (omega (arith, high))
        ]

one_less : (p : ℕ) → p < 64 → 64 - p ≡ suc (64 - (p + 1))
one_less p lt = omega (arith, lt)

none_left : (p : ℕ) → 64 ≤ p → 64 - p ≡ 0
none_left p le = omega (arith, le)

pub missing_here : (reg done p : ℕ) → p < 64 → (is_bit_set reg p && not (is_bit_set done p)) ≡ true → missing_from reg done (64 - p) p ≡ Some p
missing_here reg done p lt h = ap (λ n. missing_from reg done n p) (one_less p lt) ∙ ap (λ b. if b then Some p else missing_from reg done (64 - (p + 1)) (p + 1)) h

pub missing_goes : (reg done p : ℕ) → p < 64 → (is_bit_set reg p && not (is_bit_set done p)) ≡ false → missing_from reg done (64 - p) p ≡ missing_from reg done (64 - (p + 1)) (p + 1)
missing_goes reg done p lt h = ap (λ n. missing_from reg done n p) (one_less p lt) ∙ ap (λ b. if b then Some p else missing_from reg done (64 - (p + 1)) (p + 1)) h

pub missing_ends : (reg done p : ℕ) → 64 ≤ p → missing_from reg done (64 - p) p ≡ None
missing_ends reg done p le = ap (λ n. missing_from reg done n p) (none_left p le)

-- ---- Every part has its marker.

all_of : (test : ℕ → Bool) (pred : ℕ → Bool) (k count : ℕ) → ((q : ℕ) → k ≤ q → q < k + count → test q ≡ true → pred q ≡ true) → list_all pred (filter test (numbers_from k count)) ≡ true
all_of test pred k zero h = refl
all_of test pred k (suc count) h = go (test k) refl (all_of test pred (suc k) count (λ q low high t. h q (omega (arith, low)) (omega (arith, high)) t))
  where
    go : (b : Bool) → test k ≡ b → list_all pred (filter test (numbers_from (suc k) count)) ≡ true → list_all pred (if b then k ∷ filter test (numbers_from (suc k) count) else filter test (numbers_from (suc k) count)) ≡ true
    go true e rest = and_both (pred k) (list_all pred (filter test (numbers_from (suc k) count))) (h k (omega arith) (omega arith) e) rest
    go false e rest = rest

pub some_marker : (x : TxnId) (es : List CoreEntry) → list_any (ends x) es ≡ true → (d : Decision) × (marker_of es x ≡ Some d)
some_marker x [] h = absurd (no_true h)
some_marker x (e ∷ es) h = go (marks x e) refl (some_marker x es)
  where
    go : (o : Option Decision) → marks x e ≡ o → (list_any (ends x) es ≡ true → (d : Decision) × (marker_of es x ≡ Some d)) → (d : Decision) × (option_or (marks x e) (marker_of es x) ≡ Some d)
    go (Some d) is more = (d, ap (λ o. option_or o (marker_of es x)) is)
    go None is more =
        let later = more (ap (λ o. is_some o || list_any (ends x) es) (sym is) ∙ h) in
        (later.0, ap (λ o. option_or o (marker_of es x)) is ∙ later.1)

module _ (lists : List (List CoreEntry)) (s : table.State ℕ View) (h : Holds lists s) (x : ℕ) where
  -- a part that is done has the marker of the logged decision
  marked_part : (d : Decision) (q : ℕ) → IsIn (low_in lists) window x → 1 ≤ q → q ≤ 62 → decision_of (settled_of h.state 0) (txn x) ≡ Some d → is_bit_set (slice_index s.words (word_at (low_in lists) x Done)) q ≡ true → is_decision (marker_of (settled_of h.state q) (txn x)) d ≡ true
  marked_part d zero inside low high dec bit = absurd (omega (arith, low))
  marked_part d (suc q) inside low high dec bit =
      let told : tells (settled_of h.state) (txn x) Done (suc q) ≡ true = bit_true (tells (settled_of h.state) (txn x) Done (suc q)) (ap (λ k. k == 1) (sym (h.words.bits x Done (suc q) inside (omega (arith, high)))) ∙ bit) in
      let m = some_marker (txn x) (settled_of h.state (suc q)) told in
      let long : marker_of (settled_of h.state (suc q) ++ flight_of h.state (suc q)) (txn x) ≡ Some m.0 = first_of-append (marks (txn x)) (settled_of h.state (suc q)) (flight_of h.state (suc q)) ∙ ap (λ o. option_or o (marker_of (flight_of h.state (suc q)) (txn x))) m.1 in
      let same : m.0 ≡ d = cc (sym ((kept lists s h).stands.decided (suc q) (txn x) m.0 long) ∙ dec) in
      decision_test (marker_of (settled_of h.state (suc q)) (txn x)) d (m.1 ∙ ap Some same)

  pub all_marked : (d : Decision) (reg : ℕ) → IsIn (low_in lists) window x → decision_of (settled_of h.state 0) (txn x) ≡ Some d
      → ((p : ℕ) → p < 64 → is_bit_set reg p ≡ tells (settled_of h.state) (txn x) Registered p)
      → first_missing reg (slice_index s.words (word_at (low_in lists) x Done)) ≡ None → is_marked (settled_of h.state) (txn x) d ≡ true
  all_marked d reg inside dec own none =
      all_of (in_parts (settled_of h.state 0) (txn x)) (λ q. is_decision (marker_of (settled_of h.state q) (txn x)) d) 1 62
      (λ q low high i. marked_part d q inside low (omega (arith, high)) dec (none_missing reg (slice_index s.words (word_at (low_in lists) x Done)) 63 1 (missing_is reg (slice_index s.words (word_at (low_in lists) x Done)) ∙ none) q low (omega (arith, high)) (own q (omega (arith, high)) ∙ registered q low i)))
    where
      registered : (q : ℕ) → 1 ≤ q → in_parts (settled_of h.state 0) (txn x) q ≡ true → tells (settled_of h.state) (txn x) Registered q ≡ true
      registered zero low i = absurd (omega (arith, low))
      registered (suc q) low i = i

pub closing_cross : (lists : ℕ → List CoreEntry) (p : ℕ) (x : TxnId) (d : Decision) → is_marked lists x d ≡ true → list_all (may_cross lists p) (closing_skeleton x d ∷ []) ≡ true
closing_cross lists p x Commit h = and_both (is_marked lists x Commit) true h refl
closing_cross lists p x Abort h = and_both (is_marked lists x Abort) true h refl

-- the closing by the coordinator's row, where each registered part is done
pub closing_allowed : (lists : List (List CoreEntry)) (s : table.State ℕ View) (h : Holds lists s) (id : ℕ) (v : View) (seat : get_elem? s.views id ≡ some v) (x reg : ℕ) (r : SeatRow) (d : Decision) → IsIn (low_in lists) window x → v.rows ≡ r ∷ []
    → r.part ≡ 0 → decision_of r.row.settled (txn x) ≡ Some d → IsOfRow x Registered reg v → first_missing reg (slice_index s.words (word_at (low_in lists) x Done)) ≡ None
    → list_all (may_cross (settled_of h.state) r.part) (closing_skeleton (txn x) d ∷ []) ≡ true
closing_allowed lists s h id v seat x reg r d inside one first decided own none =
    let its = mine lists s h id v seat r one in
    let log : settled_of h.state 0 ≡ r.row.settled = ap (settled_of h.state) (sym first) ∙ ap (λ (k : CoreRow). k.settled) its.2 in
    let dec : decision_of (settled_of h.state 0) (txn x) ≡ Some d = ap (λ l. decision_of l (txn x)) log ∙ decided in
    let bits : (p : ℕ) → p < 64 → is_bit_set reg p ≡ tells (settled_of h.state) (txn x) Registered p = λ p lt. own r one p lt (sym first) ∙ ap (λ l. list_any (sets Registered p (txn x)) l) (sym log) in
    closing_cross (settled_of h.state) r.part (txn x) d (all_marked lists s h x d reg inside dec bits none)

pub starts_close : (lists : List (List CoreEntry)) (id : ℕ) (v : View) (place x reg : ℕ) → IsIn (low_in lists) window x → place ≡ word_at (low_in lists) x Done
    → MayClose (parts_in lists) x v → IsOfRow x Registered reg v
    → AllowsTo (Holds lists) id v place (λ n. n) (λ n. loaded place n (start_where (closing_where (first_missing reg n) v.rows x) v))
starts_close lists id v place x reg inside at m own =
    λ s h seat. start_at lists s h id v seat place (closing_where (first_missing reg (slice_index s.words place)) v.rows x) (λ e more is. go s h seat (first_missing reg (slice_index s.words place)) refl e more is)
  where
    one : closing_in v.rows x ≡ closing_skeleton (txn x) m.decision ∷ []
    one = ap (λ rs. closing_in rs x) m.may.one ∙ ap (λ o. closing_by o x) m.decided

    closes_none : (y : ℕ) (d : Decision) → y < low_in lists → entries_of (txn y) (closing_skeleton (txn x) d ∷ []) ≡ []
    closes_none y Commit lt = none_one (txn y) (closing_skeleton (txn x) Commit) (below_none lists y x inside lt)
    closes_none y Abort lt = none_one (txn y) (closing_skeleton (txn x) Abort) (below_none lists y x inside lt)

    begins_none : (d : Decision) → count_new (closing_skeleton (txn x) d ∷ []) ≡ 0
    begins_none Commit = refl
    begins_none Abort = refl

    go : (s : table.State ℕ View) (h : Holds lists s) (seat : get_elem? s.views id ≡ some v) (o : Option ℕ) → first_missing reg (slice_index s.words place) ≡ o → (e : CoreEntry) (more : List CoreEntry) → closing_where o v.rows x ≡ e ∷ more
        → (k : MayStart (parts_in lists) (closing_where o v.rows x) v) × (list_all (may_cross (settled_of h.state) k.row.part) (closing_where o v.rows x) ≡ true) × StartFits lists k.row (closing_where o v.rows x)
    go s h seat (Some q) f e more is = absurd (cc is)
    go s h seat None f e more is =
        let none : first_missing reg (slice_index s.words (word_at (low_in lists) x Done)) ≡ None = ap (λ i. first_missing reg (slice_index s.words i)) (sym at) ∙ f in
        let all = closing_allowed lists s h id v seat x reg m.may.row m.decision inside m.may.one m.first m.decided own none in
        let fits : StartFits lists m.may.row (closing_skeleton (txn x) m.decision ∷ []) =
        record { none = λ y lt. closes_none y m.decision lt; begun = no_begin lists s h id v seat m.may.row m.may.one (closing_skeleton (txn x) m.decision ∷ []) (begins_none m.decision) } in
        subst (λ (es : List CoreEntry). (k : MayStart (parts_in lists) es v) × (list_all (may_cross (settled_of h.state) k.row.part) es ≡ true) × StartFits lists k.row es) (sym one) (m.may, all, fits)

-- what a word has of the seat's own part, by its row
pub of_row : (lists : List (List CoreEntry)) (s : table.State ℕ View) (h : Holds lists s) (id : ℕ) (v : View) (seat : get_elem? s.views id ≡ some v) (place x : ℕ) (w : Word) → IsIn (low_in lists) window x → place ≡ word_at (low_in lists) x w
    → IsOfRow x w (slice_index s.words place) v
of_row lists s h id v seat place x w inside at r one p lt own =
    let its = mine lists s h id v seat r one in
    let list : settled_of h.state (teller w p) ≡ r.row.settled = ap (settled_of h.state) own ∙ ap (λ (k : CoreRow). k.settled) its.2 in
    ap (λ i. is_bit_set (slice_index s.words i) p) at ∙ (ap (λ k. k == 1) (h.words.bits x w p inside lt) ∙ (bit (tells (settled_of h.state) (txn x) w p) ∙ ap (λ l. list_any (sets w p (txn x)) l) list))
  where
    bit : (b : Bool) → (as_bit b == 1) ≡ b
    bit true = refl
    bit false = refl

-- the same by what a load showed
pub found_row : (lists : List (List CoreEntry)) (place n : ℕ) (v : View) (x : ℕ) (w : Word) → IsIn (low_in lists) window x → place ≡ word_at (low_in lists) x w → Found lists place n v → IsOfRow x w n v
found_row lists place n v x w inside at f = subst (λ k. IsOfRow x w k v) f.stood (of_row lists f.board f.rule f.seat v f.view place x w inside at)

-- what the start of a closing tells, by its two loads
pub starts_closing : (made : Type 0) (lists : List (List CoreEntry)) (x reg done : ℕ) (missing : Option ℕ) (v u w : View) (first second : ℕ)
    → IsIn (low_in lists) window x → first ≡ word_at (low_in lists) x Registered → second ≡ word_at (low_in lists) x Done
    → u ≡ loaded first reg v → w ≡ loaded second done (row_step (turn.Close x reg) u done) → missing ≡ first_missing reg done → (made → Found lists first reg v) → (made → Found lists second done u) → ShowsOn first reg v.loads → ShowsOn second done u.loads
    → StartsClosing made lists x reg done missing v w
starts_closing made lists x reg done missing v u w first second inside a b e f is looked found on more =
    let seen : u ≡ loaded (word_at (low_in lists) x Registered) reg v = e ∙ ap (λ i. loaded i reg v) a in
    record {
      looked = λ p. subst (λ i. Found lists i reg v) a (looked p);
      grows = subst (λ i. ShowsOn i reg v.loads) a on;
      of_row = λ p. found_row lists first reg v x Registered inside a (looked p);
      starts = record {
        view = f
            ∙ (ap (λ (t : View). loaded second done (start_where (closing_where (first_missing reg done) t.rows x) t)) seen
            ∙ (ap (λ o. loaded second done (start_where (closing_where o v.rows x) (loaded (word_at (low_in lists) x Registered) reg v))) (sym is)
            ∙ ap (λ i. loaded i done (start_where (closing_where missing v.rows x) (loaded (word_at (low_in lists) x Registered) reg v))) b));
        found = λ p. subst (λ i. Found lists i done (loaded (word_at (low_in lists) x Registered) reg v)) b (subst (λ (t : View). Found lists second done t) seen (found p));
        grows = subst (λ i. ShowsOn i done (loaded (word_at (low_in lists) x Registered) reg v).loads) b (subst (λ (t : View). ShowsOn second done t.loads) seen more);
      };
      least = is;
    }
