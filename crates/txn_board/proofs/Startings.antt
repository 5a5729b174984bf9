-- A part starts entries, by the value of the word that is loaded.
use Rattle.std.proofs.Common.{◌≡◌, ◌≢◌, inl, inr, ℕ, zero, suc, ◌+◌, ◌==◌, ◌<◌, ◌≤◌, arith, Bool, true, false, ◌&&◌, if◌then◌else◌, List, [], ◌∷◌, ◌++◌, length, set, replicate, Option, Some, None, refl, sym, ap, ◌∙◌, subst, append_assoc}
use Rattle.std.specs.Prelude.{slice_index, nat_lt}
use Rattle.std.specs.List.{list_all, list_any}
use Rattle.std.specs.Option.{option_or}
use Rattle.std.proofs.lemmas.Bool.{eq-eqb, lt-ltb, ltb-true}
use Rattle.std.proofs.lemmas.List.Elements.{filter-append}
use mathlib.Core.Option.{some}
use lib.ListN.{get_elem?}
use Rattle.atomic_table.specs.Table as table
use Rattle.txn_base.specs.declared.txn.TxnId.{TxnId}
use Rattle.txn_base.specs.declared.txn.Decision.{Decision}
use Rattle.txn_base.specs.declared.txn.Decision.TheVariants.{Commit, Abort}
use Rattle.txn_base.specs.declared.core_entry.CoreEntry.{CoreEntry}
use Rattle.txn_base.specs.declared.core_entry.CoreEntry.TheVariants as core
use Rattle.txn_model.specs.Words.{first_of}
use Rattle.txn_model.specs.Skeletons.{same_txn}
use Rattle.txn_model.specs.Coord.{decision_of, decision_skeleton, says_decision, in_parts, count_new, CoordLawful}
use Rattle.txn_model.specs.Deadlines.{txn}
use Rattle.txn_model.proofs.Laws.Tests.{no_true, and_l, and_r, and_both, or_cases}
use Rattle.txn_model.proofs.Laws.Lists.{first_of-append}
use Rattle.txn_model.proofs.Laws.Logs.{txn_equal, undecided_before}
use Rattle.txn_core.specs.declared.step.CoreRow.{CoreRow}
use Rattle.txn_core.specs.declared.step.CoreStep.TheVariants as act
use Rattle.txn_core.specs.Together.{is_alone}
use Rattle.txn_core.specs.Steps.{settled_of, flight_of, with_row, start_row, settle_row, stop_row, is_decision, may_cross, is_batch, can}
use Rattle.txn_core.proofs.Laws.{alone_log, decision_test}
use Rattle.txn_board.specs.declared.view.SeatRow.{SeatRow}
use Rattle.txn_board.specs.declared.view.View.{View}
use Rattle.txn_board.specs.declared.words.Word.{Word}
use Rattle.txn_board.specs.declared.words.Word.TheVariants.{Registered, Decided}
use Rattle.txn_board.specs.declared.words.OwnStart.{OwnStart}
use Rattle.txn_board.specs.declared.words.OwnStart.TheVariants as own
use Rattle.txn_board.specs.declared.words.RowStep.{RowStep}
use Rattle.txn_board.specs.declared.words.RowStep.TheVariants as turn
use Rattle.txn_board.specs.Words.{window, IsIn, is_in, word_at, as_bit, is_bit_set, decides, tells, is_of, entries_of}
use Rattle.txn_board.specs.Rows.{parts_in, low_in, IsNumberOf, with_row_by, start_view, loaded}
use Rattle.txn_board.specs.Rule.{Holds, AllowsTo}
use Rattle.txn_board.specs.Seen.{decision_by}
use Rattle.txn_board.specs.Calls.{MayStart, MayStartIn, IsOwnIn, own_entries, start_where, bit_found, inside_where, marker_where, start_place, first_missing, closing_where, row_step}
use Rattle.txn_board.proofs.Entries.{count_more, new_next, other_txn, none_plain, none_inside, none_one, no_new_plain, no_new_inside}
use Rattle.txn_board.proofs.Marks.{in_by, in_of}
use Rattle.txn_board.proofs.Steps.{RowStays, log_lawful, looks, mine, row_fits, row_stays}

-- what the row shows and what other lists give: the core allows the start
pub can_start : (lists : List (List CoreEntry)) (s : table.State ℕ View) (h : Holds lists s) (id : ℕ) (v : View) (seat : get_elem? s.views id ≡ some v) (es : List CoreEntry) (m : MayStart (parts_in lists) es v)
    → list_all (may_cross (settled_of h.state) m.row.part) es ≡ true → can (parts_in lists) h.state (act.Start m.row.part es) ≡ true
can_start lists s h id v seat es m cross =
    let p = m.row.part in
    let its = mine lists s h id v seat m.row m.one in
    let a1 = nat_lt p (length h.state.rows) in
    let a2 = a1 && length (flight_of h.state p) == 0 in
    let a3 = a2 && is_batch p es in
    let a4 = a3 && is_alone (parts_in lists) p (settled_of h.state p ++ es) in
    let c1 : a1 ≡ true = lt-ltb p (length h.state.rows) its.1 in
    let c2 : a2 ≡ true = and_both a1 (length (flight_of h.state p) == 0) c1 (eq-eqb (length (flight_of h.state p)) 0 (ap length (ap (λ (x : CoreRow). x.flight) its.2 ∙ m.resting))) in
    let c3 : a3 ≡ true = and_both a2 (is_batch p es) c2 m.batch in
    let c4 : a4 ≡ true = and_both a3 (is_alone (parts_in lists) p (settled_of h.state p ++ es)) c3 (ap (λ l. is_alone (parts_in lists) p (l ++ es)) (ap (λ (x : CoreRow). x.settled) its.2) ∙ m.alone) in
    and_both a4 (list_all (may_cross (settled_of h.state) p) es) c4 cross

-- what starts is of no transaction below the window, and what it begins lies in it
pub record StartFits (lists : List (List CoreEntry)) (r : SeatRow) (es : List CoreEntry) : Type 0 where
  pub none : (x : ℕ) → x < low_in lists → entries_of (txn x) es ≡ []
  pub begun : r.part ≡ 0 → count_new (r.row.settled ++ es) ≤ low_in lists + window

start_stays : (lists : List (List CoreEntry)) (r : SeatRow) (es : List CoreEntry) → r.row.flight ≡ [] → StartFits lists r es → RowStays lists r (start_row es r.row)
start_stays lists r es resting k =
    record {
      below = λ x lt.
          filter-append (is_of (txn x)) r.row.settled es
          ∙ (ap (λ l. entries_of (txn x) r.row.settled ++ l) (k.none x lt) ∙ (sym (filter-append (is_of (txn x)) r.row.settled []) ∙ ap (λ l. entries_of (txn x) (r.row.settled ++ l)) (sym resting)));
      fits = k.begun;
    }

-- entries that begin nothing
pub no_begin : (lists : List (List CoreEntry)) (s : table.State ℕ View) (h : Holds lists s) (id : ℕ) (v : View) (seat : get_elem? s.views id ≡ some v) (r : SeatRow) → v.rows ≡ r ∷ [] → (es : List CoreEntry) → count_new es ≡ 0
    → r.part ≡ 0 → count_new (r.row.settled ++ es) ≤ low_in lists + window
no_begin lists s h id v seat r is es none z = omega (arith, count_more r.row.settled es, count_more r.row.settled r.row.flight, none, row_fits lists s h id v seat r is z)

-- a start of these entries, or of none
pub start_at : (lists : List (List CoreEntry)) (s : table.State ℕ View) (h : Holds lists s) (id : ℕ) (v : View) (seat : get_elem? s.views id ≡ some v) (place : ℕ) (es : List CoreEntry)
    → ((e : CoreEntry) (more : List CoreEntry) → es ≡ e ∷ more → (m : MayStart (parts_in lists) es v) × (list_all (may_cross (settled_of h.state) m.row.part) es ≡ true) × StartFits lists m.row es)
    → Holds lists (record { words = set s.words place (slice_index s.words place); homes = s.homes; views = set s.views id (loaded place (slice_index s.words place) (start_where es v)) })
start_at lists s h id v seat place [] may = looks lists s h id v seat place
start_at lists s h id v seat place (e ∷ more) may =
    let k = may e more refl in
    let m = k.0 in
    let its = mine lists s h id v seat m.row m.one in
    row_stays lists s h id v seat m.row m.one (act.Start m.row.part (e ∷ more)) (can_start lists s h id v seat (e ∷ more) m k.1) (start_row (e ∷ more) m.row.row)
    (start_stays lists m.row (e ∷ more) m.resting k.2) (ap (λ x. with_row h.state m.row.part (start_row (e ∷ more) x)) its.2) refl (loaded place (slice_index s.words place) (start_view (e ∷ more) v)) (ap (with_row_by (start_row (e ∷ more))) m.one) place refl

pub below_none : (lists : List (List CoreEntry)) (x y : ℕ) → IsIn (low_in lists) window y → x < low_in lists → same_txn (txn x) (txn y) ≡ false
below_none lists x y i lt = other_txn x y (λ e. omega (arith, e, lt, i.least))

-- ---- Own.

plain_cross : (lists : ℕ → List CoreEntry) (p count : ℕ) → list_all (may_cross lists p) (replicate count core.Plain) ≡ true
plain_cross lists p zero = refl
plain_cross lists p (suc count) = plain_cross lists p count

own_cross : (lists : ℕ → List CoreEntry) (p : ℕ) (o : OwnStart) → list_all (may_cross lists p) (own_entries o) ≡ true
own_cross lists p (own.Plain count) = plain_cross lists p count
own_cross lists p (own.New x) = refl
own_cross lists p (own.AddPart x q) = refl
own_cross lists p (own.Decide x Commit) = refl
own_cross lists p (own.Decide x Abort) = refl

own_none : (lists : List (List CoreEntry)) (o : OwnStart) → IsOwnIn lists o → (x : ℕ) → x < low_in lists → entries_of (txn x) (own_entries o) ≡ []
own_none lists (own.Plain count) i x lt = none_plain (txn x) count
own_none lists (own.New y) i x lt = none_one (txn x) (core.New (txn y)) (below_none lists x y i lt)
own_none lists (own.AddPart y q) i x lt = none_one (txn x) (core.AddPart (txn y) q) (below_none lists x y i lt)
own_none lists (own.Decide y Commit) i x lt = none_one (txn x) (core.Committing (txn y)) (below_none lists x y i lt)
own_none lists (own.Decide y Abort) i x lt = none_one (txn x) (core.Aborting (txn y)) (below_none lists x y i lt)

own_begun : (lists : List (List CoreEntry)) (n : ℕ) (c : List CoreEntry) (o : OwnStart) → IsOwnIn lists o → CoordLawful n (c ++ own_entries o) → count_new c ≤ low_in lists + window → count_new (c ++ own_entries o) ≤ low_in lists + window
own_begun lists n c (own.Plain count) i law le = omega (arith, le, count_more c (replicate count core.Plain), no_new_plain count)
own_begun lists n c (own.New y) i law le =
    let one : count_new (core.New (txn y) ∷ []) ≡ 1 = refl in
    omega (arith, le, i.most, new_next n y c law, count_more c (core.New (txn y) ∷ []), one)
own_begun lists n c (own.AddPart y q) i law le = let none : count_new (core.AddPart (txn y) q ∷ []) ≡ 0 = refl in omega (arith, le, count_more c (core.AddPart (txn y) q ∷ []), none)
own_begun lists n c (own.Decide y Commit) i law le = let none : count_new (core.Committing (txn y) ∷ []) ≡ 0 = refl in omega (arith, le, count_more c (core.Committing (txn y) ∷ []), none)
own_begun lists n c (own.Decide y Abort) i law le = let none : count_new (core.Aborting (txn y) ∷ []) ≡ 0 = refl in omega (arith, le, count_more c (core.Aborting (txn y) ∷ []), none)

pub starts_own : (lists : List (List CoreEntry)) (id : ℕ) (v : View) (place : ℕ) (o : OwnStart) → MayStart (parts_in lists) (own_entries o) v → IsOwnIn lists o → AllowsTo (Holds lists) id v place (λ n. n) (λ n. loaded place n (start_where (own_entries o) v))
starts_own lists id v place o m i =
    λ s h seat. start_at lists s h id v seat place (own_entries o)
    (λ e more is. (
      m,
      own_cross (settled_of h.state) m.row.part o,
      record {
        none = own_none lists o i;
        begun = λ z.
            let le = row_fits lists s h id v seat m.row m.one z in
            own_begun lists (parts_in lists) m.row.row.settled o i (alone_log (parts_in lists) (m.row.row.settled ++ own_entries o) (subst (λ q. is_alone (parts_in lists) q (m.row.row.settled ++ own_entries o) ≡ true) z m.alone))
            (omega (arith, le, count_more m.row.row.settled m.row.row.flight));
      },
    ))

-- ---- Messages and holds.

pub bit_true : (b : Bool) → (as_bit b == 1) ≡ true → b ≡ true
bit_true true h = refl
bit_true false h = absurd (no_true h)

inside_cross : (lists : ℕ → List CoreEntry) (p x count : ℕ) → in_parts (lists 0) (txn x) p ≡ true → list_all (may_cross lists p) (replicate count (core.Inside (txn x))) ≡ true
inside_cross lists p x zero h = refl
inside_cross lists p x (suc count) h = and_both (in_parts (lists 0) (txn x) p) (list_all (may_cross lists p) (replicate count (core.Inside (txn x)))) h (inside_cross lists p x count h)

registers : (lists : ℕ → List CoreEntry) (x p : ℕ) → p ≢ 0 → tells lists (txn x) Registered p ≡ true → in_parts (lists 0) (txn x) p ≡ true
registers lists x zero away h = absurd (away refl)
registers lists x (suc p) away h = h

-- messages or a hold of a part whose bit the word has
pub inside_allowed : (lists : List (List CoreEntry)) (s : table.State ℕ View) (h : Holds lists s) (place x count p : ℕ) → IsIn (low_in lists) window x → place ≡ word_at (low_in lists) x Registered → p ≢ 0
    → (nat_lt p 64 && is_bit_set (slice_index s.words place) p) ≡ true → list_all (may_cross (settled_of h.state) p) (replicate count (core.Inside (txn x))) ≡ true
inside_allowed lists s h place x count p inside at away t =
    let small : p < 64 = ltb-true p 64 (and_l (nat_lt p 64) (is_bit_set (slice_index s.words place) p) t) in
    let bit : is_bit_set (slice_index s.words (word_at (low_in lists) x Registered)) p ≡ true = ap (λ i. is_bit_set (slice_index s.words i) p) (sym at) ∙ and_r (nat_lt p 64) (is_bit_set (slice_index s.words place) p) t in
    let told : tells (settled_of h.state) (txn x) Registered p ≡ true = bit_true (tells (settled_of h.state) (txn x) Registered p) (ap (λ k. k == 1) (sym (h.words.bits x Registered p inside small)) ∙ bit) in
    inside_cross (settled_of h.state) p x count (registers (settled_of h.state) x p away told)

pub starts_in : (lists : List (List CoreEntry)) (id : ℕ) (v : View) (place x count : ℕ) (number : Option ℕ) → IsIn (low_in lists) window x → place ≡ word_at (low_in lists) x Registered
    → ((r : SeatRow) → v.rows ≡ r ∷ [] → number ≡ Some r.part) → MayStartIn (parts_in lists) x count v
    → AllowsTo (Holds lists) id v place (λ n. n) (λ n. loaded place n (start_where (inside_where (bit_found number n) x count) v))
starts_in lists id v place x count number inside at its m =
    λ s h seat. start_at lists s h id v seat place (inside_where (bit_found number (slice_index s.words place)) x count) (λ e more is. go s h seat (bit_found number (slice_index s.words place)) refl e more is)
  where
    go : (s : table.State ℕ View) (h : Holds lists s) → get_elem? s.views id ≡ some v → (b : Bool) → bit_found number (slice_index s.words place) ≡ b → (e : CoreEntry) (more : List CoreEntry) → inside_where b x count ≡ e ∷ more
        → (k : MayStart (parts_in lists) (inside_where b x count) v) × (list_all (may_cross (settled_of h.state) k.row.part) (inside_where b x count) ≡ true) × StartFits lists k.row (inside_where b x count)
    go s h seat false f e more is = absurd (cc is)
    go s h seat true f e more is =
        let p = m.may.row.part in
        let t : (nat_lt p 64 && is_bit_set (slice_index s.words place) p) ≡ true = ap (λ o. bit_found o (slice_index s.words place)) (sym (its m.may.row m.may.one)) ∙ f in
        let fits : StartFits lists m.may.row (replicate count (core.Inside (txn x))) =
        record { none = λ y lt. none_inside (txn y) (txn x) count (below_none lists y x inside lt); begun = no_begin lists s h id v seat m.may.row m.may.one (replicate count (core.Inside (txn x))) (no_new_inside (txn x) count) } in
        (m.may, inside_allowed lists s h place x count p inside at m.part t, fits)

-- ---- Markers.

some_is : (b : Bool) (d w : Decision) → is_decision (if b then Some w else None) d ≡ true → (b ≡ true) × (is_decision (Some w) d ≡ true)
some_is true d w h = (refl, h)
some_is false d w h = absurd (no_true h)

-- an entry that decides x by d is the decision's
decider : (x : TxnId) (d : Decision) (e : CoreEntry) → decides x d e ≡ true → e ≡ decision_skeleton x d
decider x Commit (core.Committing y) h = ap core.Committing (sym (txn_equal x y (some_is (same_txn x y) Commit Commit h).0))
decider x Abort (core.Committing y) h = absurd (no_true (some_is (same_txn x y) Abort Commit h).1)
decider x Commit (core.Aborting y) h = absurd (no_true (some_is (same_txn x y) Commit Abort h).1)
decider x Abort (core.Aborting y) h = ap core.Aborting (sym (txn_equal x y (some_is (same_txn x y) Abort Abort h).0))
decider x d core.Plain h = absurd (no_true h)
decider x d (core.Inside y) h = absurd (no_true h)
decider x d (core.Marker y w) h = absurd (no_true h)
decider x d (core.New y) h = absurd (no_true h)
decider x d (core.AddPart y p) h = absurd (no_true h)
decider x d (core.Committed y) h = absurd (no_true h)
decider x d (core.Aborted y) h = absurd (no_true h)

first_said : (x : TxnId) (d : Decision) (rest : List CoreEntry) → first_of (says_decision x) (decision_skeleton x d ∷ rest) ≡ Some d
first_said x Commit rest = ap (λ b. option_or (if b then Some Commit else None) (first_of (says_decision x) rest)) (and_both (x.most == x.most) (x.least == x.least) (eq-eqb x.most x.most refl) (eq-eqb x.least x.least refl))
first_said x Abort rest = ap (λ b. option_or (if b then Some Abort else None) (first_of (says_decision x) rest)) (and_both (x.most == x.most) (x.least == x.least) (eq-eqb x.most x.most refl) (eq-eqb x.least x.least refl))

-- in a lawful log, one decision that stands there is the one
decided_along : (n : ℕ) (x : TxnId) (d : Decision) (front rest : List CoreEntry) → CoordLawful n (front ++ rest) → list_any (decides x d) rest ≡ true → decision_of (front ++ rest) x ≡ Some d
decided_along n x d front [] law h = absurd (no_true h)
decided_along n x d front (e ∷ rest) law h =
    elim (or_cases (decides x d e) (list_any (decides x d) rest) h) [
      | inl now ↦
          let is : e ≡ decision_skeleton x d = decider x d e now in
          let none : decision_of front x ≡ None = undecided_before n front x d rest (subst (λ k. CoordLawful n (front ++ k ∷ rest)) is law) in
          first_of-append (says_decision x) front (e ∷ rest) ∙ (ap (λ o. option_or o (first_of (says_decision x) (e ∷ rest))) none ∙ (ap (λ k. first_of (says_decision x) (k ∷ rest)) is ∙ first_said x d rest))
      | inr later ↦ subst (λ l. decision_of l x ≡ Some d) (append_assoc front (e ∷ []) rest) (decided_along n x d (front ++ e ∷ []) rest (subst (CoordLawful n) (sym (append_assoc front (e ∷ []) rest)) law) later)
    ]

pub decided : (n : ℕ) (c : List CoreEntry) (x : TxnId) (d : Decision) → CoordLawful n c → list_any (decides x d) c ≡ true → decision_of c x ≡ Some d
decided n c x d law h = decided_along n x d [] c law h

-- the marker of the decision whose bit the word has
pub marker_allowed : (lists : List (List CoreEntry)) (s : table.State ℕ View) (h : Holds lists s) (place x p : ℕ) (d : Decision) → IsIn (low_in lists) window x → place ≡ word_at (low_in lists) x Decided
    → decision_by (is_bit_set (slice_index s.words place) 0) (is_bit_set (slice_index s.words place) 1) ≡ Some d → list_all (may_cross (settled_of h.state) p) (core.Marker (txn x) d ∷ []) ≡ true
marker_allowed lists s h place x p d inside at is = go (is_bit_set (slice_index s.words place) 0) (is_bit_set (slice_index s.words place) 1) refl refl is
  where
    cross : (i : ℕ) (d : Decision) → i < 64 → tells (settled_of h.state) (txn x) Decided i ≡ list_any (decides (txn x) d) (settled_of h.state 0) → is_bit_set (slice_index s.words place) i ≡ true
        → list_all (may_cross (settled_of h.state) p) (core.Marker (txn x) d ∷ []) ≡ true
    cross i d small same bit =
        let b : is_bit_set (slice_index s.words (word_at (low_in lists) x Decided)) i ≡ true = ap (λ j. is_bit_set (slice_index s.words j) i) (sym at) ∙ bit in
        let told : list_any (decides (txn x) d) (settled_of h.state 0) ≡ true = sym same ∙ bit_true (tells (settled_of h.state) (txn x) Decided i) (ap (λ k. k == 1) (sym (h.words.bits x Decided i inside small)) ∙ b) in
        let law = log_lawful lists s h in
        and_both (is_decision (decision_of (settled_of h.state 0) (txn x)) d) true (decision_test (decision_of (settled_of h.state 0) (txn x)) d (decided (parts_in lists) (settled_of h.state 0) (txn x) d law told)) refl

    go : (a b : Bool) → is_bit_set (slice_index s.words place) 0 ≡ a → is_bit_set (slice_index s.words place) 1 ≡ b → decision_by a b ≡ Some d → list_all (may_cross (settled_of h.state) p) (core.Marker (txn x) d ∷ []) ≡ true
    go true b f g e = subst (λ w. list_all (may_cross (settled_of h.state) p) (core.Marker (txn x) w ∷ []) ≡ true) (cc e) (cross 0 Commit (omega arith) refl f)
    go false true f g e = subst (λ w. list_all (may_cross (settled_of h.state) p) (core.Marker (txn x) w ∷ []) ≡ true) (cc e) (cross 1 Abort (omega arith) refl g)
    go false false f g e = absurd (cc e)

pub starts_marker : (lists : List (List CoreEntry)) (id : ℕ) (v : View) (place x : ℕ) → IsIn (low_in lists) window x → place ≡ word_at (low_in lists) x Decided
    → ((d : Decision) → MayStart (parts_in lists) (marker_where x (Some d)) v)
    → AllowsTo (Holds lists) id v place (λ n. n) (λ n. loaded place n (start_where (marker_where x (decision_by (is_bit_set n 0) (is_bit_set n 1))) v))
starts_marker lists id v place x inside at m =
    λ s h seat. start_at lists s h id v seat place (marker_where x (decision_by (is_bit_set (slice_index s.words place) 0) (is_bit_set (slice_index s.words place) 1)))
    (λ e more is. go s h seat (is_bit_set (slice_index s.words place) 0) (is_bit_set (slice_index s.words place) 1) refl refl e more is)
  where
    fits : (s : table.State ℕ View) (h : Holds lists s) → get_elem? s.views id ≡ some v → (d : Decision) → StartFits lists (m d).row (core.Marker (txn x) d ∷ [])
    fits s h seat d =
        record { none = λ y lt. none_one (txn y) (core.Marker (txn x) d) (below_none lists y x inside lt); begun = no_begin lists s h id v seat (m d).row (m d).one (core.Marker (txn x) d ∷ []) refl }

    go : (s : table.State ℕ View) (h : Holds lists s) → get_elem? s.views id ≡ some v → (a b : Bool) → is_bit_set (slice_index s.words place) 0 ≡ a → is_bit_set (slice_index s.words place) 1 ≡ b → (e : CoreEntry) (more : List CoreEntry) → marker_where x (decision_by a b) ≡ e ∷ more
        → (k : MayStart (parts_in lists) (marker_where x (decision_by a b)) v) × (list_all (may_cross (settled_of h.state) k.row.part) (marker_where x (decision_by a b)) ≡ true) × StartFits lists k.row (marker_where x (decision_by a b))
    go s h seat true b f g e more is = (m Commit, marker_allowed lists s h place x (m Commit).row.part Commit inside at (ap (λ t. decision_by t (is_bit_set (slice_index s.words place) 1)) f), fits s h seat Commit)
    go s h seat false true f g e more is = (m Abort, marker_allowed lists s h place x (m Abort).row.part Abort inside at (ap (λ t. decision_by t (is_bit_set (slice_index s.words place) 1)) f ∙ ap (decision_by false) g), fits s h seat Abort)
    go s h seat false false f g e more is = absurd (cc is)

-- ---- The place of a word in the window.

pub placed : (lists : List (List CoreEntry)) (x : ℕ) (w : Word) (place : ℕ) → start_place lists x w ≡ Some place → IsIn (low_in lists) window x × (place ≡ word_at (low_in lists) x w)
placed lists x w place e = go (is_in (low_in lists) window x) refl e
  where
    go : (b : Bool) → is_in (low_in lists) window x ≡ b → (if b then Some (word_at (low_in lists) x w) else None) ≡ Some place → IsIn (low_in lists) window x × (place ≡ word_at (low_in lists) x w)
    go true i k = (in_of (low_in lists) window x i, cc k)
    go false i k = absurd (cc k)

pub unplaced : (lists : List (List CoreEntry)) (x : ℕ) (w : Word) → start_place lists x w ≡ None → IsIn (low_in lists) window x → ⊥
unplaced lists x w e inside = absurd (cc (sym (ap (λ b. if b then Some (word_at (low_in lists) x w) else None) (in_by (low_in lists) window x inside)) ∙ e))

pub not_outside : (lists : List (List CoreEntry)) (x : ℕ) (w : Word) (place : ℕ) → start_place lists x w ≡ Some place → is_in (low_in lists) window x ≡ false → ⊥
not_outside lists x w place e out = no_true (sym out ∙ in_by (low_in lists) window x (placed lists x w place e).0)

-- ---- A seat keeps its part at a step.

numbered_by : (f : CoreRow → CoreRow) (number : Option ℕ) (rows : List SeatRow) → IsNumberOf number rows → IsNumberOf number (with_row_by f rows)
numbered_by f number [] h = h
numbered_by f number (r ∷ []) h = h
numbered_by f number (r ∷ q ∷ rows) h = h

numbered_where : (number : Option ℕ) (es : List CoreEntry) (v : View) → IsNumberOf number v.rows → IsNumberOf number (start_where es v).rows
numbered_where number [] v h = h
numbered_where number (e ∷ es) v h = numbered_by (start_row (e ∷ es)) number v.rows h

pub step_numbered : (number : Option ℕ) (step : RowStep) (v : View) (n : ℕ) → IsNumberOf number v.rows → IsNumberOf number (row_step step v n).rows
step_numbered number (turn.Own o) v n h = numbered_where number (own_entries o) v h
step_numbered number (turn.Inside x count part) v n h = numbered_where number (inside_where (bit_found part n) x count) v h
step_numbered number (turn.Marker x) v n h = numbered_where number (marker_where x (decision_by (is_bit_set n 0) (is_bit_set n 1))) v h
step_numbered number (turn.Close x reg) v n h = numbered_where number (closing_where (first_missing reg n) v.rows x) v h
step_numbered number turn.Settle v n h = numbered_by settle_row number v.rows h
step_numbered number turn.Lose v n h = numbered_by (stop_row false) number v.rows h

-- a step leaves the loads

where_loads : (es : List CoreEntry) (v : View) → (start_where es v).loads ≡ v.loads
where_loads [] v = refl
where_loads (e ∷ es) v = refl

pub step_loads : (step : RowStep) (v : View) (n : ℕ) → (row_step step v n).loads ≡ v.loads
step_loads (turn.Own o) v n = where_loads (own_entries o) v
step_loads (turn.Inside x count part) v n = where_loads (inside_where (bit_found part n) x count) v
step_loads (turn.Marker x) v n = where_loads (marker_where x (decision_by (is_bit_set n 0) (is_bit_set n 1))) v
step_loads (turn.Close x reg) v n = where_loads (closing_where (first_missing reg n) v.rows x) v
step_loads turn.Settle v n = refl
step_loads turn.Lose v n = refl
